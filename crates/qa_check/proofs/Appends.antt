-- What several appends leave.
use Rattle.std.proofs.Common.{◌≡◌, ℕ, List, ◌++◌, append_assoc}

-- four appends, one after another
pub four_appends : (text a b c d : List ℕ) {text1 text2 text3 text4 : List ℕ}
    → text1 ≡ text ++ a → text2 ≡ text1 ++ b → text3 ≡ text2 ++ c → text4 ≡ text3 ++ d → text4 ≡ text ++ (a ++ b ++ c ++ d)
four_appends text a b c d h1 h2 h3 h4 = rw (h4, h3, h2, h1) (simp append_assoc)

-- six
pub six_appends : (text a b c d e f : List ℕ) {text1 text2 text3 text4 text5 text6 : List ℕ}
    → text1 ≡ text ++ a → text2 ≡ text1 ++ b → text3 ≡ text2 ++ c → text4 ≡ text3 ++ d → text5 ≡ text4 ++ e → text6 ≡ text5 ++ f
    → text6 ≡ text ++ (a ++ b ++ c ++ d ++ e ++ f)
six_appends text a b c d e f h1 h2 h3 h4 h5 h6 = rw (h6, h5, h4, h3, h2, h1) (simp append_assoc)
