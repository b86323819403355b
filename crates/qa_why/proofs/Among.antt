-- Where bytes stand among others.
use Rattle.std.proofs.Common.{◌≡◌, ◌∙◌, ◌+◌, ◌<◌, ℕ, List, [], ◌∷◌, length, drop, true, false, refl, sym, ap, arith, length-drop}
use Rattle.std.proofs.lemmas.List.{drop-drop}
use Rattle.qa_why.specs.Hints.{begins, has}

here : (line part : List ℕ) → 0 < length line → begins line part ≡ true → has line part ≡ true
here [] part some is = absurd (omega arith)
here (byte ∷ line) part some is = rw is refl

later : (line part : List ℕ) → begins line part ≡ false → has (drop 1 line) part ≡ has line part
later [] part is = refl
later (byte ∷ line) part is = rw is refl

-- they begin at this byte
pub has_here : (line part : List ℕ) (at : ℕ) → at < length line → begins (drop at line) part ≡ true → has (drop at line) part ≡ true
has_here line part at within is =
    let len = length-drop at line in
    here (drop at line) part (omega arith) is

-- they do not
pub has_later : (line part : List ℕ) (at : ℕ) → begins (drop at line) part ≡ false → has (drop (at + 1) line) part ≡ has (drop at line) part
has_later line part at is = ap (λ (bytes : List ℕ). has bytes part) (sym (drop-drop 1 at line)) ∙ later (drop at line) part is
