-- Bytes that begin with a word.
use Rattle.std.proofs.Common.{◌≡◌, ◌∙◌, ℕ, ◌+◌, ◌-◌, ◌<◌, ◌≤◌, List, [], ◌∷◌, ◌++◌, true, ◌&&◌, length, take, drop, get_or, sym, ap, arith, add-one, take-append-drop, append_assoc}
use Rattle.std.specs.Prelude.{nat_eq}
use Rattle.std.proofs.lemmas.Bool.{and_parts, eqb-true}
use Rattle.std.proofs.Math.Seq.{take-suc}
use Rattle.std.proofs.lemmas.List.{take_all, length-drop}

-- one byte more is the same
pub same_more : (bs w : List ℕ) (i j : ℕ) → take i bs ≡ take i w → j ≡ i + 1 → i < length bs → i < length w → get_or bs i 0 ≡ get_or w i 0 → take j bs ≡ take j w
same_more bs w i j same next in_bytes in_word is =
    let step = next ∙ add-one i in
    ap (λ k. take k bs) step ∙ take-suc bs i 0 in_bytes ∙ ap (λ front. front ++ get_or bs i 0 ∷ []) same ∙ ap (λ b. take i w ++ b ∷ []) is
    ∙ sym (take-suc w i 0 in_word) ∙ sym (ap (λ k. take k w) step)

-- four bytes more are the same
pub four_more : (bs w : List ℕ) (i : ℕ) → take i bs ≡ take i w → i + 4 ≤ length bs → i + 4 ≤ length w
    → (nat_eq (get_or bs i 0) (get_or w i 0) && nat_eq (get_or bs (i + 1) 0) (get_or w (i + 1) 0) && nat_eq (get_or bs (i + 2) 0) (get_or w (i + 2) 0) && nat_eq (get_or bs (i + 3) 0) (get_or w (i + 3) 0)) ≡ true
    → take (i + 4) bs ≡ take (i + 4) w
four_more bs w i same in_bytes in_word are =
    let h3 = and_parts _ _ are in
    let h2 = and_parts _ _ h3.0 in
    let h1 = and_parts _ _ h2.0 in
    let s1 = same_more bs w i (i + 1) same (omega arith) (omega arith) (omega arith) (eqb-true _ _ h1.0) in
    let s2 = same_more bs w (i + 1) (i + 2) s1 (omega arith) (omega arith) (omega arith) (eqb-true _ _ h1.1) in
    let s3 = same_more bs w (i + 2) (i + 3) s2 (omega arith) (omega arith) (omega arith) (eqb-true _ _ h2.1) in
    same_more bs w (i + 3) (i + 4) s3 (omega arith) (omega arith) (omega arith) (eqb-true _ _ h3.1)

-- eight bytes more are the same
pub eight_more : (bs w : List ℕ) (i : ℕ) → take i bs ≡ take i w → i + 8 ≤ length bs → i + 8 ≤ length w
    → (nat_eq (get_or bs i 0) (get_or w i 0) && nat_eq (get_or bs (i + 1) 0) (get_or w (i + 1) 0) && nat_eq (get_or bs (i + 2) 0) (get_or w (i + 2) 0) && nat_eq (get_or bs (i + 3) 0) (get_or w (i + 3) 0)
    && nat_eq (get_or bs (i + 4) 0) (get_or w (i + 4) 0) && nat_eq (get_or bs (i + 5) 0) (get_or w (i + 5) 0) && nat_eq (get_or bs (i + 6) 0) (get_or w (i + 6) 0) && nat_eq (get_or bs (i + 7) 0) (get_or w (i + 7) 0)) ≡ true
    → take (i + 8) bs ≡ take (i + 8) w
eight_more bs w i same in_bytes in_word are =
    let h7 = and_parts _ _ are in
    let h6 = and_parts _ _ h7.0 in
    let h5 = and_parts _ _ h6.0 in
    let h4 = and_parts _ _ h5.0 in
    let s4 = four_more bs w i same (omega arith) (omega arith) h4.0 in
    let s5 = same_more bs w (i + 4) (i + 5) s4 (omega arith) (omega arith) (omega arith) (eqb-true _ _ h4.1) in
    let s6 = same_more bs w (i + 5) (i + 6) s5 (omega arith) (omega arith) (omega arith) (eqb-true _ _ h5.1) in
    let s7 = same_more bs w (i + 6) (i + 7) s6 (omega arith) (omega arith) (omega arith) (eqb-true _ _ h6.1) in
    same_more bs w (i + 7) (i + 8) s7 (omega arith) (omega arith) (omega arith) (eqb-true _ _ h7.1)

pub word_then_rest : (bs w : List ℕ) (i : ℕ) → i ≡ length w → i ≤ length bs → take i bs ≡ take i w → bs ≡ w ++ take (length bs - i) (drop i bs)
word_then_rest bs w i whole within same =
    sym (take-append-drop i bs) ∙ ap (λ front. front ++ drop i bs) (same ∙ take_all i w (omega (arith, whole)))
    ∙ ap (λ rest. w ++ rest) (sym (take_all (length bs - i) (drop i bs) (omega (arith, length-drop i bs))))

pub byte_then_rest : (bs : List ℕ) (b : ℕ) → 1 ≤ length bs → get_or bs 0 0 ≡ b → bs ≡ b ∷ take (length bs - 1) (drop 1 bs)
byte_then_rest [] b some is = absurd (omega arith)
byte_then_rest (x ∷ bs) b some is = ap (λ y. y ∷ bs) is ∙ ap (λ rest. b ∷ rest) (sym (take_all (length (x ∷ bs) - 1) bs (omega arith)))

-- a text in quotes, in two parts
pub quoted_in_parts : (begins ends text bytes middle rest : List ℕ) → begins ++ ends ≡ 34 ∷ (text ++ 34 ∷ []) → bytes ≡ begins ++ middle → middle ≡ ends ++ rest → bytes ≡ 34 ∷ (text ++ 34 ∷ rest)
quoted_in_parts begins ends text bytes middle rest parts first second =
    first ∙ (ap (λ (l : List ℕ). begins ++ l) second ∙ (sym (append_assoc begins ends rest)
    ∙ (ap (λ (l : List ℕ). l ++ rest) parts ∙ ap (λ (l : List ℕ). 34 ∷ l) (append_assoc text (34 ∷ []) rest))))
