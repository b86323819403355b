-- The rows of one more line, and the last of one more row.
use Rattle.std.proofs.Common.{◌≡◌, ◌∙◌, ◌+◌, ◌-◌, ◌<◌, ◌≤◌, ℕ, List, [], ◌∷◌, ◌++◌, Some, None, Ok, Err, append_assoc, drop, length, true, false, inl, inr, refl, subst, sym, ap, arith, length-append, length-drop}
use Rattle.std.proofs.lemmas.List.{append-nil, drop-append-le, drop-drop, drop-map, length-map}
use Rattle.std.proofs.lemmas.Bool.Decides.{leb_tells}
use Rattle.std.proofs.Math.Seq.{drop-length}
use Rattle.std.specs.Prelude.{if◌then◌else◌, map, nat_le}
use Rattle.qa_violations.specs.around.Keeping.{room_in}
use Rattle.qa_violations.specs.around.Rows.{RowsOf, last_of, rows_after, rows_on, rows_said}
use Rattle.qa_base.specs.declared.event.Event.{Event}
use Rattle.qa_base.specs.machine.Packets.{history_of}
use Rattle.qa_base.specs.values.Settings.{Settings}
use Rattle.qa_format.specs.declared.line.Line.{Line}
use Rattle.qa_format.specs.format.Reading.{reading}
use Rattle.qa_format.specs.verdicts.Verdict.{events_in, header_in}

-- ---- one more line

rows_after-snoc : {A : Type 0} (of : RowsOf A) (before ls : List (List ℕ)) (l : List ℕ) → rows_after of before (ls ++ l ∷ []) ≡ rows_after of before ls ++ rows_on of (before ++ ls) l
rows_after-snoc of before [] l = append-nil (rows_on of before l) ∙ ap (λ (ls : List (List ℕ)). rows_on of ls l) (sym (append-nil before))
rows_after-snoc of before (m ∷ ls) l =
    ap (λ rs. rows_on of before m ++ rs) (rows_after-snoc of (before ++ m ∷ []) ls l)
    ∙ (ap (λ (all : List (List ℕ)). rows_on of before m ++ (rows_after of (before ++ m ∷ []) ls ++ rows_on of all l)) (append_assoc before (m ∷ []) ls)
    ∙ sym (append_assoc (rows_on of before m) (rows_after of (before ++ m ∷ []) ls) (rows_on of (before ++ m ∷ ls) l)))

rows-snoc : {A : Type 0} (of : RowsOf A) (ls : List (List ℕ)) (l : List ℕ) → rows_after of [] (ls ++ l ∷ []) ≡ rows_after of [] ls ++ rows_on of ls l
rows-snoc of ls l = rows_after-snoc of [] ls l

-- that says this, behind a header
pub rows_more : {A : Type 0} (of : RowsOf A) (ls : List (List ℕ)) (l : List ℕ) (said : Line) (n : ℕ) (c : Settings) → reading l ≡ Ok said → n ≡ length ls + 1 → header_in reading (ls ++ l ∷ []) ≡ Some c
    → rows_after of [] ls ++ of n said c (history_of (events_in reading (ls ++ l ∷ []))) ≡ rows_after of [] (ls ++ l ∷ [])
rows_more of ls l said n c says count headed =
    let h = history_of (events_in reading (ls ++ l ∷ [])) in
    let on : rows_on of ls l ≡ of (length ls + 1) said c h = rw (says, headed) refl in
    ap (λ m. rows_after of [] ls ++ of m said c h) count ∙ (ap (λ rs. rows_after of [] ls ++ rs) (sym on) ∙ sym (rows-snoc of ls l))

no_row : {A : Type 0} (of : RowsOf A) (n : ℕ) (l : List ℕ) (h : List Event) → rows_said of n (reading l) None h ≡ []
no_row of n l h = elim (reading l) as (λ said. rows_said of n said None h ≡ []) [ Ok x ↦ refl | Err f ↦ refl ]

-- without a header
pub rows_headless : {A : Type 0} (of : RowsOf A) (ls : List (List ℕ)) (l : List ℕ) → header_in reading (ls ++ l ∷ []) ≡ None → rows_after of [] ls ≡ rows_after of [] (ls ++ l ∷ [])
rows_headless of ls l none =
    let on : rows_on of ls l ≡ [] = rw none (no_row of (length ls + 1) l (history_of (events_in reading (ls ++ l ∷ [])))) in
    sym (rows-snoc of ls l ∙ (ap (λ rs. rows_after of [] ls ++ rs) on ∙ append-nil (rows_after of [] ls)))

-- ---- the last of them

-- of none
pub last_of_none : {A : Type 0} (count : ℕ) (rs : List A) → count ≡ 0 → last_of count rs ≡ []
last_of_none count rs none = let all : length rs - count ≡ length rs = omega arith in rw all (drop-length rs)

kept : {A : Type 0} (count : ℕ) (rs : List A) → length (last_of count rs) ≡ length rs - (length rs - count)
kept count rs = length-drop (length rs - count) rs

-- one more, where there are so many
pub last_of_many : {A : Type 0} (count : ℕ) (rs : List A) (r : A) → 0 < count → count ≤ length (last_of count rs) → drop 1 (last_of count rs) ++ r ∷ [] ≡ last_of count (rs ++ r ∷ [])
last_of_many count rs r some many =
    let has = kept count rs in
    let longer = length-append rs (r ∷ []) in
    let from : length (rs ++ r ∷ []) - count ≡ (length rs - count) + 1 = omega arith in
    ap (λ qs. qs ++ r ∷ []) (drop-drop 1 (length rs - count) rs)
    ∙ (sym (drop-append-le ((length rs - count) + 1) rs (r ∷ []) (omega arith)) ∙ ap (λ i. drop i (rs ++ r ∷ [])) (sym from))

-- where there are fewer
pub last_of_few : {A : Type 0} (count : ℕ) (rs : List A) (r : A) → length (last_of count rs) < count → last_of count rs ++ r ∷ [] ≡ last_of count (rs ++ r ∷ [])
last_of_few count rs r few =
    let has = kept count rs in
    let longer = length-append rs (r ∷ []) in
    let all : length rs - count ≡ 0 = omega arith in
    let still : length (rs ++ r ∷ []) - count ≡ 0 = omega arith in
    rw (all, still) refl

-- one more in either case
pub last_of_more : {A : Type 0} (count : ℕ) (rs qs : List A) (r : A) → 0 < count → qs ≡ last_of count rs → room_in count qs ++ r ∷ [] ≡ last_of count (rs ++ r ∷ [])
last_of_more {A} count rs qs r some is = elim (leb_tells count (length qs)) [
  | inl many ↦
      let test : nat_le count (length qs) ≡ true = many.0 in
      rw test (ap (λ (ps : List A). drop 1 ps ++ r ∷ []) is ∙ last_of_many count rs r some (subst (λ (ps : List A). count ≤ length ps) is many.1))
  | inr few ↦
      let test : nat_le count (length qs) ≡ false = few.0 in
      rw test (ap (λ (ps : List A). ps ++ r ∷ []) is ∙ last_of_few count rs r (subst (λ (ps : List A). length ps < count) is few.1))
]

-- what is kept of rows, by something of each
pub room_of : {A B : Type 0} (f : A → B) (count : ℕ) (rs : List A) → map f (room_in count rs) ≡ room_in count (map f rs)
room_of f count rs = rw (length-map rs f) (elim (nat_le count (length rs)) as (λ many. map f (if many then drop 1 rs else rs) ≡ (if many then drop 1 (map f rs) else map f rs)) [ true ↦ sym (drop-map f 1 rs) | false ↦ refl ])
