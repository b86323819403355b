-- The text of a simple value has no LF.
use Rattle.std.proofs.Common.{◌≡◌, ℕ, zero, suc, ◌+◌, ◌%◌, ◌^◌, ◌<◌, List, [], ◌∷◌, ◌++◌, Bool, true, false, ◌&&◌, not, nat_lt, decimal, inl, inr, refl, arith, ltb-true}
use Rattle.std.proofs.lemmas.Bool.{and_parts, or_parts, or_from, cases_eq, ne_eqb}
use Rattle.std.proofs.lemmas.Fmt.{decimal_by_steps}
use Rattle.json.specs.Print.{escape_byte, escape, quoted}
use Rattle.serde_json.specs.Data.{Num, unsigned, negative, float, Data, null, boolean, number, string, array, object, Items, no_items, item, Members, no_members, member}
use Rattle.serde_json.specs.Written.{number_text, comma_if, compact_text, items_text, members_text}
use Rattle.qa_format.specs.format.Lines.{is_lf, has_lf}
use Rattle.qa_format.specs.format.Simple.{is_ascii}
use Rattle.qa_format.proofs.format.Compact.{IsUnsigned, IsSimple, AreSimple, HaveSimple}

append_none : (xs ys : List ℕ) → has_lf xs ≡ false → has_lf ys ≡ false → has_lf (xs ++ ys) ≡ false
append_none [] ys first second = second
append_none (x ∷ xs) ys first second =
    let parts = or_parts (is_lf x) (has_lf xs) first in
    or_from (is_lf x) (has_lf (xs ++ ys)) parts.0 (append_none xs ys parts.1 second)

-- ---- strings

-- the escapes of the bytes below n have none
abbrev none_below : ℕ → Bool
none_below zero = true
none_below (suc n) = not (has_lf (escape_byte n)) && none_below n

none_at : (b : Bool) → not b ≡ true → b ≡ false
none_at true h = cc
none_at false h = refl

below : (n : ℕ) → none_below n ≡ true → (x : ℕ) → x < n → has_lf (escape_byte x) ≡ false
below zero all x small = absurd (omega arith)
below (suc n) all x small =
    let parts = and_parts (not (has_lf (escape_byte n))) (none_below n) all in
    elim (cases_eq x n) [ inl same ↦ rw same (none_at _ parts.0) | inr other ↦ below n parts.1 x (omega arith) ]

none_of_ascii : none_below 128 ≡ true
unfolding escape_byte
none_of_ascii = refl

escape_none : (s : List ℕ) → is_ascii s ≡ true → has_lf (escape s) ≡ false
escape_none [] ascii = refl
escape_none (x ∷ s) ascii =
    let parts = and_parts (nat_lt x 128) (is_ascii s) ascii in
    append_none (escape_byte x) (escape s) (below 128 none_of_ascii x (ltb-true x 128 parts.0)) (escape_none s parts.1)

quoted_none : (s : List ℕ) → is_ascii s ≡ true → has_lf (quoted s) ≡ false
quoted_none s ascii = append_none (escape s) (34 ∷ []) (escape_none s ascii) refl

-- ---- numbers

digit_none : (d : ℕ) → has_lf ((48 + d) ∷ []) ≡ false
digit_none d = or_from (is_lf (48 + d)) false (ne_eqb (48 + d) 10 (λ e. omega arith)) refl

decimal_none : (n : ℕ) → n < 2 ^ 64 → has_lf (decimal n) ≡ false
decimal_none n small = decimal_by_steps (λ m ds. has_lf ds ≡ false) (λ m l. digit_none m) (λ m ds l h. append_none ds ((48 + m % 10) ∷ []) h (digit_none (m % 10))) n small

number_none : (n : Num) → IsUnsigned n → has_lf (number_text n) ≡ false
number_none (unsigned n) small = decimal_none n small
number_none (negative z) small = absurd small
number_none (float x) small = absurd small

-- ---- values

comma_none : (later : Bool) → has_lf (comma_if later) ≡ false
comma_none true = refl
comma_none false = refl

mutual
  pub has_lf-compact_text : (d : Data) → IsSimple d → has_lf (compact_text d) ≡ false
  has_lf-compact_text null simple = refl
  has_lf-compact_text (boolean true) simple = refl
  has_lf-compact_text (boolean false) simple = refl
  has_lf-compact_text (number n) simple = number_none n simple
  has_lf-compact_text (string s) simple = quoted_none s simple
  has_lf-compact_text (array ds) simple = items_none false ds simple
  has_lf-compact_text (object ms) simple = members_none false ms simple

  items_none : (later : Bool) (ds : Items) → AreSimple ds → has_lf (items_text later ds) ≡ false
  items_none later no_items simple = refl
  items_none later (item d ds) simple =
      append_none (comma_if later) _ (comma_none later) (append_none (compact_text d) (items_text true ds) (has_lf-compact_text d simple.0) (items_none true ds simple.1))

  members_none : (later : Bool) (ms : Members) → HaveSimple ms → has_lf (members_text later ms) ≡ false
  members_none later no_members simple = refl
  members_none later (member k d ms) simple =
      append_none (comma_if later) _ (comma_none later)
      (append_none (quoted k) _ (quoted_none k simple.0)
      (append_none (compact_text d) (members_text true ms) (has_lf-compact_text d simple.2) (members_none true ms simple.3)))
