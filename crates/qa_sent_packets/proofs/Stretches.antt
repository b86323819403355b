-- A walk along the numbers that spans name, in rising order.
use Rattle.std.proofs.Common.{◌≡◌, ◌∙◌, ℕ, ◌+◌, ◌≤◌, ◌<◌, Bool, true, false, ◌&&◌, ◌||◌, drop, List, [], ◌∷◌, ◌++◌, length, reverse, get_or, Option, Some, None, refl, sym, ap, subst, arith, inl, inr}
use Rattle.std.specs.Prelude.{nat_le, IsSome}
use Rattle.std.proofs.lemmas.Bool.{and_cases, and_left, and_parts, and_right, leb-false, leb-true, lt-leb, or_from, or_left}
use Rattle.std.proofs.lemmas.List.{drop_more, length-reverse}
use Rattle.std.proofs.lemmas.List.Folds.{list_any-append}
use Rattle.std.proofs.lemmas.List.Sorted.{IsPermutation-reverse, list_any-IsPermutation}
use Rattle.qa_base.specs.values.Events.{is_named}
use Rattle.qa_sent_packets.specs.Covering.{is_between}
use Rattle.qa_sent_packets.specs.Naming.{AreRisingFrom, IsStretch, turned}
use Rattle.qa_sent_packets.specs.declared.named.Stretch.{Stretch}

-- ---- spans that rise

pub lower_start : (low first : ℕ) (spans : List (ℕ × ℕ)) → low ≤ first → AreRisingFrom first spans → AreRisingFrom low spans
lower_start low first [] le rising = tt
lower_start low first (span ∷ spans) le rising = (let more = rising.0 in omega (arith, le, more), rising.1)

pub without_first : (span : ℕ × ℕ) (spans : List (ℕ × ℕ)) → AreRisingFrom 0 (span ∷ spans) → AreRisingFrom 0 spans
without_first span spans rising = lower_start 0 span.0 spans (omega arith) rising.1

none_below : (low : ℕ) (spans : List (ℕ × ℕ)) (n : ℕ) → AreRisingFrom low spans → n < low → is_named spans n ≡ false
none_below low [] n rising less = refl
none_below low (span ∷ spans) n rising less =
    let first : n < span.0 = (let more = rising.0 in omega (arith, more, less)) in
    or_from (is_between span.0 span.1 n) (is_named spans n) (and_left (nat_le span.0 n) (nat_le n span.1) (lt-leb span.0 n first)) (none_below span.0 spans n rising.1 first)

-- ---- a span that was passed names nothing from the number on

pub ends_below : (span : ℕ × ℕ) (spans : List (ℕ × ℕ)) (n : ℕ) → span.1 < n → is_named (span ∷ spans) n ≡ is_named spans n
ends_below span spans n less = ap (λ b. b || is_named spans n) (and_right (nat_le span.0 n) (nat_le n span.1) (lt-leb n span.1 less))

-- ---- stretches

pub stretch_alike : (p q : ℕ → Bool) (from : ℕ) (stretch : Option Stretch) → ((n : ℕ) → from ≤ n → p n ≡ q n) → IsStretch p from stretch → IsStretch q from stretch
stretch_alike p q from None alike is = λ n low. sym (alike n low) ∙ is n low
stretch_alike p q from (Some s) alike is = record {
  low = is.low;
  some = is.some;
  high = is.high;
  before = λ n low less. sym (alike n low) ∙ is.before n low less;
  within = λ n low less. sym (alike n (let more = is.low in omega (arith, more, low))) ∙ is.within n low less;
}

alone : (b : Bool) → b ≡ (b || false)
alone true = refl
alone false = refl

-- one span more
pub one_more : (spans : List (ℕ × ℕ)) (span : ℕ × ℕ) (n : ℕ) → (is_named spans n || is_between span.0 span.1 n) ≡ is_named (spans ++ span ∷ []) n
one_more spans span n =
    ap (λ b. is_named spans n || b) (alone (is_between span.0 span.1 n))
    ∙ sym (list_any-append (λ (range : ℕ × ℕ). nat_le range.0 n && nat_le n range.1) spans (span ∷ []))

-- where spans rise, the first that was not passed has the first number
pub begins_first : (span : ℕ × ℕ) (spans : List (ℕ × ℕ)) (from : ℕ) (stretch : Option Stretch) → AreRisingFrom 0 (span ∷ spans) → IsSome stretch
    → IsStretch (is_between span.0 span.1) from stretch → IsStretch (is_named (span ∷ spans)) from stretch
begins_first span spans from None rising some is = cc
begins_first span spans from (Some s) rising some is =
    let start = and_parts (nat_le span.0 s.start) (nat_le s.start span.1) (is.within s.start (omega arith) is.some) in
    let high : s.start ≤ span.1 = leb-true s.start span.1 start.1 in
    record {
      low = is.low;
      some = is.some;
      high = is.high;
      before = λ n low less. or_from (is_between span.0 span.1 n) (is_named spans n) (is.before n low less) (elim (and_cases (nat_le span.0 n) (nat_le n span.1) (is.before n low less)) [
        | inl below ↦ none_below span.0 spans n rising.1 (leb-false span.0 n below)
        | inr past ↦ (let more = leb-false n span.1 past in absurd (omega (arith, more, less, high)))
      ]);
      within = λ n low less. or_left (is_between span.0 span.1 n) (is_named spans n) (is.within n low less);
    }

-- ---- spans from the last to the first

pub length_turned : (falling : Bool) (spans : List (ℕ × ℕ)) → length (turned falling spans) ≡ length spans
length_turned true spans = length-reverse spans
length_turned false spans = refl

pub named_turned : (falling : Bool) (spans : List (ℕ × ℕ)) (n : ℕ) → is_named spans n ≡ is_named (turned falling spans) n
named_turned true spans n = list_any-IsPermutation (λ (range : ℕ × ℕ). nat_le range.0 n && nat_le n range.1) spans (reverse spans) (IsPermutation-reverse spans)
named_turned false spans n = refl

-- those that are left at a place
pub left_from : (falling : Bool) (spans : List (ℕ × ℕ)) (at : ℕ) (span : ℕ × ℕ) → at < length spans → span ≡ get_or (turned falling spans) at span
    → drop at (turned falling spans) ≡ span ∷ drop (at + 1) (turned falling spans)
left_from falling spans at span within is =
    let there : at < length (turned falling spans) = subst (λ count. at < count) (sym (length_turned falling spans)) within in
    drop_more (turned falling spans) at span there ∙ ap (λ (s : ℕ × ℕ). s ∷ drop (at + 1) (turned falling spans)) (sym is)
