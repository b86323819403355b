use Rattle.std.proofs.Common.{◌≡◌, ◌∙◌, ◌<◌, ◌+◌, ℕ, List, [], ◌∷◌, ◌++◌, get_or, length, take, sym, ap, append_assoc, append-nil}
use Rattle.std.proofs.lemmas.List.{take_all, take_more}
use Rattle.std.specs.List.{AllByRecursion}
use Rattle.qa_format.specs.format.Proper.{IsRange}
use Rattle.qa_fast_writer.specs.Members.{led_pairs, pair_text}
use Rattle.qa_fast_writer.proofs.members.put_others.Goals as goal

led_pairs-snoc : (ranges : List (ℕ × ℕ)) (range : ℕ × ℕ) → led_pairs (ranges ++ range ∷ []) ≡ led_pairs ranges ++ 44 ∷ pair_text range
led_pairs-snoc [] range = append-nil (44 ∷ pair_text range)
led_pairs-snoc (first ∷ ranges) range =
    ap (λ t. 44 ∷ pair_text first ++ t) (led_pairs-snoc ranges range) ∙ sym (append_assoc (44 ∷ pair_text first) (led_pairs ranges) (44 ∷ pair_text range))

-- one range more is written
one_more : (before old comma new : List ℕ) (ranges : List (ℕ × ℕ)) (i : ℕ) (range : ℕ × ℕ)
    → old ≡ before ++ led_pairs (take i ranges) → comma ≡ old ++ 44 ∷ [] → new ≡ comma ++ pair_text range
    → range ≡ get_or ranges i range → i < length ranges → new ≡ before ++ led_pairs (take (i + 1) ranges)
one_more before old comma new ranges i range had with_comma is at inside =
    is ∙ ap (λ t. t ++ pair_text range) with_comma ∙ append_assoc old (44 ∷ []) (pair_text range)
    ∙ ap (λ t. t ++ 44 ∷ pair_text range) had ∙ append_assoc before (led_pairs (take i ranges)) (44 ∷ pair_text range)
    ∙ ap (λ t. before ++ t) (sym (led_pairs-snoc (take i ranges) range))
    ∙ ap (λ r. before ++ led_pairs (take i ranges ++ r ∷ [])) at
    ∙ ap (λ rs. before ++ led_pairs rs) (sym (take_more ranges i range inside))

and_this : (ranges : List (ℕ × ℕ)) (range : ℕ × ℕ) → AllByRecursion IsRange ranges → IsRange range → AllByRecursion IsRange (ranges ++ range ∷ [])
and_this [] range all this = (this, tt)
and_this (first ∷ ranges) range all this = (all.0, and_this ranges range all.1 this)

pub loop-range-preserved : goal.loop-range-preserved
loop-range-preserved c =
    let range = c.range-item.result in
    let ranges = c.args.ranges.now in
    let i = c.loop-range.range-index in
    record {
      put = one_more _ _ _ _ ranges i range c.loop-range.invariant.put c.in_ok-extend_from_slice.ensures.items c.in_ok-put_pair.ensures.put c.range-item.is c.loop-range-test.true;
      are_ranges = rw (take_more ranges i range c.loop-range-test.true, sym c.range-item.is)
          (and_this (take i ranges) range c.loop-range.invariant.are_ranges c.in_ok-put_pair.ensures.is_range);
    }

pub returns-clause-put : goal.returns-clause-put
returns-clause-put c =
    let ranges = c.args.ranges.now in
    c.loop-range.invariant.put ∙ ap (λ rs. c.args.out.now.items ++ led_pairs rs) (take_all c.loop-range.range-index ranges c.loop-range-test.false)
