use Rattle.std.proofs.Common.{◌≡◌, ◌∙◌, ◌<◌, ◌+◌, ℕ, List, [], ◌∷◌, ◌++◌, get_or, length, map, take, refl, sym, ap}
use Rattle.std.proofs.lemmas.List.{map-append, map_more, take_all, take_more}
use Rattle.std.specs.List.{AllByRecursion}
use Rattle.serde_json.proofs.Views.{view-Array}
use Rattle.serde_json.specs.Data.{Data, item}
use Rattle.serde_json.specs.View.{items_of, view}
use Rattle.qa_format.specs.format.Written.{integer_pair, integer_pairs}
use Rattle.qa_format.specs.format.Proper.{IsRange}
use Rattle.qa_write.proofs.writer.ranges_list.Goals as goal

items_of-integer_pair : (ranges : List (ℕ × ℕ)) → items_of (map integer_pair ranges) ≡ integer_pairs ranges
items_of-integer_pair [] = refl
items_of-integer_pair (range ∷ ranges) = ap (item (integer_pair range)) (items_of-integer_pair ranges)

-- one value more stands for one range more
one_more : {X : Type 0} (f : X → Data) (values : List X) (v : X) (ranges : List (ℕ × ℕ)) (i : ℕ) (range : ℕ × ℕ)
    → map f values ≡ map integer_pair (take i ranges) → f v ≡ integer_pair range → range ≡ get_or ranges i range → i < length ranges
    → map f (values ++ v ∷ []) ≡ map integer_pair (take (i + 1) ranges)
one_more f values v ranges i range listed one at inside =
    map-append f values (v ∷ [])
    ∙ ap (λ xs. xs ++ f v ∷ []) listed
    ∙ ap (λ x. map integer_pair (take i ranges) ++ x ∷ []) (one ∙ ap integer_pair at)
    ∙ sym (map_more integer_pair ranges i range inside)

and_this : (ranges : List (ℕ × ℕ)) (range : ℕ × ℕ) → AllByRecursion IsRange ranges → IsRange range → AllByRecursion IsRange (ranges ++ range ∷ [])
and_this [] range all this = (this, tt)
and_this (first ∷ ranges) range all this = (all.0, and_this ranges range all.1 this)

pub loop-range-preserved : goal.loop-range-preserved
loop-range-preserved c =
    let range = c.range-item.result in
    let ranges = c.as_slice-range-items.result.now in
    let i = c.loop-range.range-index in
    record {
      listed = rw c.in_ok-push.ensures.items (one_more view _ c.in_ok-pair.pair ranges i range c.loop-range.invariant.listed c.in_ok-pair.ensures.pair c.range-item.is c.loop-range-test.true);
      are_ranges = rw (take_more ranges i range c.loop-range-test.true, sym c.range-item.is)
          (and_this (take i ranges) range c.loop-range.invariant.are_ranges c.in_ok-pair.ensures.is_range);
    }

pub returns-clause-list : goal.returns-clause-list
returns-clause-list c =
    let items = c.as_slice-range-items.result.now in
    let whole = take_all c.loop-range.range-index items c.loop-range-test.false in
    rw (view-Array, c.loop-range.invariant.listed, whole, items_of-integer_pair, c.as_slice-range-items.ensures) refl
