use Rattle.std.proofs.Common.{◌≡◌, ◌∙◌, ◌+◌, ◌<◌, ℕ, List, ◌++◌, ◌∷◌, length, take, drop, get_or, Some, sym, ap, take-append-drop}
use Rattle.std.proofs.lemmas.List.{take_more, drop_more}
use Rattle.qaudit_c.specs.declared.structs.PacketRange.{PacketRange}
use Rattle.qaudit_c.specs.Events.{ranges_of}
use Rattle.qaudit_c.proofs.Ranges.{one_range_more, no_range}
use Rattle.qaudit_c.proofs.events.spans_of.Goals as goal

abbrev none : PacketRange
none = record { least = 0; greatest = 0 }

-- what stands before an item, the item, and what stands behind it
parts : (items : List PacketRange) (i : ℕ) → i < length items → items ≡ take i items ++ get_or items i none ∷ drop (i + 1) items
parts items i inside = sym (take-append-drop i items) ∙ ap (λ rest. take i items ++ rest) (drop_more items i none inside)

pub loop-range-preserved : goal.loop-range-preserved
loop-range-preserved c =
    let items = c.args.ranges.now in
    let i = c.loop-range.range-index in
    record {
      said = ap ranges_of (take_more items i none c.loop-range-test.true)
          ∙ (one_range_more (take i items) (get_or items i none) c.loop-range.spans c.in-Some.span c.loop-range.invariant.said (sym c.span_of.ensures ∙ c.in-Some.is)
          ∙ ap Some (sym c.in_ok-push.ensures.ok));
    }

pub returns-in_default : goal.returns-in_default
returns-in_default c =
    let items = c.args.ranges.now in
    let i = c.loop-range.range-index in
    sym (ap ranges_of (parts items i c.loop-range-test.true)
    ∙ no_range (take i items) (get_or items i none) (drop (i + 1) items) c.loop-range.spans c.loop-range.invariant.said (sym c.span_of.ensures ∙ c.in_default.is))
