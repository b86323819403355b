use Rattle.std.proofs.Common.{◌≡◌, ◌++◌, drop}
use Rattle.std.specs.Prelude.{option_map}
use Rattle.serde_json.specs.View.{items_view}
use Rattle.qa_format.specs.format.Keys as keys
use Rattle.qa_read.proofs.ranges.pairs_of.Given as goal

abbrev pub invariant-loop-value : goal.invariant-loop-value
invariant-loop-value l = option_map (λ ps. l.pairs.items ++ ps) (keys.pairs_of (items_view (drop l.value-index l.values))) ≡ keys.pairs_of (items_view l.values)
