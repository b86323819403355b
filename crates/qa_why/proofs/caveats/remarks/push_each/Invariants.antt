use Rattle.std.proofs.Common.{◌≡◌, ◌++◌, drop}
use Rattle.serde_json.specs.View.{items_view}
use Rattle.qa_why.specs.caveats.Remarks.{each_remark}
use Rattle.qa_why.proofs.caveats.remarks.push_each.Given as goal

abbrev pub invariant-loop-value : goal.invariant-loop-value
invariant-loop-value l =
    l.out.items ++ each_remark l.words (items_view (drop l.value-index l.values))
    ≡ l.initial.out.items ++ each_remark l.words (items_view l.values)
