use Rattle.std.proofs.Common.{[], ◌∷◌, ◌++◌}
use Rattle.qa_logs.specs.Cutting.{NextRecord, WantsMore}
use Rattle.qa_logs.proofs.Steps.{one_more}
use Rattle.qa_logs.proofs.cutting.take_records.Goals as goal

pub records-preserved : goal.records-preserved
records-preserved g c =
    let hands = rw c.in-Some-More.field-0-is at rw c.in-Some-More.is at c.in_ok-take_record.ensures.hands in
    let before = c.records.invariant.steps in
    record {
      steps = (
        before.0 ++ hands.0 ∷ [],
        one_more NextRecord c.args.document.now before.0 c.records.document hands.0 c.take_record.new.document before.1 hands.1,
        one_more (WantsMore g.T.Taker.takes) c.args.taker.now before.0 c.records.taker hands.0 c.take_record.new.taker before.2 hands.2,
      );
    }
