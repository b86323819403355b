use Rattle.std.proofs.Common.{◌∙◌, [], ◌∷◌, ◌++◌}
use Rattle.qa_logs.specs.Cutting.{NextText, WantsMore}
use Rattle.qa_logs.proofs.Steps.{one_more}
use Rattle.qa_logs.proofs.cutting.take_texts.Goals as goal

pub texts-preserved : goal.texts-preserved
texts-preserved g c =
    let hands = rw c.in-Some-More.field-0-is at rw c.in-Some-More.is at c.in_ok-take_text.ensures.hands in
    let before = c.texts.invariant.steps in
    record {
      closed = c.in_ok-take_text.ensures.closed ∙ c.texts.invariant.closed;
      steps = (
        before.0 ++ hands.0 ∷ [],
        one_more (NextText c.args.mark c.args.is_last) c.args.texts.now before.0 c.texts.texts hands.0 c.take_text.new.texts before.1 hands.1,
        one_more (WantsMore g.T.Taker.takes) c.args.taker.now before.0 c.texts.taker hands.0 c.take_text.new.taker before.2 hands.2,
      );
    }
