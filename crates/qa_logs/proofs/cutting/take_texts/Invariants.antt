use Rattle.std.proofs.Common.{◌≡◌, List, [], length}
use Rattle.qa_logs.proofs.cutting.take_texts.Given as goal
use Rattle.qa_logs.specs.Cutting.{Given, NextText, Steps, WantsMore}
use Rattle.qa_qlog.specs.Texts.{left}

abbrev pub invariant-texts : goal.invariant-texts
invariant-texts g l = record {
  closed : l.texts.uncut.closed ≡ l.fn.texts.uncut.closed;
  steps : (ts : List Given) × Steps (NextText l.fn.mark l.fn.is_last) l.fn.texts ts l.texts × Steps (WantsMore g.T.Taker.takes) l.fn.taker ts l.taker;
}

abbrev pub decreases-texts : goal.decreases-texts
decreases-texts g l = length (left l.texts []).0
