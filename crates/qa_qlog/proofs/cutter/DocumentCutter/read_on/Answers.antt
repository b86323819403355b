use Rattle.std.proofs.Common.{◌∙◌, sym}
use Rattle.qa_qlog.proofs.Turns.{reads_turn}
use Rattle.qa_qlog.proofs.cutter.DocumentCutter.read_on.Goals as goal

pub returns : goal.returns
returns c = reads_turn c.args.self.now c.in-Some.byte c.turn.result c.turn.new.self c.in-Some.ensures (sym c.is_ended.ensures ∙ c.if-is_ended.false) c.turn.ensures
