use Rattle.std.proofs.Common.{◌∙◌, sym}
use Rattle.qa_qlog.proofs.Turns.{finds_number_at, reads_number_at}
use Rattle.qa_qlog.proofs.cutter.DocumentCutter.end_scalar.Goals as goal

pub returns-then-is_events : goal.returns-then-is_events
returns-then-is_events c =
    finds_number_at _ c.args.self.now c.args.byte c.skeleton_length-self-inside.result c.self.view_is c.skeleton_length-self-inside.ensures
    c.requires.next c.requires.ended (sym c.is_events.ensures ∙ c.if-is_events.true)

pub returns : goal.returns
returns c =
    reads_number_at _ c.args.self.now c.args.byte c.skeleton_length-self-inside.result c.turn.result c.turn.new.self c.self.view_is
    c.skeleton_length-self-inside.ensures c.requires.next c.requires.ended (sym c.is_events.ensures ∙ c.if-is_events.false) c.turn.ensures
