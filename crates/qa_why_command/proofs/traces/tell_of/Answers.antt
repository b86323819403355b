use Rattle.std.proofs.Common.{◌≡◌, ◌∙◌, false, inl, inr, sym}
use Rattle.qa_why_command.specs.Traces.{is_input}
use Rattle.qa_why_command.proofs.traces.tell_of.Goals as goal

pub returns-in-Ok-true-clause-told : goal.returns-in-Ok-true-clause-told
returns-in-Ok-true-clause-told g c =
    let other : is_input c.args.name.now ≡ false = sym c.eq.ensures ∙ c.if-eq.false in
    rw other (inr (c.tell_log.ensures (g.I.Source.left c.args.input.now, g.I.Source.last_read c.args.input.now, g.I.Source.read_failures c.args.input.now)))

pub returns-in-Ok-false-clause-told : goal.returns-in-Ok-false-clause-told
returns-in-Ok-false-clause-told g c =
    let other : is_input c.args.name.now ≡ false = sym c.eq.ensures ∙ c.if-eq.false in
    rw other (inl (c.tell_file.ensures (g.I.Source.left c.args.input.now, g.I.Source.last_read c.args.input.now, g.I.Source.read_failures c.args.input.now)))
