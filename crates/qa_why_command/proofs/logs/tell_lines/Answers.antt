use Rattle.qa_arguments.specs.why.Asked.{wanted}
use Rattle.qa_why_command.proofs.Traced.{traced}
use Rattle.qa_why_command.proofs.logs.tell_lines.Goals as goal

pub returns : goal.returns
returns g c = λ input.
    traced (wanted c.args.inquiry.now) c.args.name.now c.end.result input _ _
    (g.O.Sink.held c.args.output.now, g.O.Sink.write_failures c.args.output.now)
    (g.O.Sink.held c.tell_read-told.new.output, g.O.Sink.write_failures c.tell_read-told.new.output)
    (g.E.Sink.held c.args.error.now, g.E.Sink.write_failures c.args.error.now)
    (g.E.Sink.held c.tell_read-told.new.error, g.E.Sink.write_failures c.tell_read-told.new.error)
    (g.E.Sink.held c.end.new.error, g.E.Sink.write_failures c.end.new.error)
    c.tell_read-told.result c.tell_read-told.ensures c.end.ensures
