use Rattle.std.proofs.Common.{◌≡◌, false, List, drop, map}
use Rattle.std.specs.List.{list_any}
use Rattle.qa_arguments.specs.why.Asked.{wanted}
use Rattle.qa_why_command.proofs.Endings.{Led}
use Rattle.qa_why_command.specs.Ending.{Ended}
use Rattle.qa_why_command.specs.Streams.{streams}
use Rattle.qa_why_command.specs.Traces.{is_input}
use Rattle.qa_why_command.proofs.traces.tell_each.Given as goal

abbrev pub invariant-loop-name : goal.invariant-loop-name
invariant-loop-name g l = record {
  endings : List Ended;
  led : Led (wanted l.inquiry) l.names
      (streams (g.I.Source.left l.fn.input, g.I.Source.last_read l.fn.input, g.I.Source.read_failures l.fn.input) (g.O.Sink.held l.fn.output, g.O.Sink.write_failures l.fn.output)
      (g.E.Sink.held l.fn.error, g.E.Sink.write_failures l.fn.error))
      (drop l.name-index l.names)
      (streams (g.I.Source.left l.input, g.I.Source.last_read l.input, g.I.Source.read_failures l.input) (g.O.Sink.held l.output, g.O.Sink.write_failures l.output)
      (g.E.Sink.held l.error, g.E.Sink.write_failures l.error))
      endings l.tally;
  unread : list_any is_input (map (λ name. name.now) l.names) ≡ false → l.input ≡ l.fn.input;
}
