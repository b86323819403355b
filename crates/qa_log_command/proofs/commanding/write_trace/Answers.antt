use Rattle.std.proofs.Common.{false}
use Rattle.qa_log_command.proofs.WrittenLines.{stopped_leaves, traced_leaves}
use Rattle.qa_log_command.proofs.commanding.write_trace.Goals as goal

pub returns-in-Ok-clause-written : goal.returns-in-Ok-clause-written
returns-in-Ok-clause-written g c =
    let held = g.O.Sink.held in
    let failures = g.O.Sink.write_failures in
    traced_leaves c.tell_trace.result (held c.args.streams.now.output, failures c.args.streams.now.output)
    (held c.convert.new.output, failures c.convert.new.output) c.tell_trace.ensures c.in-Ok.ensures.written

pub returns-in-Ok-clause-lines : goal.returns-in-Ok-clause-lines
returns-in-Ok-clause-lines g c = (false, c.in-Ok.ensures.written)

pub returns-in-Err-clause-written : goal.returns-in-Err-clause-written
returns-in-Err-clause-written g c =
    let held = g.O.Sink.held in
    let failures = g.O.Sink.write_failures in
    stopped_leaves c.in-Err.failure c.tell_failure.result (held c.args.streams.now.output, failures c.args.streams.now.output)
    (held c.convert.new.output, failures c.convert.new.output) c.tell_failure.ensures c.in-Err.ensures.written
