use Rattle.std.proofs.Common.{false, subst, sym}
use Rattle.qa_log_command.specs.Converting.{WritesAll}
use Rattle.qa_log_command.proofs.WrittenLines.{fails_as, fails_like, no_lines}
use Rattle.qa_log_command.proofs.converting.convert.Goals as goal

pub returns-in_err-bytes-clause-written : goal.returns-in_err-bytes-clause-written
returns-in_err-bytes-clause-written g c =
    rw (fails_as false c.from_residual.result c.from_residual.ensures.1)
    (no_lines (g.O.Sink.held c.args.output.now, g.O.Sink.write_failures c.args.output.now))

pub returns-in_err-lines-clause-written : goal.returns-in_err-lines-clause-written
returns-in_err-lines-clause-written g c =
    rw (fails_as false c.from_residual-in_err-lines.result c.from_residual-in_err-lines.ensures.1)
    (no_lines (g.O.Sink.held c.args.output.now, g.O.Sink.write_failures c.args.output.now))

pub returns-in_err-write_lines-clause-written : goal.returns-in_err-write_lines-clause-written
returns-in_err-write_lines-clause-written g c =
    rw (fails_like c.from_residual-in_err-write_lines.result c.in_err-write_lines.field-0.0 c.from_residual-in_err-write_lines.ensures.1) c.in_err-write_lines.ensures.written

pub returns-clause-all : goal.returns-clause-all
returns-clause-all g c =
    let held = g.O.Sink.held in
    let failures = g.O.Sink.write_failures in (
      c.in_ok-lines.lines.0,
      c.in_ok-lines.ensures.begun,
      subst (λ trace. WritesAll c.in_ok-lines.lines.0 trace (held c.args.output.now, failures c.args.output.now) (held c.write_lines.new.output, failures c.write_lines.new.output))
          (sym c.into_trace.ensures) (c.in_ok-write_lines.ensures.all c.in_ok-lines.ensures.goes),
    )
