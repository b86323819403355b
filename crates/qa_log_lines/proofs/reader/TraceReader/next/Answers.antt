use Rattle.std.proofs.Common.{◌∙◌, ap, sym}
use Rattle.qa_log_lines.proofs.Handed.{gave}
use Rattle.qa_log_lines.proofs.reader.TraceReader.next.Goals as goal

pub returns-clause-reads : goal.returns-clause-reads
returns-clause-reads g c = λ start bytes has goes_on.
    let filled = c.in_ok-fill.ensures.reads start bytes has (sym (ap (λ r. r.stopped) c.give.ensures.2) ∙ goes_on) in
    gave start bytes c.fill.new.self c.give.new.self c.args.buffer.now c.give.new.buffer c.give.result c.give.ensures filled
