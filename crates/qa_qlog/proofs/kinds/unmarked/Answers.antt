use Rattle.std.proofs.Common.{◌∙◌, ◌<◌, length, ap, sym, arith}
use Rattle.std.proofs.lemmas.Grind.{common_steps}
use Rattle.qa_qlog.specs.Kinds.{by_line, is_text}
use Rattle.qa_qlog.proofs.Beginning.{sequence, other, other_read}
use Rattle.qa_qlog.proofs.kinds.unmarked.Goals as goal

pub returns-then-bytes-eq-RECORD_SEPARATOR-clause-value : goal.returns-then-bytes-eq-RECORD_SEPARATOR-clause-value
returns-then-bytes-eq-RECORD_SEPARATOR-clause-value c memory =
    let some : 0 < length c.args.bytes.now = grind (arith, common_steps) in
    sequence c.args.bytes.now some c.if-bytes-eq-RECORD_SEPARATOR.true

pub returns-clause-value : goal.returns-clause-value
returns-clause-value c memory =
    let some : 0 < length c.args.bytes.now = grind (arith, common_steps) in
    c.by_line.ensures.value memory ∙ ap by_line c.first_line.ensures ∙ other c.args.bytes.now some c.if-bytes-eq-RECORD_SEPARATOR.false

pub returns-clause-memory : goal.returns-clause-memory
returns-clause-memory c memory =
    let some : 0 < length c.args.bytes.now = grind (arith, common_steps) in
    other_read c.args.bytes.now some c.if-bytes-eq-RECORD_SEPARATOR.false (ap is_text (sym c.first_line.ensures) ∙ c.by_line.ensures.memory memory)
