use Rattle.std.proofs.Common.{◌≡◌, ◌∙◌, false, Result, Ok, Err, String, Global, ap}
use Rattle.std.specs.Prelude.{string_bytes, IfOk, OnOk}
use Rattle.std.specs.declared.alloc.AllocError.{AllocError}
use Rattle.qa_format.specs.declared.line.Line.{Line}
use Rattle.qa_format.specs.format.Lines.{has_lf}
use Rattle.qa_format.specs.format.Proper.{IsProperLine}
use Rattle.qa_format.specs.format.Reading.{reading}
use Rattle.qa_format.specs.format.Written.{written}
use Rattle.qa_format.proofs.format.LinesWritten.{written_reads, written_has_no_lf}
use Rattle.qa_write.proofs.writer.write_line.Goals as goal

-- what is written for a line that there is
abbrev IsWritten : Result (String Global) AllocError → Line → Type 0
IsWritten r x = IfOk r (λ t. string_bytes t ≡ written x) × OnOk r (IsProperLine x)

has_no_lf : (r : Result (String Global) AllocError) (x : Line) → IsWritten r x → IfOk r (λ t. has_lf (string_bytes t) ≡ false)
has_no_lf (Ok t) x is = ap has_lf is.0 ∙ written_has_no_lf x is.1
has_no_lf (Err e) x is = tt

is_read : (r : Result (String Global) AllocError) (x : Line) → IsWritten r x → IfOk r (λ t. reading (string_bytes t) ≡ Ok x)
is_read (Ok t) x is = ap reading is.0 ∙ written_reads x is.1
is_read (Err e) x is = tt

pub returns-clause-one_line : goal.returns-clause-one_line
returns-clause-one_line c = has_no_lf c.line_text.result c.args.line.now (c.line_text.ensures.text, c.line_text.ensures.proper)

pub returns-clause-read_back : goal.returns-clause-read_back
returns-clause-read_back c = is_read c.line_text.result c.args.line.now (c.line_text.ensures.text, c.line_text.ensures.proper)
