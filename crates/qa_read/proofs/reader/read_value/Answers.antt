use Rattle.std.proofs.Common.{◌≡◌, Bool, true, false, cond, List, ℕ, Option, Result, Ok, Err, ok_or, refl}
use Rattle.std.specs.List.{list_all}
use Rattle.std.specs.Str.{is_utf8}
use Rattle.serde_json.specs.Data.{Data}
use Rattle.serde_json.specs.Read.{read}
use Rattle.qa_format.specs.declared.fault.Fault.TheVariants.{NotJson}
use Rattle.qa_format.specs.declared.line.Line.{Line}
use Rattle.qa_format.specs.format.Reading.{reader_named, object_says, json_of, is_blank, reading_by, reading}
use Rattle.qa_read.specs.declared.fault.LineFault.{LineFault}
use Rattle.qa_read.specs.Gives.{Gives}
use Rattle.qa_read.proofs.reader.read_value.Goals as goal

text_at : (b : Bool) (o : Option Data) (d : Data) → cond b (ok_or o NotJson) (Err NotJson) ≡ Ok d → b ≡ true
text_at true o d h = refl
text_at false o d h = cc

-- bytes that are JSON are text
is_text : (bytes : List ℕ) (d : Data) → json_of bytes ≡ Ok d → is_utf8 bytes ≡ true
unfolding json_of
is_text bytes d h = text_at (is_utf8 bytes) (read bytes) d h

-- what the object says is what the line says, where it is not blank
says : (bytes : List ℕ) (d : Data) (r : Result Line LineFault) → list_all is_blank bytes ≡ false → json_of bytes ≡ Ok d
    → Gives (λ x. x) r (object_says reader_named d) → Gives (λ x. x) r (reading bytes)
unfolding reading_by
says bytes d r blank is h = rw (blank, is) h

pub returns-clause-read : goal.returns-clause-read
returns-clause-read c = says c.args.bytes.now _ c.object_says.result c.requires c.in_ok-value.ensures.read c.object_says.ensures

pub returns-clause-memory : goal.returns-clause-memory
returns-clause-memory c refused = is_text _ _ c.in_ok-value.ensures.read
