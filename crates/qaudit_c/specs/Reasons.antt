-- What C is told of why a recorded trace is refused.
use Rattle.std.specs.Prelude.{ℕ, false, codes, List}
use Rattle.qa_format.specs.declared.form.Form.TheVariants.{Text}
use Rattle.qa_violations.specs.around.Around.{around_written}
use Rattle.qa_violations.specs.declared.around.manner.Manner.{Manner}

-- as text, whatever the verdict, with so many rows before
abbrev pub manner : ℕ → Manner
manner rows = record { form = Text; quiet = false; around = rows }

-- what `qaudit-why --around` tells of these bytes on standard input, with so many rows
abbrev pub around : ℕ → List ℕ → List ℕ
around rows bytes = around_written (manner rows) (codes "-") bytes

-- what `qaudit-why` tells of them
abbrev pub why : List ℕ → List ℕ
why bytes = around 0 bytes
