-- What a function that may run out of memory answers of a reading.
use Rattle.std.specs.Prelude.{◌≡◌, Result, Ok, Err}
use Rattle.qa_format.specs.declared.fault.Fault.{Fault}
use Rattle.qa_read.specs.declared.fault.LineFault.{LineFault}
use Rattle.qa_read.specs.declared.fault.LineFault.TheVariants as errors

abbrev pub Fails : {Y : Type 0} → LineFault → Result Y Fault → Type 0
Fails errors.OutOfMemory read = Unit {0}
Fails (errors.Fault f) read = read ≡ Err f

-- the answer, seen by view, is what the reading gives, unless memory was refused
abbrev pub Gives : {X Y : Type 0} → (X → Y) → Result X LineFault → Result Y Fault → Type 0
Gives view (Ok x) read = read ≡ Ok (view x)
Gives view (Err e) read = Fails e read
