-- The times of a log, from its start.
use Rattle.std.specs.Prelude.{ℕ, ℤ, pos, negsuc, ◌+ℤ◌, ◌-ℤ◌, int_le, ◌||◌, Bool, true, false}
use Rattle.std.specs.Prelude.{Option, Some, None, if◌then◌else◌}
use Rattle.std.specs.Int.{saturate_signed, w64}
use Rattle.qa_qlog.specs.declared.heads.TimeForm.{TimeForm}
use Rattle.qa_qlog.specs.declared.heads.TimeForm.TheVariants.{Absolute, Delta}

abbrev pub is_absolute : TimeForm → Bool
is_absolute Absolute = true
is_absolute _ = false

-- more than ten years after the start of a log no record comes
abbrev pub is_of_epoch : ℤ → Bool
is_of_epoch first = int_le (pos 315360000000000000) first

-- from what the times count, by the first one
abbrev pub start_of : TimeForm → ℤ → ℤ
start_of form first = if is_absolute form || is_of_epoch first then first else pos 0

abbrev pub begun : TimeForm → ℤ → Option ℤ → ℤ
begun form time None = start_of form time
begun form time (Some start) = start

-- a sum or a difference, up to the ends of 64 bits
abbrev pub kept : ℤ → ℤ
kept time = saturate_signed w64 time

-- the time behind another, by what the record says
abbrev pub time_behind : TimeForm → ℤ → ℤ → ℤ → ℤ
time_behind Delta time start last = kept (last +ℤ time)
time_behind _ time start last = kept (time -ℤ start)

abbrev pub last_after : TimeForm → ℤ → Option ℤ → ℤ → ℤ
last_after form time None last = kept (time -ℤ start_of form time)
last_after form time (Some start) last = time_behind form time start last

-- a time before the start is shown as that
abbrev pub shown : ℤ → ℕ
shown (pos n) = n
shown (negsuc n) = 0
