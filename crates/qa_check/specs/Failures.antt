-- What one call does to what is counted of a reader or a writer.
use Rattle.std.specs.Prelude.{ℕ, ◌+◌, ◌%◌, ◌^◌, ◌&&◌, ◌==◌, nat_lt, Bool, true, false, List, length}
use Rattle.std.specs.Prelude.{Result, Ok, Err}

-- the count after a call, which failed or not; it wraps at 2^64
abbrev pub failures_after : Bool → ℕ → ℕ
failures_after true n = (n + 1) % (2 ^ 64)
failures_after false n = n

-- a read failed: it returned an error
abbrev pub read_failed : {E : Type 0} → Result ℕ E → Bool
read_failed (Ok n) = false
read_failed (Err e) = true

-- how many bytes a read gave: none where it failed
abbrev pub read_count : {E : Type 0} → Result ℕ E → ℕ
read_count (Ok n) = n
read_count (Err e) = 0

-- a write failed: it returned an error, or took nothing of a piece that is not empty
abbrev pub write_failed : {E : Type 0} → Result ℕ E → List ℕ → Bool
write_failed (Ok n) piece = n == 0 && nat_lt 0 (length piece)
write_failed (Err e) piece = true
