-- What a call of C returns, by the names in `include/qaudit.h`.
use Rattle.std.specs.Prelude.{ℕ}

-- what follows can change the verdict
abbrev pub still_open : ℕ
still_open = 0

-- nothing that follows can
abbrev pub fixed : ℕ
fixed = 1

abbrev pub finished : ℕ
finished = 2

abbrev pub out_of_memory : ℕ
out_of_memory = 3

-- the handle holds nothing
abbrev pub closed : ℕ
closed = 4

-- a value is outside its range
abbrev pub out_of_range : ℕ
out_of_range = 5

-- there was no memory for what the event says
abbrev pub not_taken : ℕ
not_taken = 6

-- an event inside a line
abbrev pub inside_line : ℕ
inside_line = 7
