-- What is owed as lost, and what is free.
use Rattle.std.specs.Prelude.{ℕ, codes, List, [], ◌++◌, Option, Some, None}
use Rattle.json.specs.Token.{Token}
use Rattle.qa_base.specs.declared.space.Space.{Space}
use Rattle.qa_base.specs.values.Names.{space_name}
use Rattle.qa_ledger.specs.declared.causes.cause.Counted.{Counted}
use Rattle.qa_ledger.specs.declared.causes.cause.Free.{Free}
use Rattle.qa_ledger.specs.declared.causes.cause.Owed.{Owed}
use Rattle.qa_explain.specs.members.Object.{closed, list_begin, list_end, null_at, number_at}
use Rattle.qa_explain.specs.members.Object.{opened, runs_at, string_at}

-- a space that may be absent
abbrev pub space_at : List ℕ → Option Space → List Token
space_at key None = null_at key
space_at key (Some s) = string_at key (space_name s)

-- how far a packet lies below the largest acknowledged one, by the packets that were sent: a list
-- of one object
unfoldable pub some_counted : List ℕ → Counted → List Token
some_counted key k =
    list_begin key ++ opened ++ number_at (codes "number") k.number
    ++ number_at (codes "up_to") k.largest ++ number_at (codes "packets") k.packets
    ++ number_at (codes "packet_threshold") k.threshold ++ closed ++ list_end

-- where that is told
abbrev pub counted : List ℕ → Option Counted → List Token
counted key None = []
counted key (Some k) = some_counted key k

-- what is owed, by its space and its numbers
unfoldable pub owed_runs : Owed → List Token
owed_runs o = space_at (codes "owed_space") o.space ++ runs_at (codes "owed") o.numbers

-- and how far the first of it lies below
unfoldable pub owed : Owed → List Token
owed o = owed_runs o ++ counted (codes "owed_counted") o.counted

unfoldable pub free_in : Free → List Token
free_in f = space_at (codes "free_space") f.space ++ runs_at (codes "free") f.numbers

unfoldable pub free_absent : List Token
free_absent = null_at (codes "free_space") ++ null_at (codes "free")

-- what is free, where the header lets a sender spare packets
abbrev pub free : Option Free → List Token
free None = free_absent
free (Some f) = free_in f

-- V3
unfoldable pub nameable : Owed → Option Free → List Token
nameable o f = owed o ++ free f

-- V4: how a Lost line differs from what it may name
unfoldable pub differing : List (ℕ × ℕ) → List (ℕ × ℕ) → List Token
differing unnamed unowed = runs_at (codes "unnamed") unnamed ++ runs_at (codes "unowed") unowed
