-- Runs of packet numbers, and what is owed as lost.
use Rattle.std.specs.Prelude.{ℕ, nat_lt, ◌==◌, ◌-◌, codes, decimal, length, take, List, [], ◌∷◌}
use Rattle.std.specs.Prelude.{◌++◌, Option, Some, None, if◌then◌else◌}
use Rattle.qa_base.specs.declared.space.Space.{Space}
use Rattle.qa_base.specs.values.Names.{space_name}
use Rattle.qa_ledger.specs.declared.causes.cause.Counted.{Counted}
use Rattle.qa_ledger.specs.declared.causes.cause.Free.{Free}
use Rattle.qa_ledger.specs.declared.causes.cause.Owed.{Owed}
use Rattle.qa_explain.specs.text.Pieces.{named}

-- a run of numbers, from its least to its greatest
abbrev pub run_text : ℕ × ℕ → List ℕ
run_text run =
    if run.0 == run.1 then codes " " ++ decimal run.0 else codes " " ++ decimal run.0 ++ codes "-"
    ++ decimal run.1

-- one behind another
abbrev pub each_run : List (ℕ × ℕ) → List ℕ
each_run [] = []
each_run (run ∷ runs) = run_text run ++ each_run runs

-- the most runs that are shown
abbrev pub shown_runs : ℕ
shown_runs = 16

-- how many more there are
unfoldable pub more_text : ℕ → List ℕ
more_text n =
    if nat_lt shown_runs n then codes " and " ++ decimal (n - shown_runs)
    ++ codes " more runs" else []

unfoldable pub runs_text : List (ℕ × ℕ) → List ℕ
runs_text runs = each_run (take shown_runs runs) ++ more_text (length runs)

-- a line with some words and runs
unfoldable pub runs_line : List ℕ → List (ℕ × ℕ) → List ℕ
runs_line words runs = words ++ runs_text runs ++ codes "\n"

-- the same, where there is a run
abbrev pub some_runs_line : List ℕ → List (ℕ × ℕ) → List ℕ
some_runs_line words [] = []
some_runs_line words (run ∷ runs) = runs_line words (run ∷ runs)

abbrev pub owed_in_text : Option Space → List (ℕ × ℕ) → List ℕ
owed_in_text None runs = codes "  nothing is owed\n"
owed_in_text (Some s) runs = named (codes "  owed: ") (space_name s) ++ runs_line [] runs

-- how far a packet lies below the largest acknowledged one, by the packets that were sent
unfoldable pub counted_numbers : Counted → List ℕ
counted_numbers k =
    codes "  packets sent after " ++ decimal k.number ++ codes ", up to " ++ decimal k.largest

unfoldable pub counted_amounts : Counted → List ℕ
counted_amounts k =
    codes ": " ++ (decimal k.packets ++ (codes " (packet_threshold " ++ decimal k.threshold))

unfoldable pub some_counted_text : Counted → List ℕ
some_counted_text k = counted_numbers k ++ counted_amounts k ++ codes ")\n"

-- where that is told
abbrev pub counted_text : Option Counted → List ℕ
counted_text None = []
counted_text (Some k) = some_counted_text k

-- what is owed as lost
unfoldable pub owed_text : Owed → List ℕ
owed_text o = owed_in_text o.space o.numbers ++ counted_text o.counted

-- the same of what is free
unfoldable pub free_runs_text : List ℕ → List (ℕ × ℕ) → List ℕ
free_runs_text space runs = named (codes "  free: ") space ++ runs_line [] runs

abbrev pub some_free_text : List ℕ → List (ℕ × ℕ) → List ℕ
some_free_text space [] = codes "  nothing is free\n"
some_free_text space (run ∷ runs) = free_runs_text space (run ∷ runs)

abbrev pub free_in_text : Option Space → List (ℕ × ℕ) → List ℕ
free_in_text None runs = codes "  nothing is free\n"
free_in_text (Some s) runs = some_free_text (space_name s) runs

-- what is free, where the header lets a sender spare packets
abbrev pub free_text : Option Free → List ℕ
free_text None = []
free_text (Some f) = free_in_text f.space f.numbers

-- V3: what is owed, and what is free
unfoldable pub nameable_text : Owed → Option Free → List ℕ
nameable_text o f = owed_text o ++ free_text f

-- V4: how a Lost line differs from what is owed
unfoldable pub differing_text : List (ℕ × ℕ) → List (ℕ × ℕ) → List ℕ
differing_text unnamed unowed =
    some_runs_line (codes "  owed but not named:") unnamed
    ++ some_runs_line (codes "  named but not owed:") unowed
