-- Packet numbers that a log skips. A sender may skip numbers (RFC 9000, 21.4); or the log lost
-- lines.
use Rattle.std.specs.Prelude.{ℕ, ◌+◌, ◌-◌, ◌==◌, nat_lt, codes, length, reverse}
use Rattle.std.specs.Prelude.{List, [], ◌∷◌, ◌++◌, if◌then◌else◌}
use Rattle.qa_base.specs.declared.event.Event.{Event}
use Rattle.qa_base.specs.declared.event.Event.TheVariants.{Sent}
use Rattle.qa_base.specs.declared.per_space.PerSpace.{PerSpace}
use Rattle.qa_base.specs.declared.space.Space.{Space}
use Rattle.qa_base.specs.declared.space.Space.TheVariants.{Initial, Handshake, App}
use Rattle.qa_base.specs.values.Events.{is_space}
use Rattle.qa_base.specs.values.Names.{space_name}
use Rattle.qa_explain.specs.text.Pieces.{named, numbered}
use Rattle.qa_why.specs.caveats.Guesses.{counted}
use Rattle.qa_why.specs.declared.caveats.missing.Missing.{Missing}

-- the number behind that of the last packet of the space; packet numbers begin at 0
abbrev pub next_number : List Event → Space → ℕ
next_number [] s = 0
next_number (Sent packet ∷ before) s =
    if is_space packet.space s then packet.number + 1 else next_number before s
next_number (e ∷ before) s = next_number before s

-- the run of numbers from the next to below that of a packet
abbrev pub run_below : ℕ → ℕ → List (ℕ × ℕ)
run_below next number = if nat_lt next number then (next, number - 1) ∷ [] else []

-- the runs of numbers of the space that were skipped; the last that was is the first
abbrev pub skipped : List Event → Space → List (ℕ × ℕ)
skipped [] s = []
skipped (Sent packet ∷ before) s =
    if is_space packet.space s
    then run_below (next_number before s) packet.number ++ skipped before s
    else skipped before s
skipped (e ∷ before) s = skipped before s

-- how many numbers these runs have
abbrev pub size_of_all : List (ℕ × ℕ) → ℕ
size_of_all [] = 0
size_of_all (run ∷ runs) = (run.1 - run.0 + 1) + size_of_all runs

abbrev pub least : List (ℕ × ℕ) → ℕ
least [] = 0
least (run ∷ runs) = run.0

abbrev pub greatest : List (ℕ × ℕ) → ℕ
greatest [] = 0
greatest (run ∷ runs) = run.1

-- what is missing of a space, in sum
abbrev pub missing : List Event → Space → Missing
missing h s =
    record {
      next = next_number h s;
      runs = counted (length (skipped h s));
      count = counted (size_of_all (skipped h s));
      least = least (reverse (skipped h s));
      greatest = greatest (skipped h s);
    }

-- ---- what is kept of it while a trace is judged

-- with a run up to below a number
abbrev pub with_run : Missing → ℕ → Missing
with_run m number =
    record m {
      runs = counted (m.runs + 1);
      count = counted (m.count + (number - m.next));
      least = if m.runs == 0 then m.next else m.least;
      greatest = number - 1;
    }

-- with the number of a packet more
abbrev pub with_number : Missing → ℕ → Missing
with_number m number =
    record (if nat_lt m.next number then with_run m number else m) { next = number + 1 }

-- ---- in a text

unfoldable pub of_space : Space → List ℕ
of_space s = named (codes " of ") (space_name s)

-- one number
unfoldable pub number_text : Space → ℕ → List ℕ
number_text s n =
    numbered (codes "  number ") n ++ of_space s
    ++ codes " is not in the log; it may have lost lines\n"

-- one run of them
unfoldable pub run_text : Space → ℕ → ℕ → List ℕ
run_text s lo hi =
    numbered (codes "  numbers ") lo ++ numbered (codes " to ") hi ++ of_space s
    ++ codes " are not in the log; it may have lost lines\n"

-- several runs
unfoldable pub runs_text : Space → ℕ → ℕ → ℕ → List ℕ
runs_text s count lo hi =
    numbered (codes "  ") count ++ codes " numbers" ++ of_space s
    ++ numbered (codes " from ") lo ++ numbered (codes " to ") hi
    ++ codes " are not in the log; it may have lost lines\n"

unfoldable pub missing_text : Space → Missing → List ℕ
missing_text s m =
    if m.runs == 0 then [] else
    (if m.count == 1 then number_text s m.least else
    (if m.runs == 1 then run_text s m.least m.greatest else
    runs_text s m.count m.least m.greatest))

-- of each space, by what is missing of it
abbrev pub missing_texts : PerSpace Missing → List ℕ
missing_texts m =
    missing_text Initial m.initial ++ missing_text Handshake m.handshake ++ missing_text App m.app

-- behind a history
abbrev pub all_missing : List Event → List ℕ
all_missing h =
    missing_texts (record {
      initial = missing h Initial;
      handshake = missing h Handshake;
      app = missing h App;
    })
