-- How many traces came to which verdict, and the exit status.
use Rattle.std.specs.Prelude.{ℕ, ◌+◌, ◌-◌, ◌^◌, Bool, true, false, max, min, map, codes, List, ◌++◌}
use Rattle.std.specs.Prelude.{[], Ok, Err}
use Rattle.std.specs.List.{count_by}
use Rattle.qa_check.specs.declared.auditing.Outcome.{Outcome}
use Rattle.qa_check.specs.declared.auditing.Outcome.TheVariants.{Accepted, Refused, Unreadable}
use Rattle.qa_commands.specs.Ending.{greatest}
use Rattle.qa_explain.specs.text.Pieces.{numbered}
use Rattle.qa_why_command.specs.Ending.{Ended, status_of}
use Rattle.qa_why_command.specs.declared.ending.Failure.TheVariants.{Audit, Log, Open}
use Rattle.qa_why_command.specs.declared.tally.Tally.{Tally}

-- one more, but no more than 64 bits hold
abbrev pub one_more : ℕ → ℕ
one_more n = min (n + 1) (2 ^ 64 - 1)

abbrev pub nothing : Tally
nothing = record { accepted = 0; refused = 0; unreadable = 0; status = 0 }

-- a trace more of this verdict, with its exit status
abbrev pub with_outcome : Tally → Outcome → Tally
with_outcome t Accepted = record t { accepted = one_more t.accepted }
with_outcome t Refused = record t { refused = one_more t.refused; status = max t.status 1 }
with_outcome t Unreadable = record t { unreadable = one_more t.unreadable; status = max t.status 2 }

abbrev pub failed : Tally → Tally
failed t = record t { status = max t.status 3 }

-- a trace with a verdict counts by it, a log that gives none as unreadable, and any other failure
-- as one
abbrev pub counted : Tally → Ended → Tally
counted t (Ok outcome) = with_outcome t outcome
counted t (Err Open) = failed t
counted t (Err (Audit fault)) = failed t
counted t (Err Log) = with_outcome t Unreadable

-- ---- of all traces

abbrev pub is_accepted : Ended → Bool
is_accepted (Ok Accepted) = true
is_accepted (Ok Refused) = false
is_accepted (Ok Unreadable) = false
is_accepted (Err failure) = false

abbrev pub is_refused : Ended → Bool
is_refused (Ok Accepted) = false
is_refused (Ok Refused) = true
is_refused (Ok Unreadable) = false
is_refused (Err failure) = false

abbrev pub is_unreadable : Ended → Bool
is_unreadable (Ok Accepted) = false
is_unreadable (Ok Refused) = false
is_unreadable (Ok Unreadable) = true
is_unreadable (Err Open) = false
is_unreadable (Err (Audit fault)) = false
is_unreadable (Err Log) = true

-- how many traces came to a verdict, but no more than 64 bits hold
abbrev pub count_of : (Ended → Bool) → List Ended → ℕ
count_of came endings = min (count_by came endings) (2 ^ 64 - 1)

-- of traces that ended so, how many came to which verdict, and the greatest of their exit statuses
abbrev pub tally_of : List Ended → Tally
tally_of endings = record {
  accepted = count_of is_accepted endings;
  refused = count_of is_refused endings;
  unreadable = count_of is_unreadable endings;
  status = greatest (map status_of endings);
}

unfoldable pub tally_line : Tally → List ℕ
tally_line t =
    numbered [] (t.accepted + t.refused + t.unreadable) ++ numbered (codes " traces: ") t.accepted
    ++ numbered (codes " accepted, ") t.refused
    ++ numbered (codes " refused, ") t.unreadable ++ codes " unreadable\n"
