-- Which dialect a log is of, and which dialect has a name. And what a log may show of its own: it
-- may show another order than that of its dialect, what a value means that is left out, and how
-- fine its times are. All else is as the table has it.
use Rattle.std.specs.Prelude.{◌≡◌, ◌==◌, ◌||◌, ◌&&◌, ℕ, Bool, true, List, ◌∷◌, bytes_eq, find}
use Rattle.std.specs.Prelude.{nat_eq, Option, unwrap_or}
use Rattle.std.specs.Borrow.{Bor}
use Rattle.std.specs.List.{list_any, starts_with}
use Rattle.std.specs.Option.{option_or}
use Rattle.std.specs.Str.{str_to_ascii_lowercase}
use Rattle.qa_qlog.specs.Secrets.{occurs}
use Rattle.qa_convert.specs.Stacks.{stack_mark, stack_name, stack_schema}
use Rattle.qa_convert.specs.declared.dialects.Dialect.{Dialect}
use Rattle.qa_convert.specs.declared.dialects.TheConstants.{DIALECTS, GENERIC}

-- ---- which dialect

-- a text begins with a mark, in small or large letters
abbrev pub begins_with : List ℕ → List ℕ → Bool
begins_with mark text =
    starts_with nat_eq (str_to_ascii_lowercase text) (str_to_ascii_lowercase mark)

-- a mark stands somewhere in a text, in small or large letters
abbrev pub has_mark : List ℕ → List ℕ → Bool
has_mark mark text = occurs (str_to_ascii_lowercase mark) (str_to_ascii_lowercase text)

-- it stands in one of the texts
abbrev pub is_said : List (Bor (List ℕ)) → List ℕ → Bool
is_said said mark = list_any (λ text. has_mark mark text.now) said

-- what a log says of who wrote it has the mark of the dialect
abbrev pub is_marked : List (Bor (List ℕ)) → Dialect → Bool
is_marked said d = is_said said (stack_mark d.stack)

-- and its version or schema begins with that of the dialect
abbrev pub is_meant : List (Bor (List ℕ)) → List ℕ → Dialect → Bool
is_meant said schema d = is_marked said d && starts_with nat_eq schema (stack_schema d.stack)

-- the first dialect with both, else the first with its mark, if there is one
abbrev pub marked_kind : List (Bor (List ℕ)) → List ℕ → Option Dialect
marked_kind said schema =
    option_or (find (is_meant said schema) DIALECTS) (find (is_marked said) DIALECTS)

-- the dialect of a log
abbrev pub kind_of : List (Bor (List ℕ)) → List ℕ → Dialect
kind_of said schema = unwrap_or (marked_kind said schema) GENERIC

abbrev pub has_name : List ℕ → Dialect → Bool
has_name name d = bytes_eq (stack_name d.stack) name

-- the dialect of this name, if there is one
abbrev pub named : List ℕ → Option Dialect
named name = find (has_name name) (GENERIC ∷ DIALECTS)

-- ---- what a log shows of its own

-- how far off times are, and how early a timer may be, in a log of whole milliseconds, in
-- microseconds
abbrev pub slack_of_milliseconds : ℕ
slack_of_milliseconds = 2000

abbrev pub early_of_milliseconds : ℕ
early_of_milliseconds = 3000

abbrev pub is_either : ℕ → ℕ → ℕ → Bool
is_either a b n = n == a || n == b

-- the dialect that was found by a log is the one that was asked for, but for these
pub record IsLike (asked found : Dialect) : Type 0 where
  pub is : found ≡ record asked {
    received_stands_last = found.received_stands_last;
    losses_stand_before = found.losses_stand_before;
    absent = found.absent;
    slack_us = found.slack_us;
    timer_early_us = found.timer_early_us;
  }
  pub slack : is_either asked.slack_us slack_of_milliseconds found.slack_us ≡ true
  pub early : is_either asked.timer_early_us early_of_milliseconds found.timer_early_us ≡ true
