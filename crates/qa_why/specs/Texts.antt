-- What is written of a trace, by its verdict.
use Rattle.std.specs.Prelude.{ℕ, Bool, false, codes, List, [], ◌++◌, Option, Some, None}
use Rattle.qa_base.specs.declared.event.Event.{Event}
use Rattle.qa_base.specs.declared.rule.Rule.{Rule}
use Rattle.qa_base.specs.declared.rule.Rule.TheVariants as rule
use Rattle.qa_base.specs.declared.space.TimeUnit.{TimeUnit}
use Rattle.qa_base.specs.declared.totals.Totals.{Totals}
use Rattle.qa_base.specs.values.Names.{rule_text}
use Rattle.qa_ledger.specs.declared.causes.cause.Cause.{Cause}
use Rattle.qa_ledger.specs.declared.causes.cause.Owed.{Owed}
use Rattle.qa_format.specs.declared.fault.Fault.{Fault}
use Rattle.qa_format.specs.declared.fault.Fault.TheVariants.{LineTooLong, TooManyLines}
use Rattle.qa_format.specs.verdicts.Report.{fault_text}
use Rattle.qa_check.specs.names.Names.{shown_name}
use Rattle.qa_explain.specs.text.Facts.{facts_text}
use Rattle.qa_explain.specs.text.Pieces.{named, numbered}
use Rattle.qa_explain.specs.text.Roundings.{rounding_hint}
use Rattle.qa_explain.specs.text.Runs.{owed_text}
use Rattle.qa_explain.specs.text.Sentences.{sentence}
use Rattle.qa_explain.specs.text.Sources.{source_text}
use Rattle.qa_why.specs.Faults.{fault_sentence}
use Rattle.qa_why.specs.Hints.{hint}
use Rattle.qa_why.specs.Lines.{line_text}
use Rattle.qa_why.specs.Meant.{meant}
use Rattle.qa_why.specs.Values.{wrong_value}
use Rattle.qa_why.specs.caveats.Remarks.{remarks_at}

-- the line that a verdict is about, the verdict in a word, and the rule or the fault
unfoldable pub head_tail : ℕ → List ℕ → List ℕ → List ℕ
head_tail n word what =
    numbered (codes ":") n ++ named (codes ": ") word ++ named (codes " ") what ++ codes ": "

unfoldable pub head : List ℕ → ℕ → List ℕ → List ℕ → List ℕ
head name n word what = shown_name name ++ head_tail n word what

-- ---- accepted

unfoldable pub accepted_tail : ℕ → List ℕ
accepted_tail events = numbered (codes ": accepted, ") events ++ (codes " events\n")

unfoldable pub accepted_text : List ℕ → Totals → List ℕ
accepted_text name t = shown_name name ++ accepted_tail t.events

-- ---- refused

-- what the event did, as a sentence
unfoldable pub refused_sentence : TimeUnit → Rule → Event → Cause → List ℕ
refused_sentence u r e k = sentence u e r k ++ codes "\n"

-- the facts, where the rule stands, and a hint where the value may be off by a rounding
unfoldable pub grounds : TimeUnit → Rule → Event → Cause → List ℕ
grounds u r e k = facts_text e k ++ source_text r ++ rounding_hint u e r k

-- where in a log the line is from, by the key `x_place` that a converter of logs gives it
abbrev pub place_text : List ℕ → List ℕ
place_text l = remarks_at (codes "  in the log: ") (codes "x_place") l

-- of line n, which says an event that breaks a rule, with a word for what follows from that; times
-- are in the unit
unfoldable pub broken_text : List ℕ → List ℕ → ℕ → TimeUnit → Rule → Event → Cause → List ℕ
    → List ℕ
broken_text word name n u r e k l =
    head name n word (rule_text r) ++ refused_sentence u r e k ++ line_text n l ++ place_text l
    ++ grounds u r e k

-- why line n, which says an event that breaks a rule, is refused
abbrev pub refused_text : List ℕ → ℕ → TimeUnit → Rule → Event → Cause → List ℕ → List ℕ
refused_text name n u r e k l = broken_text (codes "refused") name n u r e k l

-- V17: why a trace is refused that ends while a loss is owed, with its last event on line n
unfoldable pub debt_tail : Owed → List ℕ
debt_tail o =
    codes "the trace ends while a loss is owed\n" ++ owed_text o ++ source_text rule.OwedAtEnd

unfoldable pub owed_at_end_text : List ℕ → ℕ → Owed → List ℕ
owed_at_end_text name n o = head name n (codes "refused") (rule_text rule.OwedAtEnd) ++ debt_tail o

-- ---- unreadable

-- the line, where it is shown: not where there is one too many, or too much of it
abbrev pub seen : Fault → Option (List ℕ) → Option (List ℕ)
seen LineTooLong line = None
seen TooManyLines line = None
seen f line = line

abbrev pub seen_text : ℕ → Option (List ℕ) → List ℕ
seen_text n None = []
seen_text n (Some l) = line_text n l

-- what the file may be, where no header stands before the line
abbrev pub hint_text : Bool → Option (List ℕ) → List ℕ
hint_text false (Some l) = hint l
hint_text headed line = []

unfoldable pub unreadable_tail : Fault → Bool → ℕ → Option (List ℕ) → List ℕ
unreadable_tail f headed n line =
    fault_sentence f headed n line ++ wrong_value f line ++ codes "\n" ++ seen_text n line
    ++ meant f line ++ hint_text headed line

-- why line n cannot be read, behind a header or not
unfoldable pub unreadable_text : List ℕ → ℕ → Fault → Bool → Option (List ℕ) → List ℕ
unreadable_text name n f headed line =
    head name n (codes "unreadable") (fault_text f) ++ unreadable_tail f headed n (seen f line)
