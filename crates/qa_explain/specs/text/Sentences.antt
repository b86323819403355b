-- The sentence that says what an event did that breaks a rule.
--
-- `u` is the unit of the trace's times.
use Rattle.std.specs.Prelude.{ℕ, max, ◌-◌, nat_lt, codes, List, [], ◌++◌}
use Rattle.std.specs.Prelude.{Option, Some, None, unwrap_or, if◌then◌else◌}
use Rattle.qa_base.specs.declared.event.Event.{Event}
use Rattle.qa_base.specs.declared.rule.Field.{Field}
use Rattle.qa_base.specs.declared.rule.Rule.{Rule}
use Rattle.qa_base.specs.declared.rule.Rule.TheVariants as rule
use Rattle.qa_base.specs.declared.space.TimeUnit.{TimeUnit}
use Rattle.qa_base.specs.machine.Rtt.{distance}
use Rattle.qa_base.specs.values.Events.{time_of}
use Rattle.qa_base.specs.values.Names.{field_name}
use Rattle.qa_ledger.specs.declared.causes.cause.Cause.{Cause}
use Rattle.qa_ledger.specs.declared.causes.cause.Cause.TheVariants as cause
use Rattle.qa_ledger.specs.declared.causes.cause.Comparison.{Comparison}
use Rattle.qa_explain.specs.declared.text.sentences.Metric.{Metric}
use Rattle.qa_explain.specs.text.Deadlines.{due_time}
use Rattle.qa_explain.specs.text.Pieces.{named}
use Rattle.qa_explain.specs.text.Predicates.{predicate}
use Rattle.qa_explain.specs.text.Subjects.{subject}
use Rattle.qa_explain.specs.text.Times.{timed}
use Rattle.qa_explain.specs.text.Values.{amount_text, held_of, is_of_bytes, reported_in}

unfoldable pub plain_sentence : TimeUnit → Event → Rule → Cause → List ℕ
plain_sentence u e r k = subject e ++ predicate u e r k

-- ---- V16

-- by how much a value of the field may differ
abbrev pub slack_of : Comparison → Field → ℕ
slack_of by f = if is_of_bytes f then by.slack_bytes else by.slack_time

abbrev pub value_text : Metric → ℕ → List ℕ
value_text m n = amount_text m.unit (rule.Metric m.field) n

unfoldable pub some_slack : Metric → List ℕ
some_slack m = codes ", " ++ value_text m m.slack ++ codes " allowed"

-- how much the header allows, where it does
abbrev pub slack_text : Metric → List ℕ
slack_text m = if nat_lt 0 m.slack then some_slack m else []

unfoldable pub apart_tail : Metric → List ℕ
apart_tail m = codes " apart" ++ slack_text m ++ codes ")"

unfoldable pub gap_text : Metric → ℕ → List ℕ
gap_text m apart = codes " (" ++ value_text m apart ++ apart_tail m

unfoldable pub apart_text : Metric → ℕ → ℕ → List ℕ
apart_text m held apart = codes ", the model has " ++ value_text m held ++ gap_text m apart

abbrev pub model_text : Metric → ℕ → Option ℕ → List ℕ
model_text m reported None = codes ", the model has none"
model_text m reported (Some held) = apart_text m held (distance reported held)

unfoldable pub reported_text : Metric → ℕ → Option ℕ → List ℕ
reported_text m reported held =
    named (codes "reported ") (field_name m.field) ++ codes " " ++ value_text m reported
    ++ model_text m reported held

abbrev pub value_sentence : Metric → Option ℕ → Option ℕ → List ℕ
value_sentence m None held = named (codes "no report of ") (field_name m.field)
value_sentence m (Some reported) held = reported_text m reported held

-- ---- V18

unfoldable pub late_sentence : TimeUnit → ℕ → ℕ → List ℕ
late_sentence u by limit =
    timed (codes "no timer for ") u by ++ timed (codes " past its deadline (limit ") u limit
    ++ codes ")"

-- ---- each rule

abbrev pub sentence : TimeUnit → Event → Rule → Cause → List ℕ
sentence u e (rule.Metric f) (cause.Metric held by) =
    value_sentence (record { unit = u; field = f; slack = slack_of by f }) (reported_in f e)
    (held_of f held)
sentence u e rule.TimerLate (cause.TimerLate due since limit) =
    late_sentence u (time_of e - max (due_time due) since) (unwrap_or limit 0)
sentence u e r k = plain_sentence u e r k
