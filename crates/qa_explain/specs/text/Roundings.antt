-- What may be said of a reported time that is off by no more than a rounding.
--
-- `u` is the unit of the trace's times.
use Rattle.std.specs.Prelude.{ℕ, ◌%◌, ◌==◌, ◌&&◌, nat_lt, nat_le, Bool, codes, List, []}
use Rattle.std.specs.Prelude.{Option, Some, if◌then◌else◌}
use Rattle.qa_base.specs.declared.event.Event.{Event}
use Rattle.qa_base.specs.declared.rule.Field.{Field}
use Rattle.qa_base.specs.declared.rule.Rule.{Rule}
use Rattle.qa_base.specs.declared.rule.Rule.TheVariants as rule
use Rattle.qa_base.specs.declared.space.TimeUnit.{TimeUnit}
use Rattle.qa_base.specs.declared.space.TimeUnit.TheVariants.{Microseconds, Nanoseconds}
use Rattle.qa_base.specs.declared.totals.Totals.{Totals}
use Rattle.qa_base.specs.machine.Rtt.{distance}
use Rattle.qa_base.specs.values.Settings.{in_unit}
use Rattle.qa_ledger.specs.declared.causes.cause.Cause.{Cause}
use Rattle.qa_ledger.specs.declared.causes.cause.Cause.TheVariants as cause
use Rattle.qa_explain.specs.text.Values.{held_of, is_of_bytes, reported_in}

-- whole milliseconds, less than one of them away
abbrev pub is_whole : TimeUnit → ℕ → ℕ → Bool
is_whole u reported apart =
    nat_lt apart (in_unit u 1000) && reported % in_unit u 1000 == 0

-- the last digit or two
abbrev pub few : TimeUnit → List ℕ
few Microseconds =
    codes "  Hint: this may be a rounding. Log nanoseconds (\"unit\":\"ns\"), or see \"report_slack_us\".\n"
few Nanoseconds = codes "  Hint: this may be a rounding. See \"report_slack_us\".\n"

abbrev pub rounding : TimeUnit → ℕ → ℕ → List ℕ
rounding u reported apart =
    if is_whole u reported apart
    then codes "  Hint: the log may have whole milliseconds. \"report_slack_us\":1000 allows for that.\n"
    else if nat_le apart 10 then few u else []

abbrev pub value_rounding : TimeUnit → Option ℕ → Option ℕ → List ℕ
value_rounding u (Some reported) (Some held) = rounding u reported (distance reported held)
value_rounding u _ _ = []

abbrev pub time_rounding : TimeUnit → Field → Totals → Event → List ℕ
time_rounding u f held e =
    if is_of_bytes f then [] else value_rounding u (reported_in f e) (held_of f held)

-- nothing where it is no time that is off
abbrev pub rounding_hint : TimeUnit → Event → Rule → Cause → List ℕ
rounding_hint u e (rule.Metric f) (cause.Metric held by) = time_rounding u f held e
rounding_hint u e r k = []
