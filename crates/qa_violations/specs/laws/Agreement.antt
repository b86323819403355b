-- How the verdict of a trace and its violations go together.
use Rattle.std.specs.Prelude.{◌≡◌, ℕ, nat_lt, Bool, List, [], ◌∷◌}
use Rattle.qa_violations.specs.all.All.{past_sender_rules}
use Rattle.qa_violations.specs.all.Violated.{Violated, all_violated}
use Rattle.qa_base.specs.declared.rule.Rule.{Rule}
use Rattle.qa_base.specs.declared.rule.Rule.TheVariants as rule
use Rattle.qa_base.specs.declared.totals.Totals.{Totals}
use Rattle.qa_base.specs.machine.Violations.{is_sender_rule, most_doublings}
use Rattle.qa_format.specs.declared.verdict.Verdict.{Verdict}
use Rattle.qa_format.specs.verdicts.Verdict.{verdict}
use Rattle.qa_why.specs.Why.{good_lines}

-- all violations of a trace
abbrev pub violations_of_trace : List ℕ → List Violated
violations_of_trace bytes = all_violated (good_lines past_sender_rules bytes)

-- the machine goes on past an event that breaks this rule, where it has these totals before it
abbrev pub goes_on_past : Rule → Totals → Bool
goes_on_past rule.TimerEarly t = nat_lt t.pto_count most_doublings
goes_on_past r t = is_sender_rule r

-- the first of the violations is on this line, of this rule
abbrev pub ComesFirst : ℕ → Rule → List Violated → Type 0
ComesFirst n r [] = ⊥
ComesFirst n r (d ∷ ds) = (d.line ≡ n) × (d.violation.rule ≡ r)

-- the trace has no violation, and past violations too this is its verdict
abbrev pub EndsUnviolated : Verdict → List ℕ → Type 0
EndsUnviolated v bytes = (verdict past_sender_rules bytes ≡ v) × (violations_of_trace bytes ≡ [])
