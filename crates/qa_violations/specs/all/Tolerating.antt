-- The judge that goes on past sender rules: what it stands for, and what the last event violated.
--
-- `c` are the settings of the header, `h` is the history, the latest event first, and `e` is an
-- event after it.
use Rattle.std.specs.Prelude.{◌≡◌, Bool, List, [], ◌∷◌, map}
use Rattle.qa_base.specs.declared.event.Event.{Event}
use Rattle.qa_base.specs.declared.rule.Rule.{Rule}
use Rattle.qa_base.specs.machine.Violations.{violations, first_untolerated}
use Rattle.qa_base.specs.values.Settings.{Settings}
use Rattle.qa_violations.specs.declared.all.tolerating.Violation.{Violation}
use Rattle.qa_ledger.specs.causes.Causes.{cause_of}
use Rattle.qa_check.specs.Standing.{Judges}
use Rattle.qa_violations.specs.allowed.Lines.{Counting}
use Rattle.qa_violations.specs.table.Table.{is_nil}

-- ---- what an event violates

-- the rule with its facts for the event
abbrev pub violation : Settings → List Event → Event → Rule → Violation
violation c h e r = record { rule = r; cause = cause_of c h e r }

-- these rules, each with its facts for the event
abbrev pub explained : Settings → List Event → Event → List Rule → List Violation
explained c h e rules = map (violation c h e) rules

-- all rules that the event breaks, in their order, each with its facts before the event
abbrev pub violations_of : Settings → List Event → Event → List Violation
violations_of c h e = explained c h e (violations c h e)

-- what the latest event of a history violated
abbrev pub latest_of : Settings → List Event → List Violation
latest_of c [] = []
latest_of c (e ∷ h) = violations_of c h e

-- it violated nothing
abbrev pub unviolated : Counting
unviolated c h = is_nil (latest_of c h)

-- ---- the judge

-- a ledger, what the last event violated that was admitted, and whether it ran out of memory
pub record Held (L : Type 0) : Type 0 where
  pub ledger : L
  pub latest : List Violation
  pub failed : Bool

-- its ledger stands for the history, and it has what the latest event violated
abbrev pub StandsFor : {L : Type 0} → (L → Settings → List Event → Type 0) → Held L → Settings
    → List Event → Type 0
StandsFor stands held c h = stands held.ledger c h × (held.latest ≡ latest_of c h)

-- an event ends the trace by the first rule that it breaks and past which the machine does not go
-- on
abbrev pub past_sender_rules : {L : Type 0} → (L → Settings → List Event → Type 0) → Judges (Held L)
past_sender_rules stands = record { stands = StandsFor stands; breaks = first_untolerated }
