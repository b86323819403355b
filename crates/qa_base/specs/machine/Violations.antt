-- What goes on behind a broken rule: sender rules, the rules that an event breaks, and tolerated
-- runs.
--
-- `c` are the settings of the header, `h` is the history.
use Rattle.std.specs.Prelude.{◌≡◌, ◌&&◌, not, ℕ, nat_lt, Bool, true, false, List, [], ◌∷◌, map}
use Rattle.std.specs.Prelude.{filter, Option, None}
use Rattle.qa_base.specs.declared.event.Event.{Event}
use Rattle.qa_base.specs.declared.rule.Rule.{Rule}
use Rattle.qa_base.specs.declared.rule.Rule.TheVariants as rule
use Rattle.qa_base.specs.machine.Rules.{broken, first_of}
use Rattle.qa_base.specs.machine.Timer.{pto_count}
use Rattle.qa_base.specs.values.Settings.{Settings}

-- ---- what goes on

-- a sender rule says what a sender should have done, and leaves what follows well formed; each
-- other rule says what a history is
abbrev pub is_sender_rule : Rule → Bool
is_sender_rule rule.PastWindow = true
is_sender_rule rule.PastProbe = true
is_sender_rule rule.PastRecovery = true
is_sender_rule rule.TimerEarly = true
is_sender_rule rule.ProbeOwed = true
is_sender_rule (rule.Metric field) = true
is_sender_rule rule.TimerLate = true
is_sender_rule rule.CollapseMissing = true
is_sender_rule _ = false

-- so often a timeout can be doubled before it is longer than any time in range: past it, only
-- timers that are early can come
abbrev pub most_doublings : ℕ
most_doublings = 40

-- the machine goes on past a sender rule that an event breaks, and past an early timer while its
-- timeout may still be doubled
abbrev pub is_tolerated : Settings → List Event → Rule → Bool
is_tolerated c h rule.TimerEarly = nat_lt (pto_count c h) most_doublings
is_tolerated c h r = is_sender_rule r

-- ---- what an event breaks

-- it is broken, and the machine does not go on past it
abbrev pub is_untolerated : Settings → List Event → Bool × Rule → Bool
is_untolerated c h test = test.0 && not (is_tolerated c h test.1)

-- the first rule that the event breaks and past which the machine does not go on
unfoldable pub first_untolerated : Settings → List Event → Event → Option Rule
first_untolerated c h e = first_of (map (λ test. (is_untolerated c h test, test.1)) (broken c h e))

-- the rules of those tests that are so
abbrev pub rules_of : List (Bool × Rule) → List Rule
rules_of tests = map (λ test. test.1) (filter (λ test. test.0) tests)

-- all rules that the event breaks, in their order
unfoldable pub violations : Settings → List Event → Event → List Rule
violations c h e = rules_of (broken c h e)

-- ---- what has come so far

-- each event of the history broke no rule past which the machine does not go on
abbrev pub IsToleratedRun : Settings → List Event → Type 0
IsToleratedRun c [] = Unit {0}
IsToleratedRun c (e ∷ before) = IsToleratedRun c before × (first_untolerated c before e ≡ None)
