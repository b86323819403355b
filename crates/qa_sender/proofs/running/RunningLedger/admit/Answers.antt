use Rattle.std.proofs.Common.{◌≡◌, List, None, Ok, Err, rules}
use Rattle.qa_base.proofs.machine.RunLaws.{unbroken_is_tolerated}
use Rattle.qa_base.specs.declared.event.Event.{Event}
use Rattle.qa_base.specs.machine.Rules.{first_broken}
use Rattle.qa_base.specs.values.Settings.{Settings}
use Rattle.qa_sender.specs.Running.{IsAfter}
use Rattle.qa_sender.proofs.running.RunningLedger.admit.Goals as goal

ok_is_no_err : {T E P : Type 0} (t : T) (e : E) → Ok t ≡ Err e → P
ok_is_no_err t e same = cc

-- Written out, so that a wrong body is refused at these lines.
pub returns-then-self-clause-ok : goal.returns-then-self-clause-ok
returns-then-self-clause-ok c = search rules

pub returns-then-self-clause-failed : goal.returns-then-self-clause-failed
returns-then-self-clause-failed c = search rules

pub returns-in-Ok-clause-broken : goal.returns-in-Ok-clause-broken
returns-in-Ok-clause-broken c = λ r e. ok_is_no_err _ _ e

-- no rule is broken at all
pub follow-requires-clause-allowed : goal.follow-requires-clause-allowed
follow-requires-clause-allowed c =
    let unbroken : (k : Settings) (h : List Event) → IsAfter c.args.self.now k h → first_broken k h c.args.event.now ≡ None = search rules in
    λ k h after. unbroken_is_tolerated k h c.args.event.now (unbroken k h after)
