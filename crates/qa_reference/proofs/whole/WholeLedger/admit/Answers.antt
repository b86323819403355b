use Rattle.std.proofs.Common.{◌≡◌, None, Ok, Err, refl, rules}
use Rattle.qa_base.proofs.machine.RunLaws.{unbroken_is_tolerated}
use Rattle.qa_base.specs.machine.Packets.{history_of}
use Rattle.qa_base.specs.machine.Rules.{first_broken}
use Rattle.qa_reference.proofs.whole.WholeLedger.admit.Goals as goal

ok_is_no_err : {T E P : Type 0} (t : T) (e : E) → Ok t ≡ Err e → P
ok_is_no_err t e same = cc

-- Written out, so that a wrong body is refused at these lines.
pub returns-then-self-clause-ok : goal.returns-then-self-clause-ok
returns-then-self-clause-ok c = tt

pub returns-then-self-clause-failed : goal.returns-then-self-clause-failed
returns-then-self-clause-failed c = λ _. (refl, refl)

pub returns-in-Ok-clause-broken : goal.returns-in-Ok-clause-broken
returns-in-Ok-clause-broken c = λ r e. ok_is_no_err _ _ e

-- no rule is broken at all
pub push-requires-clause-allowed : goal.push-requires-clause-allowed
push-requires-clause-allowed c =
    let held = c.args.self.now in
    let unbroken : first_broken held.header (history_of held.events) c.args.event.now ≡ None = search rules in
    unbroken_is_tolerated held.header (history_of held.events) c.args.event.now unbroken
