use Rattle.std.proofs.Common.{refl}
use Rattle.qa_ledger.proofs.untolerated.first_of_answers.Goals as goal

pub returns : goal.returns
returns g c s h tells =
    let due = c.deadline_at-due.ensures s h tells in
    rw (c.first_so.ensures, c.is_ack_unsent.ensures s h tells, c.is_timer_not_set.ensures s h due, c.is_timer_other.ensures s h due, c.is_timer_untolerated.ensures s h tells due, c.is_not_confirmed.ensures s h tells) refl
