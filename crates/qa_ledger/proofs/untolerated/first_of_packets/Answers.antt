use Rattle.std.proofs.Common.{refl}
use Rattle.qa_ledger.proofs.untolerated.first_of_packets.Goals as goal

pub returns : goal.returns
returns g c s h tells =
    rw (c.first_so.ensures, c.is_time_back.ensures s h tells, c.is_loss_owed.ensures s h tells, c.is_loss_not_owed.ensures s h tells, c.is_other_loss_set.ensures s h tells, c.is_space_gone.ensures s h tells, c.is_number_not_higher.ensures s h tells) refl
