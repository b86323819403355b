use Rattle.qa_violations.proofs.laws_lemmas.Amounts as amounts
use Rattle.qa_violations.proofs.laws.allowances.lateness_is_within_its_limit.Goals as goal

pub returns : goal.returns
returns c = record { most = amounts.late_within; none = amounts.none_late }
