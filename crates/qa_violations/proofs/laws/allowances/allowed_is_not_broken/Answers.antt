use Rattle.qa_violations.proofs.laws_lemmas.Amounts as amounts
use Rattle.qa_violations.proofs.laws.allowances.allowed_is_not_broken.Goals as goal

pub returns : goal.returns
returns c = record { uncounted = amounts.uncounted; window = amounts.window_is; early = amounts.early_is; metric = amounts.metric_is; late = amounts.late_is; collapse = amounts.collapse_is }
