use Rattle.qa_violations.proofs.laws_lemmas.Strict as lemmas
use Rattle.qa_violations.proofs.laws.allowances.nothing_allowed_is_strict.Goals as goal

pub returns : goal.returns
returns c = record { run = lemmas.run_is_strict; owed = lemmas.owed_is_strict; totals = lemmas.totals_are_strict }
