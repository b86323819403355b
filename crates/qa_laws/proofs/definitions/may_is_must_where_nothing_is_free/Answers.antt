use Rattle.qa_laws.proofs.machine.NothingFree as lemmas
use Rattle.qa_laws.proofs.definitions.may_is_must_where_nothing_is_free.Goals as goal

pub returns : goal.returns
returns c = record { runs = lemmas.same_runs_strictly; totals = lemmas.same_totals_strictly; owed = lemmas.same_owed_strictly }
