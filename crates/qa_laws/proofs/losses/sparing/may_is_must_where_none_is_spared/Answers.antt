use Rattle.qa_laws.proofs.losses_lemmas.Runs as lemmas
use Rattle.qa_laws.proofs.losses_lemmas.Settling.{formed_of_run, owed_may_be_named}
use Rattle.qa_laws.proofs.losses.sparing.may_is_must_where_none_is_spared.Goals as goal

pub returns : goal.returns
returns c = record {
  spares = lemmas.spares_none;
  owed = λ c h run. owed_may_be_named c h (formed_of_run c h run);
  totals = lemmas.same_held;
  at_once = lemmas.may_at_once;
  no_limit = lemmas.may_unlimited;
  back = lemmas.must_unlimited;
  back_totals = lemmas.same_held_back;
}
