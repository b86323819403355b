use Rattle.std.proofs.lemmas.Result.{on_ok_weaker}
use Rattle.qa_format.specs.verdicts.Explain.{state_text}
use Rattle.qa_check.proofs.Appends.{six_appends}
use Rattle.qa_check.proofs.text.push_state.Goals as goal

pub returns : goal.returns
unfolding state_text
returns c =
    on_ok_weaker c.push_number_text-6.result
    (six_appends _ _ _ _ _ _ _ c.in_ok-push_number_text.ensures c.in_ok-push_number_text-2.ensures c.in_ok-push_number_text-3.ensures c.in_ok-push_number_text-4.ensures c.in_ok-push_number_text-5.ensures)
    c.push_number_text-6.ensures
