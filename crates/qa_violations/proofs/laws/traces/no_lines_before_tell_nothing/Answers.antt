use Rattle.qa_violations.proofs.around_lemmas.Laws.{around_none, around_of_others}
use Rattle.qa_violations.proofs.laws.traces.no_lines_before_tell_nothing.Goals as goal

pub returns : goal.returns
returns c = record { accepted = around_none; others = around_of_others }
