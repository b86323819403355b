use Rattle.qa_explain.specs.text.Runs.{counted_amounts}
use Rattle.qa_explain.proofs.text.runs.push_counted_amounts.Goals as goal

pub returns : goal.returns
unfolding counted_amounts
returns c = c.write.ensures.bytes
