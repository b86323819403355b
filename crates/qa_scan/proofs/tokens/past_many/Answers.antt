use Rattle.qa_scan.proofs.tokens.past_many.Goals as goal

pub returns : goal.returns
returns c = record { before = _; behind = _; spaced = c.skip_spaces.ensures; is = c.in_ok-behind.ensures; spaced_behind = c.skip_spaces-2.ensures }
