use Rattle.std.proofs.Common.{inl}
use Rattle.qa_convert.proofs.Read.{says_sized}
use Rattle.qa_convert.proofs.converting.Converting.said.Goals as goal
use Rattle.qa_convert.proofs.converting.Converting.said.Goals.{in-Sent+in_ok-give_size, in_default}

pub returns-clause-says : goal.returns-clause-says
returns-clause-says c d finds header =
    let says = c.in_ok-said.ensures.says d finds header in
    elim c.match-said.branch [
      | in-Sent+in_ok-give_size w ↦ says_sized _ _ d _ _ _ _ w.in-Sent.is w.in_ok-give_size.ensures.gives w.said-is says
      | in_default w ↦ rw w.said-is (inl says)
    ]
