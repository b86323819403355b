use Rattle.std.proofs.Common.{ap, Option, ℕ}
use Rattle.qa_sender.specs.declared.connection.spaces.SpaceState.{SpaceState}
use Rattle.qa_sender.proofs.connection.spaces.SpaceState.raise.Goals as goal

pub returns : goal.returns
returns c =
    let old = c.args.self.now in
    let with : Option ℕ → SpaceState = λ most. record { discarded = old.discarded; largest = most; last_eliciting = old.last_eliciting } in
    ap with c.raised-self.ensures
