use Rattle.std.proofs.Common.{◌≡◌, true, rules}
use Rattle.qa_base.specs.declared.event.Event.TheVariants.{Discard}
use Rattle.qa_base.specs.values.Events.{fits}
use Rattle.qa_fast_reader.proofs.Saying.{says_discard}
use Rattle.qa_fast_reader.proofs.found.Found.discard.Goals as goal

-- The search is written out, so that a wrong body is refused at it.
pub returns-then-fits : goal.returns-then-fits
returns-then-fits c =
    let fitting : fits (Discard c.in_ok-time.time c.in_ok-space.space) ≡ true = search rules in
    says_discard c.args.self.now c.in_ok-time.time c.in_ok-space.space
    c.requires c.in_ok-time.ensures c.in_ok-space.was fitting
