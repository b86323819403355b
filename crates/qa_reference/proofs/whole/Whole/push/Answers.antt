use Rattle.std.proofs.Common.{rules}
use Rattle.qa_base.specs.machine.Widths.{IsTimely}
use Rattle.qa_reference.proofs.Sound.{sound_kept}
use Rattle.qa_reference.proofs.whole.Whole.push.Goals as goal

pub invariant_of-self : goal.invariant_of-self
invariant_of-self c =
    let before = c.self.inside in
    let timely : IsTimely c.args.event.now = search rules in
    sound_kept c.keep-kept.result before.header before.events.items _ c.args.event.now before.sent _ c.self.invariant
    (rw (← c.self.view_is) at c.requires.allowed) timely c.requires.fit (rw (← c.self.view_is) at c.requires.few)
    c.keep-kept.ensures.ok c.keep-kept.ensures.sent c.keep-kept.ensures.err c.keep-kept.ensures.unsent
