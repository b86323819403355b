use Rattle.std.proofs.Common.{◌≤◌, rules}
use Rattle.qa_base.specs.values.Events.{time_of}
use Rattle.qa_sender.proofs.Followed.{after_followed, next_is, sound_after}
use Rattle.qa_sender.proofs.Nameable.{owed_in_free}
use Rattle.qa_sender.proofs.running.Running.follow.Goals as goal

pub on_event-requires-clause-next : goal.on_event-requires-clause-next
on_event-requires-clause-next c =
    let timely : time_of c.args.event.now ≤ 1000000000000000 = search rules in
    next_is c.self.inside.machine c.self.inside.failed c.args.self.now c.self.view_is c.self.invariant c.args.event.now c.requires.allowed timely c.requires.fitting c.requires.few

pub on_event-requires-clause-owed : goal.on_event-requires-clause-owed
on_event-requires-clause-owed c =
    let machine = c.self.inside.machine in
    let sound = c.self.invariant in
    owed_in_free machine.connection sound.header sound.history sound.after.run.run sound.after.connection machine.packets sound.after.packets

pub invariant_of-self-2 : goal.invariant_of-self-2
invariant_of-self-2 c =
    let timely : time_of c.args.event.now ≤ 1000000000000000 = search rules in
    sound_after c.self.inside.machine c.on_event.new.self c.self.inside.failed c.args.self.now c.self.view_is c.self.invariant c.requires.works c.args.event.now c.requires.allowed timely c.requires.fitting c.requires.few c.in_ok-on_event.ensures.ok

pub returns-clause-ok : goal.returns-clause-ok
returns-clause-ok c =
    let timely : time_of c.args.event.now ≤ 1000000000000000 = search rules in
    after_followed c.self.inside.machine c.on_event.new.self c.self.inside.failed c.args.self.now c.self.view_is c.self.invariant c.requires.works c.args.event.now c.requires.allowed timely c.requires.fitting c.requires.few c.in_ok-on_event.ensures.ok
