use Rattle.std.proofs.Common.{◌≤◌, List, length, subst, arith}
use Rattle.std.proofs.Math.Seq.{take-length}
use Rattle.qa_base.specs.declared.event.Event.{Event}
use Rattle.qa_base.specs.machine.Packets.{history_of}
use Rattle.qa_base.specs.machine.Timer.{pto_count}
use Rattle.qa_reference.proofs.Late.{late_is}
use Rattle.qa_reference.proofs.lateness.is_past_due.Goals as goal

pub packet_deadline-requires : goal.packet_deadline-requires
packet_deadline-requires c = record {
  counted = subst (λ (events : List Event). pto_count c.args.header.now (history_of events) ≤ 40) (take-length c.args.events.now) (c.requires.counted (length c.args.events.now));
}

pub returns-then-due-last : goal.returns-then-due-last
returns-then-due-last c = grind (arith, late_is)
