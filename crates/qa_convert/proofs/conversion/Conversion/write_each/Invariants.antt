use Rattle.std.proofs.Common.{◌≡◌, take}
use Rattle.qa_convert.specs.AckDelays.{AddsAcks}
use Rattle.qa_convert.specs.Losing.{Leaves, packets_of}
use Rattle.qa_convert.specs.Rules.{rules_of}
use Rattle.qa_convert.specs.Telling.{told_in}
use Rattle.qa_convert.proofs.conversion.Conversion.write_each.Given as goal

abbrev pub invariant-loop-ack : goal.invariant-loop-ack
invariant-loop-ack l = record {
  acks : AddsAcks l.before.decoding l.packet.packet.space (take l.ack-index l.packet.packet.acks.items) (told_in l.initial.self.writing) (told_in l.self.writing);
  sent : (told_in l.self.writing).sent ≡ (told_in l.initial.self.writing).sent;
  timers : (told_in l.self.writing).timers ≡ (told_in l.initial.self.writing).timers;
  keys : (told_in l.self.writing).keys ≡ (told_in l.initial.self.writing).keys;
  rules : rules_of l.self ≡ rules_of l.initial.self;
  lost : Leaves (packets_of l.fn.lost) (packets_of l.lost) (told_in l.initial.self.writing) (told_in l.self.writing);
}
