use Rattle.std.proofs.Common.{◌≡◌, List, true}
use Rattle.qa_convert.specs.Rules.{rules_of}
use Rattle.qa_convert.specs.Sending.{AreOf}
use Rattle.qa_convert.specs.Telling.{told_in}
use Rattle.qa_convert.specs.declared.packet.LoggedPacket.{LoggedPacket}
use Rattle.qa_convert.proofs.conversion.Conversion.settle_datagram.Given as goal

abbrev pub invariant-loop-packet : goal.invariant-loop-packet
invariant-loop-packet l = record {
  are : (ps : List LoggedPacket) → AreOf true true ps l.fn.packets.items → AreOf true true ps l.packet-items;
  told : told_in l.self.writing ≡ told_in l.initial.self.writing;
  rules : rules_of l.self ≡ rules_of l.initial.self;
}
