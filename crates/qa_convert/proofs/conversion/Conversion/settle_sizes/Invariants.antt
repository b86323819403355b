use Rattle.std.proofs.Common.{◌≡◌, List, true}
use Rattle.qa_convert.specs.Rules.{rules_of}
use Rattle.qa_convert.specs.Sending.{AreOf}
use Rattle.qa_convert.specs.Telling.{told_in}
use Rattle.qa_convert.specs.declared.packet.LoggedPacket.{LoggedPacket}
use Rattle.qa_convert.proofs.conversion.Conversion.settle_sizes.Given as goal

abbrev pub invariant-loop-place : goal.invariant-loop-place
invariant-loop-place l = record {
  next : (goal.iterator-loop-place).can_next l.place-iterator;
  finite : (goal.iterator-loop-place).is_finite l.place-iterator;
  are : (ps : List LoggedPacket) → AreOf true l.by_growth ps l.fn.packets.items → AreOf true l.by_growth ps l.packets.items;
  told : told_in l.self.writing ≡ told_in l.initial.self.writing;
  rules : rules_of l.self ≡ rules_of l.initial.self;
}
