use Rattle.std.proofs.Common.{◌≡◌, ◌++◌, false}
use Rattle.std.specs.List.{list_any}
use Rattle.std.specs.Vec.Iter.{into_iter_items}
use Rattle.qa_convert.specs.declared.groups.PacketAt.{PacketAt}
use Rattle.qa_convert.proofs.groups.packets_before.Given as goal

abbrev pub invariant-loop-packet : goal.invariant-loop-packet
invariant-loop-packet l = record {
  next : (goal.iterator-loop-packet).can_next l.packet-iterator;
  finite : (goal.iterator-loop-packet).is_finite l.packet-iterator;
  all : l.kept.items ++ into_iter_items l.packet-iterator ≡ l.fn.packets.items;
  unclosed : list_any (λ (p : PacketAt). p.packet.content.closes) l.kept.items ≡ false;
}
