use Rattle.std.proofs.Common.{take}
use Rattle.qa_base.specs.values.Events.{is_named}
use Rattle.qa_sent_packets.specs.Naming.{IsStretch}
use Rattle.qa_sent_packets.proofs.named.NamedNumbers.first_of_all.Given as goal

abbrev pub invariant-loop-span : goal.invariant-loop-span
invariant-loop-span l = IsStretch (is_named (take l.span-index l.spans)) l.from l.first
