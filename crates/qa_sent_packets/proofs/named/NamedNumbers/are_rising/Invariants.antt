use Rattle.std.proofs.Common.{◌≡◌, true, drop}
use Rattle.qa_base.specs.machine.Numbers.{AreRanges}
use Rattle.qa_sent_packets.specs.Naming.{AreRisingFrom, turned}
use Rattle.qa_sent_packets.proofs.named.NamedNumbers.are_rising.Given as goal

abbrev pub invariant-loop-at : goal.invariant-loop-at
invariant-loop-at l = record {
  ranges : AreRanges (drop l.at (turned l.falling l.spans)) → AreRanges (turned l.falling l.spans);
  order : l.rising ≡ true → AreRisingFrom l.last (drop l.at (turned l.falling l.spans)) → AreRisingFrom 0 (turned l.falling l.spans);
}
