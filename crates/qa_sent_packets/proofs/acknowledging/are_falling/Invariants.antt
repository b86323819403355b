use Rattle.std.proofs.Common.{◌≡◌, true, drop}
use Rattle.qa_base.specs.machine.Numbers.{AreRanges}
use Rattle.qa_sent_packets.specs.Covering.{AreApartFrom}
use Rattle.qa_sent_packets.specs.Naming.{turned}
use Rattle.qa_sent_packets.proofs.acknowledging.are_falling.Given as goal

abbrev pub invariant-loop-at : goal.invariant-loop-at
invariant-loop-at l = record {
  apart : l.falling ≡ true → AreApartFrom l.next (drop l.at (turned true l.spans)) → AreApartFrom 0 (turned true l.spans);
  ranges : AreRanges (drop l.at (turned true l.spans)) → AreRanges (turned true l.spans);
  each : AreApartFrom 0 (turned true l.spans) → (l.falling ≡ true) × AreApartFrom l.next (drop l.at (turned true l.spans));
}
