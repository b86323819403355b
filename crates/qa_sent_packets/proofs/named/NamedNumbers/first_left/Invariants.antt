use Rattle.std.proofs.Common.{◌≡◌, ◌≤◌, ◌-◌, ℕ, drop, length, take}
use Rattle.std.specs.List.{AllByRecursion}
use Rattle.qa_base.specs.values.Events.{is_named}
use Rattle.qa_sent_packets.specs.Naming.{AreRisingFrom, EndsBelow, turned}
use Rattle.qa_sent_packets.proofs.named.NamedNumbers.first_left.Given as goal

abbrev pub invariant-loop-at : goal.invariant-loop-at
invariant-loop-at l = record {
  within : l.at ≤ length l.spans;
  left : (n : ℕ) → l.from ≤ n → is_named (drop l.passed (turned l.falling l.spans)) n ≡ is_named (drop l.at (turned l.falling l.spans)) n;
  order : AreRisingFrom 0 (drop l.passed (turned l.falling l.spans)) → AreRisingFrom 0 (drop l.at (turned l.falling l.spans));
  below : AllByRecursion (EndsBelow l.from) (take l.passed (turned l.falling l.spans)) → AllByRecursion (EndsBelow l.from) (take l.at (turned l.falling l.spans));
}

abbrev pub decreases-loop-at : goal.decreases-loop-at
decreases-loop-at l = length l.spans - l.at
