use Rattle.std.proofs.Common.{◌≤◌, ◌++◌, length, take}
use Rattle.std.specs.List.{AllByRecursion}
use Rattle.qa_sent_packets.specs.Covering.{NamesNone}
use Rattle.qa_sent_packets.specs.Naming.{EndsBelow, turned}
use Rattle.qa_sent_packets.proofs.Passing.{IsWalked}
use Rattle.qa_sent_packets.proofs.unacknowledged.passed_by.Given as goal

abbrev pub invariant-loop-number : goal.invariant-loop-number
invariant-loop-number l = record {
  within : l.passed ≤ length l.spans;
  ends : AllByRecursion (λ e. AllByRecursion (EndsBelow e.0) (take l.passed (turned l.falling l.spans))) l.number-iterator;
  none : AllByRecursion (NamesNone (l.gaps.entries ++ l.recent.items)) (take l.passed (turned l.falling l.spans));
  walk : IsWalked (l.gaps.entries ++ l.recent.items) l.number-iterator l.recent.items (turned l.falling l.spans) l.passed;
  steps : l.steps ≤ length l.spans;
}
