use Rattle.std.proofs.Common.{◌≡◌, ◌≤◌, ◌++◌, ℕ, filter, take}
use Rattle.std.specs.List.{AllByRecursion}
use Rattle.qa_base.specs.values.Events.{is_named}
use Rattle.qa_sent_packets.specs.Naming.{turned}
use Rattle.qa_sent_packets.proofs.strays.Strays.copy_all.Given as goal

abbrev pub invariant-loop-at : goal.invariant-loop-at
invariant-loop-at l = record {
  found : l.found.items ≡ l.fn.found.items ++ filter (λ p. is_named (take l.at (turned l.falling l.spans)) p.number) l.self;
  forward : AllByRecursion (λ (r : ℕ × ℕ). r.0 ≤ r.1) (take l.at (turned l.falling l.spans));
}
