use Rattle.std.proofs.Common.{◌≡◌, ℕ, ◌||◌, drop}
use Rattle.qa_base.specs.values.Events.{is_named}
use Rattle.qa_packet_numbers.proofs.ranges.Ranges.of_spans.Given as goal

abbrev pub invariant-loop-span : goal.invariant-loop-span
invariant-loop-span l = (n : ℕ) → (is_named l.set n || is_named (drop l.span-index l.span-items) n) ≡ is_named l.spans n
