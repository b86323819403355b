use Rattle.std.proofs.Common.{◌≡◌, ◌&&◌, ◌||◌, not, ℕ, [], drop, fold}
use Rattle.qa_base.specs.machine.Numbers.{is_in}
use Rattle.qa_base.specs.values.Events.{is_named}
use Rattle.qa_packet_numbers.specs.Missing.{others, with_range, without_number}
use Rattle.qa_packet_numbers.proofs.ranges.Ranges.of_others.Given as goal

abbrev pub invariant-loop-span : goal.invariant-loop-span
invariant-loop-span l = record {
  left : fold with_range l.set (drop l.span-index l.spans) ≡ fold with_range [] l.spans;
  named : (n : ℕ) → (is_named l.set n || is_named (drop l.span-index l.spans) n) ≡ is_named l.spans n;
}

abbrev pub invariant-loop-number : goal.invariant-loop-number
invariant-loop-number l = record {
  left : fold without_number l.set (drop l.number-index l.numbers) ≡ others l.spans l.numbers;
  named : (n : ℕ) → (is_named l.set n && not (is_in (drop l.number-index l.numbers) n)) ≡ (is_named l.spans n && not (is_in l.numbers n));
}
