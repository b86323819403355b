use Rattle.std.proofs.Common.{◌≡◌, ◌++◌, ℕ, take}
use Rattle.qa_convert.specs.Losing.{ArePacketNumbers, is_in, is_among, packets_of}
use Rattle.qa_convert.proofs.losing.numbers_of.Given as goal

abbrev pub invariant-loop-it : goal.invariant-loop-it
invariant-loop-it l = record {
  small : ArePacketNumbers l.sorted.keys;
  numbers : (n : ℕ) → is_in n l.sorted.keys ≡ is_among l.space n (packets_of (take l.it-index l.losses));
}

abbrev pub invariant-loop-number : goal.invariant-loop-number
invariant-loop-number l = l.numbers.items ++ l.number-iterator ≡ l.initial.number-iterator
