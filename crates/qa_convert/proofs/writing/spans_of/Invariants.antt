use Rattle.std.proofs.Common.{◌≡◌, ℕ, take}
use Rattle.qa_convert.specs.Losing.{ArePacketNumbers, IsSpan, is_in, has_number}
use Rattle.qa_convert.proofs.writing.spans_of.Given as goal

abbrev pub invariant-loop-number : goal.invariant-loop-number
invariant-loop-number l = record {
  span : ArePacketNumbers l.numbers → IsSpan l.«open»;
  numbers : ArePacketNumbers l.numbers → (n : ℕ) → has_number l.spans l.«open» n ≡ is_in n (take l.number-index l.numbers);
}
