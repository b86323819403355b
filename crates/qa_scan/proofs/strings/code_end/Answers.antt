use Rattle.std.proofs.Common.{arith, inl, inr}
use Rattle.qa_scan.proofs.Passing.{part_single, part_pair}
use Rattle.qa_scan.proofs.strings.code_end.Goals as goal

pub returns-then-unit-lt-FIRST_SURROGATE : goal.returns-then-unit-lt-FIRST_SURROGATE
returns-then-unit-lt-FIRST_SURROGATE c = elim c.then-unit-lt-FIRST_SURROGATE.either [
  | inl below ↦ (part_single c.args.bytes.now c.args.place c.in_ok-unit.unit c.in_ok-unit.ensures (inl below), omega arith)
  | inr above ↦ (part_single c.args.bytes.now c.args.place c.in_ok-unit.unit c.in_ok-unit.ensures (inr above.1), omega arith)
]

pub returns : goal.returns
returns c = (
  part_pair c.args.bytes.now c.args.place c.in_ok-unit.unit c.in_ok-second.second c.in_ok-unit.ensures c.if-unit-lt-FIRST_SURROGATE.false c.if-unit-ge-SECOND_SURROGATE.false
      c.in_ok-second.ensures c.if-second-lt-SECOND_SURROGATE.false c.if-second-ge-BEHIND_SURROGATES.false,
  omega arith,
)
