use Rattle.std.proofs.Common.{refl}
use Rattle.qa_scan.proofs.Numerals.{one_front}
use Rattle.qa_scan.proofs.digits.first_digits.Goals as goal

pub returns : goal.returns
returns c = one_front c.args.bytes.now c.from.result _ c.requires.some c.from.ensures c.requires.low c.requires.high refl
