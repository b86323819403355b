use Rattle.std.proofs.Common.{arith, refl}
use Rattle.qa_scan.proofs.Runs.{plain_lanes}
use Rattle.qa_scan.proofs.plain.end_of_lanes.Goals as goal

pub returns-clause-plain : goal.returns-clause-plain
returns-clause-plain c = (plain_lanes 16 65536 c.args.bytes.now c.args.place c.requires c.type_inv.bytes (omega arith) refl (λ x is. omega (arith, is)) (omega arith)).0

pub returns-clause-near : goal.returns-clause-near
returns-clause-near c = (plain_lanes 16 65536 c.args.bytes.now c.args.place c.requires c.type_inv.bytes (omega arith) refl (λ x is. omega (arith, is)) (omega arith)).1
