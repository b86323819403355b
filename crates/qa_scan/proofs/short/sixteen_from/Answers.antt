use Rattle.std.proofs.Common.{◌-◌, length, arith}
use Rattle.qa_scan.proofs.Lanes.{shifts_ok, shifted_long, sixteen_is}
use Rattle.qa_scan.proofs.short.sixteen_from.Goals as goal

pub swizzle : goal.swizzle
swizzle c = shifts_ok (c.args.place - (length c.args.bytes.now - 16)) (omega (arith, c.requires.near.0, c.requires.near.1, c.requires.long))

pub returns-clause-long : goal.returns-clause-long
returns-clause-long c = shifted_long _ (c.args.place - (length c.args.bytes.now - 16)) (omega (arith, c.requires.near.0, c.requires.near.1, c.requires.long))

pub returns-clause-places : goal.returns-clause-places
returns-clause-places c j within = sixteen_is c.args.bytes.now c.args.place j c.requires.long c.requires.near.0 c.requires.near.1 within
