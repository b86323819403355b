use Rattle.std.proofs.Common.{Fits, w8, arith}
use Rattle.std.proofs.lemmas.Simd.{Each1-get_or}
use Rattle.qa_scan.proofs.Lanes.{less, less_long}
use Rattle.qa_scan.proofs.short.less_zero.Goals as goal

pub returns-clause-long : goal.returns-clause-long
returns-clause-long c = less_long c.args.bytes c.fits-bytes.0

pub returns-clause-digits : goal.returns-clause-digits
returns-clause-digits c j within small =
    less c.args.bytes j c.fits-bytes.0 within (Each1-get_or (Fits w8) c.args.bytes j 0 (omega (arith, within, c.fits-bytes.0)) c.fits-bytes.1).fits small
