use Rattle.qa_scan.proofs.Lanes.{ahead}
use Rattle.qa_scan.proofs.short.digits_ahead.Goals as goal

pub returns-clause-few : goal.returns-clause-few
returns-clause-few c = (ahead c.args.lanes c.fits-lanes.0).0

pub returns-clause-digits : goal.returns-clause-digits
returns-clause-digits c = (ahead c.args.lanes c.fits-lanes.0).1
