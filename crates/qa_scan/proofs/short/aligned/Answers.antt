use Rattle.qa_scan.proofs.Lanes.{moved_value, moved_digits, places_ok}
use Rattle.qa_scan.proofs.short.aligned.Goals as goal

pub swizzle : goal.swizzle
swizzle c = places_ok c.args.digits c.requires.few

pub returns-clause-digits : goal.returns-clause-digits
returns-clause-digits c = moved_digits c.args.lanes c.args.digits c.fits-lanes.0 c.requires.few c.requires.digits

pub returns-clause-value : goal.returns-clause-value
returns-clause-value c = moved_value c.args.lanes c.args.digits c.fits-lanes.0 c.requires.few
