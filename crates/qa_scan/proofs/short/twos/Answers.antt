use Rattle.qa_scan.proofs.Lanes.{twos_are}
use Rattle.qa_scan.proofs.short.twos.Goals as goal

pub returns : goal.returns
returns c = twos_are 8 c.args.digits c.requires.long c.requires.digits
