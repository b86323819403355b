use Rattle.qa_qlog.proofs.Runs.{mask_is}
use Rattle.qa_qlog.proofs.structural.structural.Goals as goal

pub returns : goal.returns
returns c = mask_is c.args.bytes c.fits-bytes.0 c.fits-bytes.1
