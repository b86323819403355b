use Rattle.qa_commands.proofs.Writes.{wrote_whole}
use Rattle.qa_commands.proofs.naming.write_bytes.Goals as goal

pub returns : goal.returns
returns g c = wrote_whole _ _ _ _ _ _ c.write_whole.ensures.ok c.write_whole.ensures.err c.write_whole.ensures.failures c.write_whole.ensures.write
