use Rattle.qa_fast_reader.proofs.Finding.{put_time}
use Rattle.qa_fast_reader.proofs.found.Found.put.Goals as goal

pub returns-in-Time : goal.returns-in-Time
returns-in-Time c = rw c.in-Time.is (put_time c.args.self.now c.args.value)
