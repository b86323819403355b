use Rattle.std.proofs.lemmas.Result.{on_ok_weaker}
use Rattle.qa_check.proofs.Pushing.{read_pushes}
use Rattle.qa_check.proofs.checker.Checker.push_read.Goals as goal

pub returns : goal.returns
returns g c =
    let taken = c.take_read.ensures in
    λ l short gives.
    read_pushes g.L.Judge.judges c.args.self.now c.take_read.new.self l c.take_read.result c.args.read.now taken.said taken.memory c.requires.few short gives c.requires.fitting
    (on_ok_weaker c.take_read.result (λ adds. adds l short gives) taken.good) (λ is. (taken.decided is l short gives, taken.kept is)) taken.fails
