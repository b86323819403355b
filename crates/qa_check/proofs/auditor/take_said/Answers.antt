use Rattle.std.proofs.Common.{◌∙◌, Err, ap}
use Rattle.qa_check.proofs.SaidLines.{pushed_good, pushed_settled, settled_fails, settled_is_over}
use Rattle.qa_check.proofs.auditor.take_said.Goals as goal

pub returns-in-Ok : goal.returns-in-Ok
returns-in-Ok g c =
    let good = c.in-Ok.ensures.good in
    record {
      «open» = λ _. c.requires.open;
      over = λ is. cc;
      whole = λ _. good.0;
      fed = λ stream bytes l empty line f. rw c.requires.open (pushed_good g.L.Judge.judges c.args.checker.now c.push_said.new.self stream bytes l empty line.0 (good.1 l line) f);
      memory = rw c.requires.open tt;
    }

pub returns-in-Err : goal.returns-in-Err
returns-in-Err g c =
    let stop = c.in-Err.stop in
    let settled = c.settle.ensures in
    record {
      «open» = λ is. cc;
      over = λ _. settled_is_over g.L.Judge.judges c.push_said.new.self stop c.settle.new.progress settled;
      whole = λ is. absurd (settled_is_over g.L.Judge.judges c.push_said.new.self stop c.settle.new.progress settled is);
      fed = λ stream bytes l empty line f.
          pushed_settled g.L.Judge.judges c.args.checker.now c.push_said.new.self stream bytes l stop c.settle.new.progress settled
          (λ is. let bad = c.push_said.ensures.decided (c.in-Err.is ∙ ap Err is) in (bad.0, bad.1 l line)) line.0 f;
      memory = settled_fails g.L.Judge.judges c.push_said.new.self stop c.settle.new.progress settled;
    }
