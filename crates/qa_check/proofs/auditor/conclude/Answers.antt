use Rattle.std.proofs.lemmas.Result.{IfOk-weaker}
use Rattle.qa_check.proofs.auditor.conclude.Goals as goal
use Rattle.qa_check.proofs.auditor.conclude.Goals.{in-Ok, in-Err}

pub returns-clause-ok : goal.returns-clause-ok
returns-clause-ok g c = elim c.match-take_last.branch [
  | in-Ok w ↦
      rw w.result-is
      (IfOk-weaker w.verdict_of.result _ _ (λ v k bytes f. k bytes (w.in-Ok.ensures.ends c.take_last.new.visitor bytes (f.0, (f.1, tt), f.2, f.3, f.4)).0.0) w.verdict_of.ensures.ok)
  | in-Err w ↦ rw w.result-is tt
]
