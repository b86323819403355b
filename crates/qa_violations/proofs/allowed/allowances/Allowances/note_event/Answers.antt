use Rattle.std.proofs.Common.{◌∙◌, Some, ap, sym}
use Rattle.qa_violations.proofs.allowed_lemmas.Begin.{tallied_by}
use Rattle.qa_violations.proofs.allowed.allowances.Allowances.note_event.Goals as goal

pub returns : goal.returns
returns g c = λ header h fs lates at stands tallies. (
  (at.0, c.follow.ensures header h at.1 stands, ap Some (c.get.ensures.value ∙ c.time.ensures.value)),
  tallied_by c.note_if.new.self fs lates c.args.counts c.args.n c.in-Some.header header c.args.self.now.before h c.args.event.now (sym c.in-Some.is ∙ at.0) at.1 (c.note_if.ensures fs lates tallies),
)
