use Rattle.std.proofs.Common.{◌∙◌, ◌++◌, List, ℕ, ap, subst, sym}
use Rattle.qa_base.specs.declared.space.TimeUnit.{TimeUnit}
use Rattle.qa_violations.specs.all.All.{first_text}
use Rattle.qa_violations.specs.all.Violated.{violated, findings}
use Rattle.qa_violations.proofs.all_lemmas.Told.{findings-snoc, firsts-snoc}
use Rattle.qa_violations.specs.table.Table.{Holds}
use Rattle.qa_violations.specs.declared.table.table.Table.{Table}
use Rattle.qa_violations.proofs.all.keeping.Kept.note.Goals as goal

pub returns-clause-kept : goal.returns-clause-kept
returns-clause-kept c = λ count u ls ds is keeps rows.
    let d = violated u c.args.n ls c.args.line.now c.args.event.now c.args.violation.now in
    let begun = c.args.self.now.firsts.items in
    let told = c.in_ok-tell.ensures.first count ls ds keeps rows
    ∙ ap (λ (v : TimeUnit). begun ++ first_text count c.args.name.now (findings ds) (violated v c.args.n ls c.args.line.now c.args.event.now c.args.violation.now)) is in
    let holds = subst (λ (t : Table). Holds t (findings ds)) (sym c.in_ok-tell.ensures.rest.0) keeps.1 in
    let noted = c.note.ensures.holds (findings ds) holds in (
      told ∙ (ap (λ (text : List ℕ). text ++ first_text count c.args.name.now (findings ds) d) keeps.0 ∙ sym (firsts-snoc count c.args.name.now ds d)),
      rw (findings-snoc ds d, ← c.finding.ensures u ls c.args.line.now) noted,
    )
