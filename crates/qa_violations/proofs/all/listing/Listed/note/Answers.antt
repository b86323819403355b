use Rattle.std.proofs.Common.{◌∙◌, [], ◌∷◌, ◌++◌, ap, subst, sym}
use Rattle.qa_violations.specs.all.Violated.{violated, findings}
use Rattle.qa_violations.specs.all.Objects.{named, named_behind}
use Rattle.qa_violations.proofs.all_lemmas.Told.{findings-snoc, named-snoc}
use Rattle.qa_violations.specs.table.Table.{Holds}
use Rattle.qa_violations.specs.declared.table.table.Table.{Table}
use Rattle.qa_violations.proofs.all.listing.Listed.note.Goals as goal

pub returns-clause-listed : goal.returns-clause-listed
returns-clause-listed c = λ before bytes ds lists.
    let d = violated c.args.unit c.args.n before bytes c.args.event.now c.args.violation.now in
    let fs = findings ds in
    let is_finding = c.finding-finding.ensures c.args.unit before bytes in
    let told = c.in_ok-tell.ensures in
    let holds : Holds c.tell.new.self.table fs = subst (λ (t : Table). Holds t fs) (sym told.rest.0) lists.1 in
    let kept = c.in_ok-name.ensures in
    let noted = c.note.ensures.holds fs (subst (λ (t : Table). Holds t fs) (sym kept.rest.0) holds) in (
      ap (λ (v : _). v.items) kept.rest.1 ∙ told.first before bytes ds lists,
      rw (findings-snoc ds d, ← is_finding) noted,
      kept.named fs holds ∙ (ap (λ (v : _). v.items ++ named_behind fs c.finding-finding.result) told.rest.1 ∙ (ap (λ names. names ++ named_behind fs c.finding-finding.result) lists.2 ∙ (sym (named-snoc fs c.finding-finding.result) ∙ ap named (ap (λ f. fs ++ f ∷ []) is_finding ∙ sym (findings-snoc ds d))))),
    )
