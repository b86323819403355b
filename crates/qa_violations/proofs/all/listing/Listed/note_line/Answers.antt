use Rattle.std.proofs.Common.{◌≡◌, ◌++◌, subst, sym}
use Rattle.qa_violations.proofs.around_lemmas.Noted.{on_ok_both}
use Rattle.qa_violations.specs.all.Keeping.{violated_by}
use Rattle.qa_violations.specs.around.Keeping as kept
use Rattle.qa_violations.specs.declared.around.objects.LatestObjects.{LatestObjects}
use Rattle.qa_violations.proofs.all.listing.Listed.note_line.Goals as goal

pub returns : goal.returns
returns g c = on_ok_both c.keep.result _ _ _ c.keep.ensures.kept c.keep.ensures.rest (λ keeping listing count os before bytes ds header h lists keeps stands.
    let all = ds ++ violated_by c.args.n before bytes c.args.said.now header h in
    let listed = c.in_ok-note_violations.ensures.listed before bytes ds header h lists stands in
    let still = subst (λ (latest : LatestObjects). (latest.count ≡ count) × kept.KeepsObjects latest os) (sym c.note_violations.ensures.rest) keeps in
    (keeping count os all header h listed still stands, listing all listed))
