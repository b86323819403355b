use Rattle.std.proofs.Common.{◌≡◌, ◌∙◌, ◌++◌, ℕ, List, ap, ap₂, sym}
use Rattle.qa_convert.specs.Marks.{marks_in}
use Rattle.qa_convert.specs.OwnKeys.{noted, with_own}
use Rattle.qa_convert.specs.Telling.{told, with_event}
use Rattle.qa_convert.proofs.Spliced.{noted_with}
use Rattle.qa_convert.proofs.Traces.{one_more, one_more_told}
use Rattle.qa_convert.proofs.lines.EventLines.push_text.Goals as goal
use Rattle.qa_format.specs.declared.line.Line.TheVariants as lines
use Rattle.qa_format.specs.format.Written.{written}

pub invariant_of-self-2 : goal.invariant_of-self-2
invariant_of-self-2 c =
    let x = lines.Event c.args.event in
    let own = c.requires.own in
    let text : c.as_slice.result.now ≡ written x = c.as_slice.ensures.value ∙ c.in_ok-push_event.ensures.text ∙ ap (λ bs. bs ++ written x) c.clear.ensures.items in
    let same : with_own c.as_slice.result.now c.args.own.now ≡ noted x own.0 = ap₂ with_own text own.2 ∙ sym (noted_with x own.0) in
    let after = rw same at c.in_ok-push_with_own.ensures in
    rw after.ok
    (one_more c.self.inside.text.items (x, own.0) c.self.invariant (tt, (c.in_ok-push_event.ensures.proper, own.1, after.short)))

pub returns-clause-told : goal.returns-clause-told
returns-clause-told c =
    let x = lines.Event c.args.event in
    let own = c.requires.own in
    let text : c.as_slice.result.now ≡ written x = c.as_slice.ensures.value ∙ c.in_ok-push_event.ensures.text ∙ ap (λ bs. bs ++ written x) c.clear.ensures.items in
    let same : with_own c.as_slice.result.now c.args.own.now ≡ noted x own.0 = ap₂ with_own text own.2 ∙ sym (noted_with x own.0) in
    let after = rw same at c.in_ok-push_with_own.ensures in
    rw after.ok
    (one_more_told c.self.inside.text.items (x, own.0) c.self.invariant (tt, (c.in_ok-push_event.ensures.proper, own.1, after.short))
    ∙ ap₂ (λ (bs keys : List ℕ). with_event (told bs) (marks_in keys) c.args.event) c.self.view_is (sym own.2))
