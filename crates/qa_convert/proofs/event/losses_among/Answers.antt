use Rattle.std.proofs.Common.{◌∷◌, [], List, inl, inr, refl, sym, subst, append_assoc, append-nil}
use Rattle.json.specs.Json.{Items}
use Rattle.qa_qlog.specs.Frames.{listed}
use Rattle.qa_convert.proofs.Faulty.{if_err, or_memory}
use Rattle.qa_convert.specs.Faults.{IsLostAmong, OrMemory}
use Rattle.qa_convert.specs.Reading.{AreLosses}
use Rattle.qa_convert.specs.declared.event.Said.{Said}
use Rattle.qa_convert.proofs.event.losses_among.Goals as goal

pub loop-header-init : goal.loop-header-init
loop-header-init c js inside = (js, inside, λ more are. rw c.new-losses.ensures.items are, λ e is. is)

pub loop-header-preserved : goal.loop-header-preserved
loop-header-preserved c js inside =
    let now = c.loop-header.invariant js inside in
    let f = c.in-Some.ensures.value now.0 now.1 in
    let s = c.in_ok-said.said in
    let says = c.in_ok-said.ensures.says f.0 f.3 in (
      f.1,
      f.4,
      λ more are.
          let all : AreLosses (listed now.0) (s ∷ more) =
          subst (λ (l : Items). AreLosses (listed l) (s ∷ more)) (sym f.2) (says, are) in
          rw c.in_ok-push.ensures (subst (λ (ss : List Said). AreLosses (listed js) ss) (sym (append_assoc c.loop-header.losses.items (s ∷ []) more)) (now.2 (s ∷ more) all)),
      λ e is. now.3 e (subst (λ (l : Items). IsLostAmong (listed l) e) (sym f.2) (inr is)),
    )

pub returns-in_err-said-clause-fault : goal.returns-in_err-said-clause-fault
returns-in_err-said-clause-fault c js inside =
    let now = c.loop-header.invariant js inside in
    let f = c.in-Some.ensures.value now.0 now.1 in
    let e = c.in_err-said.field-0.0 in
    if_err (OrMemory (IsLostAmong (listed js))) c.from_residual.result _ c.from_residual.ensures.1
    (or_memory (IsLostAmong (listed js)) e (now.3 e (subst (λ (l : Items). IsLostAmong (listed l) e) (sym f.2) (inl (c.in_err-said.ensures.fault f.0 f.3)))))

pub returns-clause-says : goal.returns-clause-says
returns-clause-says c js inside =
    let now = c.loop-header.invariant js inside in
    let done = c.in_default.ensures.value now.0 now.1 in
    let none : AreLosses (listed now.0) [] = subst (λ (l : Items). AreLosses (listed l) []) (sym done) refl in
    subst (λ (ss : List Said). AreLosses (listed js) ss) (append-nil c.loop-header.losses.items) (now.2 [] none)
