use Rattle.std.proofs.Common.{◌≡◌, ◌∙◌, ◌∷◌, [], List, Some, None, false, ap, length, refl, sym, rules}
use Rattle.std.specs.Vec.Iter.{into_iter_items}
use Rattle.qa_convert.proofs.Faulty.{first_loss, if_err, lost_is_sized, of_event_fault, other_losses}
use Rattle.qa_convert.specs.Faults.{IsUnsized, OfEvent}
use Rattle.qa_convert.specs.Reading.{AreLosses, events_at}
use Rattle.qa_convert.specs.Sources.{sources_after}
use Rattle.qa_convert.specs.declared.event.Said.{Said}
use Rattle.qa_qlog.specs.Lengths.{destination}
use Rattle.qa_convert.proofs.surveying.Surveying.see_all.Goals as goal

pub loop-said-preserved : goal.loop-said-preserved
loop-said-preserved c =
    let now = c.loop-said.invariant in
    let rest = into_iter_items c.next.new.self in
    record {
      next = tt;
      finite = tt;
      sources = λ h d header object. ap (sources_after (destination h d) (events_at c.args.at rest)) (c.in_ok-see.ensures.sources h d header object)
          ∙ (rw c.in-Some.ensures.steps.0 at (now.sources h d header object));
      losses = λ hs are.
          let left = now.losses hs are in
          let first : AreLosses left.0 (c.in-Some.said ∷ rest) = rw c.in-Some.ensures.steps.0 at left.1 in
          other_losses left.0 c.in-Some.said rest first;
      head = now.head;
      cursor = now.cursor;
    }

pub loop-said-preserved-in_ok-see : goal.loop-said-preserved-in_ok-see
loop-said-preserved-in_ok-see c =
    let now = c.loop-said.invariant in
    let rest = into_iter_items c.next.new.self in
    record {
      next = tt;
      finite = tt;
      sources = λ h d header object. ap (sources_after (destination h d) (events_at c.args.at rest)) (c.in_ok-see.ensures.sources h d header object)
          ∙ (rw c.in-Some.ensures.steps.0 at (now.sources h d header object));
      losses = λ hs are.
          let left = now.losses hs are in
          let first : AreLosses left.0 (c.in-Some.said ∷ rest) = rw c.in-Some.ensures.steps.0 at left.1 in
          other_losses left.0 c.in-Some.said rest first;
      head = now.head;
      cursor = now.cursor;
    }

pub loop-said-preserved-in_ok-see-2 : goal.loop-said-preserved-in_ok-see-2
loop-said-preserved-in_ok-see-2 c =
    let now = c.loop-said.invariant in
    let rest = into_iter_items c.next.new.self in
    record {
      next = tt;
      finite = tt;
      sources = λ h d header object. ap (sources_after (destination h d) (events_at c.args.at rest)) (c.in_ok-see.ensures.sources h d header object)
          ∙ (rw c.in-Some.ensures.steps.0 at (now.sources h d header object));
      losses = λ hs are.
          let left = now.losses hs are in
          let first : AreLosses left.0 (c.in-Some.said ∷ rest) = rw c.in-Some.ensures.steps.0 at left.1 in
          other_losses left.0 c.in-Some.said rest first;
      head = now.head;
      cursor = now.cursor;
    }

pub returns-in_err-see-clause-fault : goal.returns-in_err-see-clause-fault
returns-in_err-see-clause-fault c hs are =
    let rest = into_iter_items c.next.new.self in
    let s = c.in-Some.said in
    let left = c.loop-said.invariant.losses hs are in
    let first : AreLosses left.0 (s ∷ rest) = rw c.in-Some.ensures.steps.0 at left.1 in
    let lost = first_loss left.0 s rest first in
    if_err (OfEvent (λ _. ⊥)) c.from_residual.result _ c.from_residual.ensures.1
    (of_event_fault (λ _. IsUnsized s) (λ _. ⊥) _ (λ e is. lost_is_sized (Some lost.0) None false s lost.1 is) c.in_err-see.ensures.fault)

nothing_left : (all : List Said) → length all ≡ 0 → all ≡ []
nothing_left [] e = refl
nothing_left (s ∷ all) e = absurd (search rules)

pub returns-clause-sources : goal.returns-clause-sources
returns-clause-sources c h d header object =
    let none : into_iter_items c.loop-said.said-iterator ≡ [] =
    nothing_left (into_iter_items c.loop-said.said-iterator) (sym c.loop-said.said-iterator.rest.ok.0 ∙ c.in-None.ensures.steps.0) in
    rw none at (c.loop-said.invariant.sources h d header object)
