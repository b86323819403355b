use Rattle.std.proofs.Common.{◌≡◌, ◌∙◌, ◌∷◌, [], List, length, refl, sym, rules}
use Rattle.std.specs.Vec.Iter.{into_iter_items}
use Rattle.qa_convert.proofs.Goes.{goes_none, goes_one, goes_then}
use Rattle.qa_convert.specs.Reading.{event_at, events_at}
use Rattle.qa_convert.specs.Taking.{progress_of, told_of}
use Rattle.qa_convert.specs.declared.event.Said.{Said}
use Rattle.qa_convert.proofs.converting.Converting.pass_all.Goals as goal

pub loop-said-preserved : goal.loop-said-preserved
loop-said-preserved c =
    let now = c.loop-said.invariant in
    let at = c.args.at in
    let e = event_at at c.in-Some.said in
    let rest = into_iter_items c.next.new.self in
    let old = c.loop-said.self in
    let mid = c.pass.new.self in
    let passed = c.in_ok-pass.ensures in
    let one = goes_one e (progress_of old) (told_of old) (progress_of mid) (told_of mid) passed.head passed.retry passed.passes in
    record {
      next = tt;
      finite = tt;
      goes = λ new after more. now.goes new after (rw c.in-Some.ensures.steps.0
          (goes_then (e ∷ []) (events_at at rest) (progress_of old) (progress_of mid) new (told_of old) (told_of mid) after one more));
      cursor = passed.cursor ∙ now.cursor;
    }

nothing_left : (all : List Said) → length all ≡ 0 → all ≡ []
nothing_left [] e = refl
nothing_left (s ∷ all) e = absurd (search rules)

pub returns-clause-goes : goal.returns-clause-goes
returns-clause-goes c =
    let old = c.loop-said.self in
    let none : into_iter_items c.loop-said.said-iterator ≡ [] =
    nothing_left (into_iter_items c.loop-said.said-iterator) (sym c.loop-said.said-iterator.rest.ok.0 ∙ c.in-None.ensures.steps.0) in
    c.loop-said.invariant.goes (progress_of old) (told_of old) (rw none (goes_none (progress_of old) (progress_of old) (told_of old) (told_of old) refl refl refl refl refl refl refl))
