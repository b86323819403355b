use Rattle.std.proofs.Common.{◌∙◌, ◌+◌, List, sym, ap, subst, arith, take}
use Rattle.std.proofs.lemmas.List.{length-take-le}
use Rattle.std.proofs.lemmas.List.Elements.{All-take}
use Rattle.qa_base.specs.declared.event.Event.{Event}
use Rattle.qa_base.specs.machine.Reno.{reno}
use Rattle.qa_base.specs.machine.Widths.{Fits}
use Rattle.qa_reference.specs.Words.{IsCongestion}
use Rattle.qa_base.specs.machine.Packets.{history_of}
use Rattle.qa_reference.proofs.Turns.{one_more, at_end}
use Rattle.qa_reference.proofs.window.reno.Goals as goal

pub reno_after-reno-requires-clause-lost : goal.reno_after-reno-requires-clause-lost
reno_after-reno-requires-clause-lost c =
    subst (λ (h : List Event). IsCongestion c.args.header.now h c.congestion_of-congestion.result) (one_more c.args.events.now c.loop-place.place c.index-events-place.result c.loop-place-test.true c.index-events-place.is) c.congestion_of-congestion.ensures

pub congestion_of-congestion-requires : goal.congestion_of-congestion-requires
congestion_of-congestion-requires c =
    let count = length-take-le (c.loop-place.place + 1) c.args.events.now (omega (arith, c.loop-place-test.true)) in
    record { seen = c.losses_after-losses.ensures; few = omega (arith, c.requires.few, c.loop-place-test.true, count) }

pub reno_after-reno-requires-clause-known : goal.reno_after-reno-requires-clause-known
reno_after-reno-requires-clause-known c = c.loop-place.invariant.reno

pub after_congestion-estimates-requires : goal.after_congestion-estimates-requires
after_congestion-estimates-requires c = record { seen = c.losses_after-losses.ensures }

pub with_sample-own-requires : goal.with_sample-own-requires
with_sample-own-requires c = record { known = c.loop-place.invariant.estimates }

pub losses_after-losses-requires-clause-known : goal.losses_after-losses-requires-clause-known
losses_after-losses-requires-clause-known c = c.with_sample-own.ensures.0

pub loop-place-preserved : goal.loop-place-preserved
loop-place-preserved c = record {
  estimates = c.after_congestion-estimates.ensures c.index-events-place.result (history_of (take c.loop-place.place c.args.events.now)) (one_more c.args.events.now c.loop-place.place c.index-events-place.result c.loop-place-test.true c.index-events-place.is) c.with_sample-own.ensures;
  reno = c.reno_after-reno.ensures ∙ sym (ap (reno c.args.header.now) (one_more c.args.events.now c.loop-place.place c.index-events-place.result c.loop-place-test.true c.index-events-place.is));
}

pub losses_after-losses-requires-clause-whole : goal.losses_after-losses-requires-clause-whole
losses_after-losses-requires-clause-whole c = one_more c.args.events.now c.loop-place.place c.index-events-place.result c.loop-place-test.true c.index-events-place.is

pub returns : goal.returns
returns c = c.loop-place.invariant.reno ∙ at_end (reno c.args.header.now) c.args.events.now c.loop-place.place c.loop-place-test.false

pub reno_after-reno-requires-clause-few : goal.reno_after-reno-requires-clause-few
reno_after-reno-requires-clause-few c =
    omega (arith, c.requires.few, length-take-le c.loop-place.place c.args.events.now c.loop-place.auto.place-end)

pub reno_after-reno-requires-clause-fit : goal.reno_after-reno-requires-clause-fit
reno_after-reno-requires-clause-fit c = All-take Fits c.loop-place.place c.args.events.now c.requires.fit
