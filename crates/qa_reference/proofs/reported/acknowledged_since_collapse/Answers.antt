use Rattle.std.proofs.Common.{◌∙◌, sym, ap, take}
use Rattle.qa_base.specs.machine.Loss.{is_persistent}
use Rattle.qa_base.specs.machine.Window.{acknowledged_since_collapse}
use Rattle.qa_base.specs.machine.Packets.{history_of}
use Rattle.qa_reference.proofs.Turns.{one_more, at_end}
use Rattle.qa_reference.proofs.reported.acknowledged_since_collapse.Goals as goal

pub since_collapse_after-sum-requires-clause-persistent : goal.since_collapse_after-sum-requires-clause-persistent
since_collapse_after-sum-requires-clause-persistent c =
    c.is_persistent-persistent.ensures ∙ ap (is_persistent c.args.header.now) (one_more c.args.events.now c.loop-place.place c.index-events-place.result c.loop-place-test.true c.index-events-place.is)

pub is_persistent-persistent-requires : goal.is_persistent-persistent-requires
is_persistent-persistent-requires c = record { seen = c.losses_after-losses.ensures }

pub since_collapse_after-sum-requires-clause-known : goal.since_collapse_after-sum-requires-clause-known
since_collapse_after-sum-requires-clause-known c = c.loop-place.invariant.sum

pub after_congestion-estimates-requires : goal.after_congestion-estimates-requires
after_congestion-estimates-requires c = record { seen = c.losses_after-losses.ensures }

pub with_sample-own-requires : goal.with_sample-own-requires
with_sample-own-requires c = record { known = c.loop-place.invariant.estimates }

pub losses_after-losses-requires-clause-known : goal.losses_after-losses-requires-clause-known
losses_after-losses-requires-clause-known c = c.with_sample-own.ensures.0

pub loop-place-preserved : goal.loop-place-preserved
loop-place-preserved c = record {
  estimates = c.after_congestion-estimates.ensures c.index-events-place.result (history_of (take c.loop-place.place c.args.events.now)) (one_more c.args.events.now c.loop-place.place c.index-events-place.result c.loop-place-test.true c.index-events-place.is) c.with_sample-own.ensures;
  sum = c.since_collapse_after-sum.ensures ∙ sym (ap (acknowledged_since_collapse c.args.header.now) (one_more c.args.events.now c.loop-place.place c.index-events-place.result c.loop-place-test.true c.index-events-place.is));
}

pub losses_after-losses-requires-clause-whole : goal.losses_after-losses-requires-clause-whole
losses_after-losses-requires-clause-whole c = one_more c.args.events.now c.loop-place.place c.index-events-place.result c.loop-place-test.true c.index-events-place.is

pub returns : goal.returns
returns c = c.loop-place.invariant.sum ∙ at_end (acknowledged_since_collapse c.args.header.now) c.args.events.now c.loop-place.place c.loop-place-test.false
