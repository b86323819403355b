use Rattle.std.proofs.Common.{◌∙◌, ◌<◌, ◌+◌, ℕ, List, drop, length, sym, ap, subst, arith}
use Rattle.qa_base.specs.values.Events.{is_named}
use Rattle.qa_sent_packets.specs.Naming.{AreRisingFrom, EndsBelow, turned}
use Rattle.qa_sent_packets.proofs.Parts.{each_more}
use Rattle.qa_sent_packets.proofs.Stretches.{ends_below, left_from, length_turned, without_first}
use Rattle.qa_sent_packets.proofs.named.NamedNumbers.first_left.Goals as goal

pub loop-at-preserved : goal.loop-at-preserved
loop-at-preserved c =
    let at = c.loop-at.at in
    let span = c.nth.result in
    let rest = drop (at + 1) (turned c.args.falling c.args.spans.now) in
    let first = left_from c.args.falling c.args.spans.now at span c.loop-at-test.true c.nth.ensures in
    let less : span.1 < c.args.from = omega arith in
    let there : at < length (turned c.args.falling c.args.spans.now) = subst (λ count. at < count) (sym (length_turned c.args.falling c.args.spans.now)) c.loop-at-test.true in
    record {
      within = omega arith;
      left = λ n low. c.loop-at.invariant.left n low ∙ (ap (λ (ss : List (ℕ × ℕ)). is_named ss n) first ∙ ends_below span rest n (omega (arith, less, low)));
      below = λ all. each_more (EndsBelow c.args.from) (turned c.args.falling c.args.spans.now) at span there c.nth.ensures (c.hi.ensures.order, less) (c.loop-at.invariant.below all);
      order = λ rising. without_first span rest (subst (AreRisingFrom 0) first (c.loop-at.invariant.order rising));
    }
