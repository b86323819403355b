use Rattle.std.proofs.Common.{◌≡◌, ◌≤◌, ◌<◌, ◌∙◌, ◌+◌, ◌++◌, ◌∷◌, [], ℕ, append_assoc, filter, length, take, sym, ap, subst}
use Rattle.qa_base.specs.values.Events.{is_named}
use Rattle.qa_sent_packets.specs.Covering.{is_between}
use Rattle.qa_sent_packets.specs.Naming.{turned}
use Rattle.qa_sent_packets.proofs.Acknowledged.{take_more}
use Rattle.qa_sent_packets.proofs.Filed.{named_next, named_none}
use Rattle.qa_sent_packets.proofs.Opened.{ends_below}
use Rattle.qa_sent_packets.proofs.Parts.{each_more}
use Rattle.qa_sent_packets.proofs.Stretches.{length_turned}
use Rattle.qa_sent_packets.proofs.strays.Strays.copy_all.Goals as goal

pub loop-at-init : goal.loop-at-init
loop-at-init c = record { found = named_none c.args.found.now.items c.args.self.now; forward = tt }

pub loop-at-preserved : goal.loop-at-preserved
loop-at-preserved c =
    let i = c.loop-at.at in
    let spans = turned c.args.falling c.args.spans.now in
    let span = c.nth.result in
    let ps = c.args.self.now in
    let within : i < length spans = subst (λ count. i < count) (sym (length_turned c.args.falling c.args.spans.now)) c.loop-at-test.true in
    let is = c.nth.ensures in
    let below = ends_below spans i span c.requires.apart c.loop-at.invariant.forward within is in
    let step : take (i + 1) spans ≡ take i spans ++ span ∷ [] = take_more i spans span within is in
    record {
      found = c.in_ok-copy_span.ensures.found
          ∙ (ap (λ xs. xs ++ filter (λ p. is_between span.0 span.1 p.number) ps) c.loop-at.invariant.found
          ∙ (append_assoc c.args.found.now.items (filter (λ p. is_named (take i spans) p.number) ps) (filter (λ p. is_between span.0 span.1 p.number) ps)
          ∙ ap (λ qs. c.args.found.now.items ++ qs)
          (named_next (take i spans) span ps below c.copy_span.ensures.rising ∙ ap (λ rs. filter (λ p. is_named rs p.number) ps) (sym step))));
      forward = each_more (λ (r : ℕ × ℕ). r.0 ≤ r.1) spans i span within is c.copy_span.ensures.order c.loop-at.invariant.forward;
    }
