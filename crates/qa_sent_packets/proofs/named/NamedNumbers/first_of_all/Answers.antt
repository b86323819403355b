use Rattle.std.proofs.Common.{◌≡◌, ◌∙◌, ◌+◌, ◌||◌, ℕ, List, [], ◌∷◌, ◌++◌, take, refl, sym, ap, subst}
use Rattle.std.proofs.lemmas.List.{take_all}
use Rattle.qa_base.specs.values.Events.{is_named}
use Rattle.qa_sent_packets.specs.Covering.{is_between}
use Rattle.qa_sent_packets.specs.Naming.{IsStretch}
use Rattle.qa_sent_packets.proofs.Acknowledged.{take_more}
use Rattle.qa_sent_packets.proofs.Stretches.{one_more, stretch_alike}
use Rattle.qa_sent_packets.proofs.named.NamedNumbers.first_of_all.Goals as goal

pub loop-span-init : goal.loop-span-init
loop-span-init c = λ n low. refl

pub loop-span-preserved : goal.loop-span-preserved
loop-span-preserved c =
    let i = c.loop-span.span-index in
    let spans = c.args.spans.now in
    let span = c.span-item.result in
    let step : take (i + 1) spans ≡ take i spans ++ span ∷ [] = take_more i spans span c.loop-span-test.true c.span-item.is in
    stretch_alike (λ n. is_named (take i spans) n || is_between span.0 span.1 n) (is_named (take (i + 1) spans)) c.args.from c.first_of-first.result
    (λ n low. one_more (take i spans) span n ∙ ap (λ (ss : List (ℕ × ℕ)). is_named ss n) (sym step))
    (c.first_of-first.ensures (is_named (take i spans)) (is_between span.0 span.1) c.args.from c.loop-span.invariant c.from.ensures.stretch)

pub returns : goal.returns
returns c = subst (λ (ss : List (ℕ × ℕ)). IsStretch (is_named ss) c.args.from c.loop-span.first) (take_all c.loop-span.span-index c.args.spans.now c.loop-span-test.false) c.loop-span.invariant
