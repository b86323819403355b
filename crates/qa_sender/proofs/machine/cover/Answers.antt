use Rattle.std.proofs.Common.{◌≡◌, ◌∙◌, List, ℕ, sym, ap, subst}
use Rattle.qa_base.specs.machine.Numbers.{AreRanges}
use Rattle.qa_base.specs.values.Events.{is_named}
use Rattle.qa_sender.proofs.Acks.{apart_ordered, apart_rise}
use Rattle.qa_sender.proofs.Aside.{acknowledged_alike, newly_alike}
use Rattle.qa_sent_packets.specs.Covering.{AreApart}
use Rattle.qa_sent_packets.specs.Steps.{acknowledged, newly_found}
use Rattle.qa_sender.proofs.machine.cover.Goals as goal

pub acknowledge-requires-2-clause-apart : goal.acknowledge-requires-2-clause-apart
acknowledge-requires-2-clause-apart c =
    subst (λ (rs : List (ℕ × ℕ)). AreApart rs) (sym c.as_slice.ensures.runs) (apart_rise c.in_ok-in_order.in_order c.as_slice.ensures.apart)

pub acknowledge-requires-2-clause-ranges : goal.acknowledge-requires-2-clause-ranges
acknowledge-requires-2-clause-ranges c =
    subst (λ (rs : List (ℕ × ℕ)). AreRanges rs) (sym c.as_slice.ensures.runs) (apart_ordered c.in_ok-in_order.in_order c.as_slice.ensures.apart)

pub returns-clause-ok : goal.returns-clause-ok
returns-clause-ok c =
    let s = c.args.space in
    let same : (n : ℕ) → is_named c.as_slice.result.now n ≡ is_named c.args.spans.now n = λ n. ap (λ rs. is_named rs n) c.as_slice.ensures.runs ∙ c.in_ok-in_order.ensures n in
    c.in_ok-acknowledge-2.ensures.ok ∙ (ap (acknowledged s c.as_slice.result.now) c.lend_list-found.ensures.same ∙ acknowledged_alike s c.as_slice.result.now c.args.spans.now c.args.packets.now same)

pub returns-clause-found : goal.returns-clause-found
returns-clause-found c =
    let s = c.args.space in
    let same : (n : ℕ) → is_named c.as_slice.result.now n ≡ is_named c.args.spans.now n = λ n. ap (λ rs. is_named rs n) c.as_slice.ensures.runs ∙ c.in_ok-in_order.ensures n in
    c.in_ok-acknowledge-2.ensures.found ∙ (ap (newly_found s c.as_slice.result.now) c.lend_list-found.ensures.same ∙ newly_alike s c.as_slice.result.now c.args.spans.now c.args.packets.now same)
