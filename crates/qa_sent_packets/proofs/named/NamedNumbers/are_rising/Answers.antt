use Rattle.std.proofs.Common.{◌≡◌, ◌∙◌, ◌≤◌, ◌+◌, ℕ, true, false, ◌∷◌, drop, length, sym, subst, arith}
use Rattle.std.proofs.lemmas.Bool.{leb-true}
use Rattle.std.proofs.lemmas.List.{drop_all}
use Rattle.qa_base.specs.machine.Numbers.{AreRanges}
use Rattle.qa_sent_packets.specs.Naming.{AreRisingFrom, turned}
use Rattle.qa_sent_packets.proofs.Stretches.{left_from, length_turned}
use Rattle.qa_sent_packets.proofs.named.NamedNumbers.are_rising.Goals as goal
use Rattle.qa_sent_packets.proofs.named.NamedNumbers.are_rising.Goals.{then-rising, else-rising}

pub loop-at-preserved : goal.loop-at-preserved
loop-at-preserved c =
    let at = c.loop-at.at in
    let span = c.nth.result in
    let rest = drop (at + 1) (turned c.args.falling c.args.spans.now) in
    let first : drop at (turned c.args.falling c.args.spans.now) ≡ span ∷ rest = left_from c.args.falling c.args.spans.now at span c.loop-at-test.true c.nth.ensures in
    let lo : c.get-lo.result ≡ span.0 = c.get-lo.ensures.value ∙ c.lo.ensures.value in
    record {
      ranges = λ ordered. c.loop-at.invariant.ranges (subst AreRanges (sym first) (c.lo.ensures.order, ordered));
      order = λ is rising. elim c.if-rising.branch [
        | then-rising w ↦ (
            let low : c.loop-at.last ≤ span.0 = (let more = leb-true c.loop-at.last c.get-lo.result (sym w.rising-is ∙ is) in omega (arith, more, lo)) in
            c.loop-at.invariant.order w.if-rising.true
            (subst (AreRisingFrom c.loop-at.last) (sym first) (low, subst (λ (n : ℕ). AreRisingFrom n rest) lo rising)))
        | else-rising w ↦ (let none : false ≡ true = sym w.if-rising.false ∙ (sym w.rising-is ∙ is) in cc)
      ];
    }

pub returns : goal.returns
returns c =
    let spans = turned c.args.falling c.args.spans.now in
    let past : length spans ≤ c.loop-at.at = (let same = length_turned c.args.falling c.args.spans.now in omega (arith, same)) in
    let none = drop_all c.loop-at.at spans past in
    record {
      ranges = c.loop-at.invariant.ranges (subst AreRanges (sym none) tt);
      order = λ is. c.loop-at.invariant.order is (subst (AreRisingFrom c.loop-at.last) (sym none) tt);
    }
