use Rattle.std.proofs.Common.{◌≡◌, ◌∙◌, ◌≤◌, ◌+◌, ℕ, true, false, ◌∷◌, drop, length, sym, subst, arith}
use Rattle.std.proofs.lemmas.Bool.{le-leb, leb-true}
use Rattle.std.proofs.lemmas.List.{drop_all}
use Rattle.qa_base.specs.machine.Numbers.{AreRanges}
use Rattle.qa_sent_packets.specs.Covering.{AreApartFrom}
use Rattle.qa_sent_packets.specs.Naming.{turned}
use Rattle.qa_sent_packets.proofs.Opened.{apart_from, from_apart}
use Rattle.qa_sent_packets.proofs.Stretches.{left_from, length_turned}
use Rattle.qa_sent_packets.proofs.acknowledging.are_falling.Goals as goal
use Rattle.qa_sent_packets.proofs.acknowledging.are_falling.Goals.{then-falling, else-falling}

pub loop-at-preserved : goal.loop-at-preserved
loop-at-preserved c =
    let at = c.loop-at.at in
    let span = c.nth-span.result in
    let rest = drop (at + 1) (turned true c.args.spans.now) in
    let first : drop at (turned true c.args.spans.now) ≡ span ∷ rest = left_from true c.args.spans.now at span c.loop-at-test.true c.nth-span.ensures in
    let hi : c.get-next.result ≡ span.1 = c.get-next.ensures.value ∙ c.hi.ensures.value in
    record {
      apart = λ is apart. elim c.if-falling.branch [
        | then-falling w ↦ (
            let lo : w.get.result ≡ span.0 = w.get.ensures.value ∙ w.lo.ensures.value in
            let low : c.loop-at.next ≤ span.0 = (let more = leb-true c.loop-at.next w.get.result (sym w.falling-is ∙ is) in omega (arith, more, lo)) in
            c.loop-at.invariant.apart w.if-falling.true (subst (AreApartFrom c.loop-at.next) (sym first) (low, subst (λ (n : ℕ). AreApartFrom (n + 1) rest) hi apart)))
        | else-falling w ↦ (let none : false ≡ true = sym w.if-falling.false ∙ (sym w.falling-is ∙ is) in cc)
      ];
      ranges = λ ordered. c.loop-at.invariant.ranges (subst AreRanges (sym first) (c.hi.ensures.order, ordered));
      each = λ all.
          let both = c.loop-at.invariant.each all in
          let here : AreApartFrom c.loop-at.next (span ∷ rest) = subst (AreApartFrom c.loop-at.next) first both.1 in
          let behind : AreApartFrom (c.get-next.result + 1) rest = subst (λ (n : ℕ). AreApartFrom (n + 1) rest) (sym hi) here.1 in
          elim c.if-falling.branch [
            | then-falling w ↦ (
                let lo : w.get.result ≡ span.0 = w.get.ensures.value ∙ w.lo.ensures.value in
                let low : c.loop-at.next ≤ w.get.result = (let more = here.0 in omega (arith, more, lo)) in
                (w.falling-is ∙ le-leb c.loop-at.next w.get.result low, behind))
            | else-falling w ↦ (let none : false ≡ true = sym w.if-falling.false ∙ both.0 in cc)
          ];
    }

pub returns : goal.returns
returns c =
    let spans = turned true c.args.spans.now in
    let past : length spans ≤ c.loop-at.at = (let same = length_turned true c.args.spans.now in omega (arith, same)) in
    record {
      apart = λ is. apart_from 0 spans (c.loop-at.invariant.apart is (subst (AreApartFrom c.loop-at.next) (sym (drop_all c.loop-at.at spans past)) tt));
      ranges = c.loop-at.invariant.ranges (subst AreRanges (sym (drop_all c.loop-at.at spans past)) tt);
      each = λ apart. (c.loop-at.invariant.each (from_apart spans apart)).0;
    }
