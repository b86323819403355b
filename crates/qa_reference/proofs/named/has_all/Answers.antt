use Rattle.std.proofs.Common.{◌≡◌, ◌∙◌, ℕ, Bool, true, false, sym, rules}
use Rattle.qa_base.specs.machine.Numbers.{has_range}
use Rattle.qa_base.specs.machine.Packets.{history_of}
use Rattle.qa_reference.specs.Looks.{numbers_nameable}
use Rattle.qa_reference.proofs.Turns.{each_next, not_each}
use Rattle.qa_reference.proofs.named.has_all.Goals as goal
use Rattle.qa_reference.proofs.named.has_all.Goals.{then-not-has_no_gap, else-not-has_no_gap}

pub loop-range-preserved : goal.loop-range-preserved
loop-range-preserved c =
    let h = history_of c.args.events.now in
    let test : ℕ × ℕ → Bool = has_range (numbers_nameable h c.args.look h) in
    let range = c.range-item.result in
    elim c.if-not-has_no_gap.branch [
      | then-not-has_no_gap w ↦ (
          let fails : test range ≡ false = search rules in
          w.all-is ∙ sym (not_each test c.args.ranges.now c.loop-range.range-index range c.loop-range-test.true c.range-item.is fails))
      | else-not-has_no_gap w ↦ (
          let passes : test range ≡ true = search rules in
          w.all-is ∙ (c.loop-range.invariant ∙ sym (each_next test c.args.ranges.now c.loop-range.range-index range c.loop-range-test.true c.range-item.is passes)))
    ]
