use Rattle.std.proofs.Common.{◌≡◌, ◌∙◌, ℕ, ◌+◌, true, ◌&&◌, ◌∷◌, drop, sym, ap, rules}
use Rattle.std.proofs.lemmas.List.{at_drop_more}
use Rattle.qa_base.specs.machine.Numbers.{has_all, has_range}
use Rattle.qa_packet_numbers.proofs.sent.SentNumbers.were_sent.Goals as goal

pub loop-range-preserved : goal.loop-range-preserved
loop-range-preserved c = λ ns names.
    let range = c.range-item.result in
    let rest = drop (c.loop-range.range-index + 1) c.args.ranges.now in
    let covered : has_range ns range ≡ true = search rules in
    let first = at_drop_more (has_all ns) c.args.ranges.now c.loop-range.range-index range c.loop-range-test.true in
    ap (λ b. b && has_all ns rest) (sym covered)
    ∙ (sym (first ∙ ap (λ (r : ℕ × ℕ). has_all ns (r ∷ rest)) (sym c.range-item.is)) ∙ c.loop-range.invariant ns names)
