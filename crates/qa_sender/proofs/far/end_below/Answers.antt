use Rattle.std.proofs.Common.{◌≡◌, ◌∙◌, ◌+◌, ◌-◌, arith, rules}
use Rattle.qa_base.specs.declared.space.ThresholdCounts.TheVariants.{Numbers, Packets}
use Rattle.qa_sender.proofs.FarEnds.{numbers_end, packets_end}
use Rattle.qa_sender.proofs.far.end_below.Goals as goal

pub returns-in-Numbers : goal.returns-in-Numbers
returns-in-Numbers c = λ h run sent.
    let s = c.args.header.now in
    let counts : s.options.threshold_counts ≡ Numbers = search rules in
    let low = c.options-options.ensures.range.threshold_low in
    let is : c.saturating_sub.result ≡ c.args.largest + 1 - s.options.packet_threshold = search rules in
    is ∙ numbers_end s h c.args.space c.args.largest counts (omega (arith, low))

pub returns-in-Packets : goal.returns-in-Packets
returns-in-Packets c = λ h run sent.
    let s = c.args.header.now in
    let counts : s.options.threshold_counts ≡ Packets = search rules in
    let low = c.options-options.ensures.range.threshold_low in
    packets_end s h c.args.space c.args.largest c.end_below.result counts (omega (arith, low)) (rw c.options-options.ensures.value at (c.end_below.ensures s h run sent))
