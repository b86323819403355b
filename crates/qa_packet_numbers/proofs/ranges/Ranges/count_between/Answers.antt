use Rattle.std.proofs.Common.{◌≡◌, ◌∙◌, ◌≤◌, ◌<◌, ◌^◌, length, get_or, sym, ap, rules, arith}
use Rattle.std.proofs.lemmas.List.{take_all}
use Rattle.qa_packet_numbers.specs.Counting.{size_in, total_in}
use Rattle.qa_packet_numbers.specs.Runs.{AreApart}
use Rattle.qa_packet_numbers.proofs.Counting.{counted_in, total_within}
use Rattle.qa_packet_numbers.proofs.ranges.Ranges.count_between.Goals as goal

pub overflow_add-count : goal.overflow_add-count
overflow_add-count c =
    let runs = c.deref-run-items.result.now in
    let apart : AreApart runs = rw c.deref-run-items.ensures.value c.self.invariant in
    let run = c.run-item.result in
    let within : c.loop-run.run-index < length runs = search rules in
    let is : run ≡ get_or runs c.loop-run.run-index run = search rules in
    let size_is : c.saturating_sub-count.result ≡ size_in c.args.number c.args.top run = search rules in
    let small = total_within runs c.loop-run.run-index run c.args.number c.args.top apart within is in
    let high : c.args.top < 2 ^ 64 = search rules in
    omega (arith, c.loop-run.invariant, size_is, small, high)

pub returns : goal.returns
returns c = λ numbers names distinct.
    let runs = c.deref-run-items.result.now in
    let runs_are = c.deref-run-items.ensures.value in
    let all : length runs ≤ c.loop-run.run-index = search rules in
    c.loop-run.invariant
    ∙ (ap (total_in c.args.number c.args.top) (take_all c.loop-run.run-index runs all ∙ runs_are)
    ∙ sym (counted_in c.self.inside.runs.items numbers c.args.number c.args.top c.self.invariant (rw (← c.self.view_is) at names) distinct))
