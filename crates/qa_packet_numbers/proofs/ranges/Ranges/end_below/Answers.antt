use Rattle.std.proofs.Common.{◌≡◌, ◌∙◌, ◌+◌, ◌-◌, ◌≤◌, ◌<◌, nat_le, take, get_or, min, sym, ap, rules, arith}
use Rattle.qa_packet_numbers.specs.Counting.{total_in}
use Rattle.qa_packet_numbers.proofs.Counting.{counted_in, ends_at, none_left, passed_at}
use Rattle.qa_packet_numbers.proofs.ranges.Ranges.end_below.Goals as goal

pub returns-then-left-size : goal.returns-then-left-size
returns-then-left-size c = λ numbers names distinct n.
    let runs = c.self.inside.runs.items in
    let run = c.index-run.result.now in
    let at = c.loop-at.at in
    let some : 0 < at = search rules in
    let is : run ≡ get_or runs (at - 1) run = search rules in
    let end_is : c.min-end.result ≡ min run.1 c.args.top = search rules in
    let size_is : c.saturating_sub-size.result ≡ (c.min-end.result + 1) - run.0 = search rules in
    let enough : c.loop-at.left ≤ c.saturating_sub-size.result = search rules in
    ends_at runs at run n c.args.top c.loop-at.left c.min-end.result c.saturating_sub-size.result c.self.invariant some c.loop-at.invariant.within is end_is size_is c.loop-at.invariant.some enough
    ∙ (sym (c.loop-at.invariant.left n) ∙ ap (nat_le c.args.count) (sym (counted_in runs numbers n c.args.top c.self.invariant (rw (← c.self.view_is) at names) distinct)))

pub loop-at-preserved : goal.loop-at-preserved
loop-at-preserved c =
    let runs = c.self.inside.runs.items in
    let run = c.index-run.result.now in
    let at = c.loop-at.at in
    let some : 0 < at = search rules in
    let is : run ≡ get_or runs (at - 1) run = search rules in
    let end_is : c.min-end.result ≡ min run.1 c.args.top = search rules in
    let size_is : c.saturating_sub-size.result ≡ (c.min-end.result + 1) - run.0 = search rules in
    let few : c.saturating_sub-size.result < c.loop-at.left = search rules in
    let within = c.loop-at.invariant.within in
    record {
      within = omega (arith, within);
      some = omega (arith, few);
      left = λ n. c.loop-at.invariant.left n
          ∙ passed_at runs at run n c.args.top c.loop-at.left c.min-end.result c.saturating_sub-size.result c.self.invariant some within is end_is size_is few;
    }

pub returns : goal.returns
returns c = λ numbers names distinct n.
    let runs = c.self.inside.runs.items in
    let none : c.loop-at.at ≡ 0 = search rules in
    none_left c.loop-at.left n c.loop-at.invariant.some
    ∙ (ap (λ k. nat_le c.loop-at.left (total_in n c.args.top (take k runs))) (sym none)
    ∙ (sym (c.loop-at.invariant.left n) ∙ ap (nat_le c.args.count) (sym (counted_in runs numbers n c.args.top c.self.invariant (rw (← c.self.view_is) at names) distinct))))
