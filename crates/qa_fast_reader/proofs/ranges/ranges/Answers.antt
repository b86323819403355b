use Rattle.std.proofs.Common.{◌∙◌, sym, subst}
use Rattle.std.proofs.lemmas.Option.{IfSome_then}
use Rattle.qa_fast_reader.specs.Ranges.{Spans, FollowsRanges}
use Rattle.qa_fast_reader.proofs.Listing.{ranges_begin, ranges_go_on, ranges_end}
use Rattle.qa_fast_reader.proofs.ranges.ranges.Goals as goal

pub loop-i-init : goal.loop-i-init
loop-i-init c =
    let P : Spans → Type 0 = λ spans. FollowsRanges spans c.args.bytes.now c.in_ok-rest.rest.now in
    subst P (sym (c.reserve.ensures ∙ c.requires)) (ranges_begin c.args.bytes.now c.in_ok-rest.rest.now c.in_ok-rest.ensures)

pub loop-i-preserved : goal.loop-i-preserved
loop-i-preserved c =
    ranges_go_on c.loop-i.spans c.range.new.spans c.args.bytes.now c.loop-i.rest.now c.in_ok-behind.behind.now c.in-Some.more.now c.loop-i.invariant c.in_ok-behind.ensures c.in-Some.ensures

pub returns-in_default : goal.returns-in_default
returns-in_default c =
    IfSome_then c.end_array.result c.end_array.ensures
    (λ rest closed. ranges_end c.loop-i.spans c.range.new.spans c.args.bytes.now c.loop-i.rest.now c.in_ok-behind.behind.now rest.now c.loop-i.invariant c.in_ok-behind.ensures closed)
