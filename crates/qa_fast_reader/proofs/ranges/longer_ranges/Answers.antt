use Rattle.std.proofs.lemmas.Option.{IfSome_then}
use Rattle.qa_scan.proofs.Lexing.{lexes_comma, lexes_end_array}
use Rattle.qa_fast_reader.proofs.Listing.{ranges_go_on, ranges_end}
use Rattle.qa_fast_reader.proofs.ranges.longer_ranges.Goals as goal

pub loop-i-init : goal.loop-i-init
loop-i-init c whole before = before

pub loop-i-preserved : goal.loop-i-preserved
loop-i-preserved c whole before =
    ranges_go_on c.loop-i.spans c.exact_range.new.spans whole c.loop-i.rest.now c.in_ok-behind.behind.now c.in-Some.more.now (c.loop-i.invariant whole before) c.in_ok-behind.ensures (lexes_comma _ _ c.in-Some.ensures)

pub returns-in_default : goal.returns-in_default
returns-in_default c whole before =
    IfSome_then c.after_byte-in_default.result c.after_byte-in_default.ensures
    (λ rest closed. ranges_end c.loop-i.spans c.exact_range.new.spans whole c.loop-i.rest.now c.in_ok-behind.behind.now rest.now (c.loop-i.invariant whole before) c.in_ok-behind.ensures (lexes_end_array _ _ closed))
