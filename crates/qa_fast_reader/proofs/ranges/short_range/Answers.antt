use Rattle.std.proofs.Common.{◌+◌, ◌-◌, length, drop, arith}
use Rattle.std.proofs.lemmas.List.{take_all, length-drop}
use Rattle.qa_scan.proofs.Matching.{byte_then_rest}
use Rattle.qa_fast_reader.proofs.Listing.{short_range_is}
use Rattle.qa_fast_reader.proofs.ranges.short_range.Goals as goal

pub returns : goal.returns
returns c =
    let bytes = c.args.bytes.now in
    let d = c.in_ok-lo.first in
    let second_is = take_all (length bytes - (1 + d + 1)) (drop (1 + d + 1) bytes) (omega (arith, length-drop (1 + d + 1) bytes)) in
    short_range_is c.in_ok-lo.lo c.in_ok-hi.hi d c.in_ok-hi.second bytes _ _ c.requires (byte_then_rest bytes 91 (omega (arith, c.requires)) c.if-bytes-ne91.false)
    (omega (arith, c.if-lo-eq0.false)) (omega (arith, c.if-hi-lo.false)) c.in_ok-lo.ensures c.if-bytes-middle-ne44.false second_is c.in_ok-hi.ensures
