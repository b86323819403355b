use Rattle.std.proofs.Common.{◌≡◌, ◌+◌, ◌-◌, ℕ, List, length, drop, take, sym, subst, arith}
use Rattle.std.proofs.lemmas.List.{take_all, length-drop}
use Rattle.qa_scan.proofs.Matching.{byte_then_rest}
use Rattle.qa_fast_reader.specs.Ranges.{IsPair}
use Rattle.qa_fast_reader.proofs.Listing.{short_pair_is}
use Rattle.qa_fast_reader.proofs.ranges.short_pair.Goals as goal

-- what is left behind a place
left : (bs : List ℕ) (i : ℕ) → take (length bs - i) (drop i bs) ≡ drop i bs
left bs i = take_all (length bs - i) (drop i bs) (omega (arith, length-drop i bs))

pub returns : goal.returns
returns c =
    let bytes : List ℕ = c.args.bytes.now in
    let next : ℕ = c.behind_space-second.result in
    let end : ℕ = next + c.in_ok-hi.more in
    subst (IsPair c.in_ok-lo.lo c.in_ok-hi.hi bytes) (sym (left bytes (end + 1)))
    (short_pair_is c.in_ok-lo.lo c.in_ok-hi.hi c.in_ok-lo.digits c.in_ok-hi.more next bytes _ _ (omega (arith, c.if-bytes-lt-PAIR_ROOM.false)) (byte_then_rest bytes 91 (omega arith) (omega arith))
    (omega arith) (omega arith) c.in_ok-lo.ensures (omega arith) c.behind_space-second.ensures (left bytes next) c.in_ok-hi.ensures (omega arith))
