use Rattle.std.proofs.Common.{◌≡◌, ◌+◌, ◌-◌, ◌∙◌, List, ℕ, length, drop, take, sym, subst, ap, arith}
use Rattle.std.proofs.lemmas.List.{take_all, length-drop}
use Rattle.qa_fast_reader.specs.Ranges.{Spans, FollowsRanges}
use Rattle.qa_scan.proofs.Lexing.{lexes_begin_array}
use Rattle.qa_fast_reader.proofs.Listing.{ranges_begin, short_goes_on, short_ends}
use Rattle.qa_fast_reader.proofs.ranges.exact_ranges.Goals as goal

pub loop-rest-init : goal.loop-rest-init
loop-rest-init c =
    let P : Spans → Type 0 = λ spans. FollowsRanges spans c.args.bytes.now c.in_ok-rest.rest.now in
    subst P (sym (c.reserve.ensures ∙ c.requires)) (ranges_begin c.args.bytes.now c.in_ok-rest.rest.now (lexes_begin_array _ _ c.in_ok-rest.ensures))

-- what is left behind two bytes more
left : (bs : List ℕ) (i : ℕ) → take (length bs - (i + 2)) (drop (i + 2) bs) ≡ drop (i + 1 + 1) bs
left bs i =
    let next : i + 2 ≡ i + 1 + 1 = omega arith in
    take_all (length bs - (i + 2)) (drop (i + 2) bs) (omega (arith, length-drop (i + 2) bs)) ∙ ap (λ k. drop k bs) next

pub loop-rest-preserved : goal.loop-rest-preserved
loop-rest-preserved c =
    let rest = c.loop-rest.rest.now in
    let found = c.in_ok-put-2.ensures in
    short_goes_on c.loop-rest.spans c.put-in-loop-rest.new.spans c.in-Some.lo c.in-Some.hi c.in-Some.end c.two_codes-codes.result c.args.bytes.now rest _ (omega (arith, c.loop-rest-test.true))
    c.loop-rest.invariant c.in-Some.ensures c.two_codes-codes.ensures c.if-codes-ne-ANOTHER.false found.0 found.1 (left rest c.in-Some.end)

pub returns-then-codes-ne-ANOTHER : goal.returns-then-codes-ne-ANOTHER
returns-then-codes-ne-ANOTHER c =
    let rest = c.loop-rest.rest.now in
    let found = c.in_ok-put.ensures in
    short_ends c.loop-rest.spans c.put.new.spans c.in-Some.lo c.in-Some.hi c.in-Some.end c.two_codes-codes.result c.args.bytes.now rest _ (omega (arith, c.loop-rest-test.true))
    c.loop-rest.invariant c.in-Some.ensures c.two_codes-codes.ensures c.if-codes-ne-LAST.false found.0 found.1 (left rest c.in-Some.end)
