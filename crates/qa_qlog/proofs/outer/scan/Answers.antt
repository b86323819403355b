use Rattle.std.proofs.Common.{◌∙◌, ◌≤◌, arith, length, sym}
use Rattle.std.proofs.lemmas.Bool.{ltb-false}
use Rattle.qa_qlog.proofs.Runs.{scan_ends, scan_goes_on, scan_jumps, scan_stops}
use Rattle.qa_qlog.proofs.outer.scan.Goals as goal

pub returns-in_default-clause-extent : goal.returns-in_default-clause-extent
returns-in_default-clause-extent c =
    let bytes = c.args.bytes.now in
    let place = c.next_place-place in
    let jumps = scan_jumps _ c.loop-byte.now bytes c.loop-byte.len place.result c.loop-byte.invariant.0 place.ensures.place in
    let past : length bytes ≤ place.result = ltb-false place.result (length bytes) (sym c.in_default.ensures.lookup.0) in
    sym (scan_stops _ c.loop-byte.now bytes place.result jumps (omega (arith, past, place.ensures.within)))

pub returns-then-not-is_nested-clause-extent : goal.returns-then-not-is_nested-clause-extent
returns-then-not-is_nested-clause-extent c =
    let bytes = c.args.bytes.now in
    let place = c.next_place-place in
    let jumps = scan_jumps _ c.loop-byte.now bytes c.loop-byte.len place.result c.loop-byte.invariant.0 place.ensures.place in
    let found = c.in-Some.ensures.lookup.3 in
    let ends = sym c.is_nested.ensures ∙ c.if-not-is_nested.true in
    sym (scan_ends _ c.loop-byte.now c.in_value-now.result bytes place.result c.in-Some.byte.now jumps found.0 (found.1 0) c.in_value-now.ensures ends)

pub loop-byte-preserved : goal.loop-byte-preserved
loop-byte-preserved c =
    let bytes = c.args.bytes.now in
    let place = c.next_place-place in
    let jumps = scan_jumps _ c.loop-byte.now bytes c.loop-byte.len place.result c.loop-byte.invariant.0 place.ensures.place in
    let found = c.in-Some.ensures.lookup.3 in
    let goes = sym c.is_nested.ensures ∙ c.if-not-is_nested.false in
    (scan_goes_on _ c.loop-byte.now c.in_value-now.result bytes place.result c.in-Some.byte.now jumps found.0 (found.1 0) c.in_value-now.ensures goes, omega (arith, found.0))
