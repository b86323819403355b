use Rattle.std.proofs.Common.{◌≡◌, ◌<◌, ◌+◌, length, slice_set, refl, sym, ◌∙◌, arith}
use Rattle.std.proofs.lemmas.List.{take-append-drop, take-set, drop-set}
use Rattle.qa_packet_numbers.proofs.ranges.replace.Goals as goal

-- one run in the place of one
pub returns-else-first-end-2-clause-ok : goal.returns-else-first-end-2-clause-ok
returns-else-first-end-2-clause-ok c =
    let items = c.args.runs.now.items in
    let first = c.args.first in
    let differ = c.if-first-end.false in
    let within : first < length items = omega (arith, c.requires.order, c.requires.within, differ, c.if-first-end-2.false) in
    let end : first + 1 ≡ c.args.end = omega (arith, c.requires.order, differ, c.if-first-end-2.false) in
    sym (take-append-drop first (slice_set items first c.args.run))
    ∙ (rw (take-set items first c.args.run, drop-set items first c.args.run within, end) refl)
