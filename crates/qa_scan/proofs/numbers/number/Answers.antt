use Rattle.std.proofs.Common.{subst}
use Rattle.json.specs.Print.{IsNumber}
use Rattle.qa_scan.proofs.Finite.{is_number}
use Rattle.qa_scan.proofs.numbers.number.Goals as goal

pub returns-then-has_room : goal.returns-then-has_room
returns-then-has_room c =
    let text = c.in-Ok.ensures.cases in
    is_number c.split_at.result.0.now c.args.bytes.now c.split_at.result.1.now (subst IsNumber text.0 (c.is_number.ensures.0 c.if-is_number.true)) text.1 (c.has_room.ensures c.if-has_room.true)
    (c.ends_word.ensures c.if-ends_word.true) c.split_at.ensures.by_index.0
