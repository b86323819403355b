use Rattle.std.proofs.Common.{◌≤◌, length, arith}
use Rattle.std.proofs.lemmas.Iterator.{YieldsList-from_chars}
use Rattle.std.proofs.lemmas.Iterator.Consumers.{YieldsList-end, YieldsList-turn}
use Rattle.std.specs.Str.{chars}
use Rattle.qa_commands.proofs.Writes.{item_less, item_more, items_all}
use Rattle.qa_commands.specs.Names.{shown_in_lines}
use Rattle.qa_commands.proofs.naming.write_lines.Goals as goal

pub loop-character-preserved : goal.loop-character-preserved
loop-character-preserved g c =
    let turn = YieldsList-turn (YieldsList-from_chars c.args.text.now c.utf8.text cc) c.loop-character.yielded _ c.loop-character.yielded_by _ _
    c.in-Some.character c.in-Some.is c.next.ensures.steps in
    item_more shown_in_lines (chars c.args.text.now) c.loop-character.yielded c.in-Some.character _ _ _ _ _ _ turn c.loop-character.invariant c.in_ok-write_in_lines.ensures

pub returns-in_err-write_in_lines : goal.returns-in_err-write_in_lines
returns-in_err-write_in_lines g c =
    let turn = YieldsList-turn (YieldsList-from_chars c.args.text.now c.utf8.text cc) c.loop-character.yielded _ c.loop-character.yielded_by _ _
    c.in-Some.character c.in-Some.is c.next.ensures.steps in
    rw c.from_residual.ensures.0
    (item_less shown_in_lines (chars c.args.text.now) c.loop-character.yielded c.in-Some.character _ _ _ _ _ _ turn c.loop-character.invariant c.in_err-write_in_lines.ensures)

pub returns : goal.returns
returns g c =
    let end = YieldsList-end (YieldsList-from_chars c.args.text.now c.utf8.text cc) c.loop-character.yielded _ c.loop-character.yielded_by _ _ c.in-None.is c.next.ensures.steps in
    let past : length (chars c.args.text.now) ≤ length c.loop-character.yielded = omega (arith, end.1) in
    items_all shown_in_lines (chars c.args.text.now) c.loop-character.yielded _ _ _ _ past c.loop-character.invariant
