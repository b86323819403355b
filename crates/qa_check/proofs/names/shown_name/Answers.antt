use Rattle.std.proofs.Common.{◌≡◌, ◌≤◌, [], length, take, sym, subst, ap, ◌∙◌, arith}
use Rattle.std.specs.Prelude.{flat_map}
use Rattle.std.proofs.lemmas.Iterator.{YieldsList-from_chars}
use Rattle.std.proofs.lemmas.Iterator.Consumers.{YieldsList-end, YieldsList-turn}
use Rattle.std.proofs.lemmas.List.{length_push, take_all}
use Rattle.std.specs.Str.{chars}
use Rattle.qa_check.proofs.names_lemmas.Parts.{part_more}
use Rattle.qa_check.specs.names.Names.{shown_character}
use Rattle.qa_check.proofs.names.shown_name.Goals as goal

pub loop-character-preserved : goal.loop-character-preserved
loop-character-preserved c =
    let cs = chars c.args.name.now in
    let turn = YieldsList-turn (YieldsList-from_chars c.args.name.now c.utf8.name cc) c.loop-character.yielded _ c.loop-character.yielded_by _ _
    c.in-Some.character c.in-Some.is c.next.ensures.steps in
    subst (λ k. c.push_character.new.out.items ≡ flat_map shown_character (take k cs)) (sym (length_push c.loop-character.yielded c.in-Some.character))
    (part_more shown_character [] c.loop-character.shown.items c.push_character.new.out.items cs (length c.loop-character.yielded) c.in-Some.character turn.0 turn.1
    c.loop-character.invariant c.in_ok-push_character.ensures)

pub returns : goal.returns
returns c =
    let end = YieldsList-end (YieldsList-from_chars c.args.name.now c.utf8.name cc) c.loop-character.yielded _ c.loop-character.yielded_by _ _ c.in-None.is c.next.ensures.steps in
    let past : length (chars c.args.name.now) ≤ length c.loop-character.yielded = omega (arith, end.1) in
    c.loop-character.invariant ∙ ap (flat_map shown_character) (take_all (length c.loop-character.yielded) (chars c.args.name.now) past)
