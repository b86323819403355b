use Rattle.std.proofs.Common.{◌≡◌, ◌≤◌, [], length, take, sym, subst, ap, ◌∙◌, arith}
use Rattle.std.specs.Prelude.{flat_map}
use Rattle.std.proofs.lemmas.Iterator.{YieldsList-from_chars}
use Rattle.std.proofs.lemmas.Iterator.Consumers.{YieldsList-end, YieldsList-turn}
use Rattle.std.proofs.lemmas.List.{length_push, take_all}
use Rattle.std.specs.Str.{chars}
use Rattle.qa_check.proofs.names_lemmas.Parts.{part_more}
use Rattle.qa_why.specs.Hidden.{seen_character}
use Rattle.qa_why.proofs.hidden.without_hidden.Goals as goal

pub loop-character-preserved : goal.loop-character-preserved
loop-character-preserved c =
    let cs = chars c.args.json.now in
    let turn = YieldsList-turn (YieldsList-from_chars c.args.json.now c.utf8.json cc) c.loop-character.yielded _ c.loop-character.yielded_by _ _
    c.in-Some.character c.in-Some.is c.next.ensures.steps in
    subst (λ k. c.push_seen.new.out.items ≡ flat_map seen_character (take k cs)) (sym (length_push c.loop-character.yielded c.in-Some.character))
    (part_more seen_character [] c.loop-character.seen.items c.push_seen.new.out.items cs (length c.loop-character.yielded) c.in-Some.character turn.0 turn.1
    c.loop-character.invariant c.in_ok-push_seen.ensures)

pub returns : goal.returns
returns c =
    let end = YieldsList-end (YieldsList-from_chars c.args.json.now c.utf8.json cc) c.loop-character.yielded _ c.loop-character.yielded_by _ _ c.in-None.is c.next.ensures.steps in
    let past : length (chars c.args.json.now) ≤ length c.loop-character.yielded = omega (arith, end.1) in
    c.loop-character.invariant ∙ ap (flat_map seen_character) (take_all (length c.loop-character.yielded) (chars c.args.json.now) past)
