-- The last members of four names, found in one walk.
use Rattle.std.proofs.Common.{◌∙◌, sym}
use Rattle.json.specs.Find.{get_member}
use Rattle.qa_qlog.proofs.Latest.{begun, named, other, ended, unlike}
use Rattle.qa_qlog.proofs.says.four_in.Goals as goal

pub loop-key-init : goal.loop-key-init
loop-key-init c ms inside =
    (ms, inside, begun c.args.first.now ms, begun c.args.second.now ms, begun c.args.third.now ms, begun c.args.fourth.now ms)

pub loop-key-preserved-then-is_same : goal.loop-key-preserved-then-is_same
loop-key-preserved-then-is_same c ms inside =
    let now = c.loop-key.invariant ms inside in
    let f = c.in-Some.ensures.value now.0 now.1 in
    let key = c.in-Some.key.now in
    let same = sym c.is_same.ensures ∙ c.if-is_same.true in (
      f.1,
      f.4,
      named c.args.first.now key (get_member c.args.first.now ms) now.0 f.1 f.0 c.loop-key.at_first c.in-Some.member now.2 f.2 f.3 same,
      other c.args.second.now key (get_member c.args.second.now ms) now.0 f.1 f.0 c.loop-key.at_second now.3 f.2 (unlike key c.args.first.now c.args.second.now same c.requires.first_second),
      other c.args.third.now key (get_member c.args.third.now ms) now.0 f.1 f.0 c.loop-key.at_third now.4 f.2 (unlike key c.args.first.now c.args.third.now same c.requires.first_third),
      other c.args.fourth.now key (get_member c.args.fourth.now ms) now.0 f.1 f.0 c.loop-key.at_fourth now.5 f.2 (unlike key c.args.first.now c.args.fourth.now same c.requires.first_fourth),
    )

pub loop-key-preserved-then-is_same-2 : goal.loop-key-preserved-then-is_same-2
loop-key-preserved-then-is_same-2 c ms inside =
    let now = c.loop-key.invariant ms inside in
    let f = c.in-Some.ensures.value now.0 now.1 in
    let key = c.in-Some.key.now in
    let not_first = sym c.is_same.ensures ∙ c.if-is_same.false in
    let same = sym c.is_same-else-is_same.ensures ∙ c.if-is_same-2.true in (
      f.1,
      f.4,
      other c.args.first.now key (get_member c.args.first.now ms) now.0 f.1 f.0 c.loop-key.at_first now.2 f.2 not_first,
      named c.args.second.now key (get_member c.args.second.now ms) now.0 f.1 f.0 c.loop-key.at_second c.in-Some.member now.3 f.2 f.3 same,
      other c.args.third.now key (get_member c.args.third.now ms) now.0 f.1 f.0 c.loop-key.at_third now.4 f.2 (unlike key c.args.second.now c.args.third.now same c.requires.second_third),
      other c.args.fourth.now key (get_member c.args.fourth.now ms) now.0 f.1 f.0 c.loop-key.at_fourth now.5 f.2 (unlike key c.args.second.now c.args.fourth.now same c.requires.second_fourth),
    )

pub loop-key-preserved-then-is_same-3 : goal.loop-key-preserved-then-is_same-3
loop-key-preserved-then-is_same-3 c ms inside =
    let now = c.loop-key.invariant ms inside in
    let f = c.in-Some.ensures.value now.0 now.1 in
    let key = c.in-Some.key.now in
    let not_first = sym c.is_same.ensures ∙ c.if-is_same.false in
    let not_second = sym c.is_same-else-is_same.ensures ∙ c.if-is_same-2.false in
    let same = sym c.is_same-else-is_same-2.ensures ∙ c.if-is_same-3.true in (
      f.1,
      f.4,
      other c.args.first.now key (get_member c.args.first.now ms) now.0 f.1 f.0 c.loop-key.at_first now.2 f.2 not_first,
      other c.args.second.now key (get_member c.args.second.now ms) now.0 f.1 f.0 c.loop-key.at_second now.3 f.2 not_second,
      named c.args.third.now key (get_member c.args.third.now ms) now.0 f.1 f.0 c.loop-key.at_third c.in-Some.member now.4 f.2 f.3 same,
      other c.args.fourth.now key (get_member c.args.fourth.now ms) now.0 f.1 f.0 c.loop-key.at_fourth now.5 f.2 (unlike key c.args.third.now c.args.fourth.now same c.requires.third_fourth),
    )

pub loop-key-preserved-then-is_same-4 : goal.loop-key-preserved-then-is_same-4
loop-key-preserved-then-is_same-4 c ms inside =
    let now = c.loop-key.invariant ms inside in
    let f = c.in-Some.ensures.value now.0 now.1 in
    let key = c.in-Some.key.now in
    let not_first = sym c.is_same.ensures ∙ c.if-is_same.false in
    let not_second = sym c.is_same-else-is_same.ensures ∙ c.if-is_same-2.false in
    let not_third = sym c.is_same-else-is_same-2.ensures ∙ c.if-is_same-3.false in
    let same = sym c.is_same-else-is_same-3.ensures ∙ c.if-is_same-4.true in (
      f.1,
      f.4,
      other c.args.first.now key (get_member c.args.first.now ms) now.0 f.1 f.0 c.loop-key.at_first now.2 f.2 not_first,
      other c.args.second.now key (get_member c.args.second.now ms) now.0 f.1 f.0 c.loop-key.at_second now.3 f.2 not_second,
      other c.args.third.now key (get_member c.args.third.now ms) now.0 f.1 f.0 c.loop-key.at_third now.4 f.2 not_third,
      named c.args.fourth.now key (get_member c.args.fourth.now ms) now.0 f.1 f.0 c.loop-key.at_fourth c.in-Some.member now.5 f.2 f.3 same,
    )

pub loop-key-preserved : goal.loop-key-preserved
loop-key-preserved c ms inside =
    let now = c.loop-key.invariant ms inside in
    let f = c.in-Some.ensures.value now.0 now.1 in
    let key = c.in-Some.key.now in
    let not_first = sym c.is_same.ensures ∙ c.if-is_same.false in
    let not_second = sym c.is_same-else-is_same.ensures ∙ c.if-is_same-2.false in
    let not_third = sym c.is_same-else-is_same-2.ensures ∙ c.if-is_same-3.false in
    let not_fourth = sym c.is_same-else-is_same-3.ensures ∙ c.if-is_same-4.false in (
      f.1,
      f.4,
      other c.args.first.now key (get_member c.args.first.now ms) now.0 f.1 f.0 c.loop-key.at_first now.2 f.2 not_first,
      other c.args.second.now key (get_member c.args.second.now ms) now.0 f.1 f.0 c.loop-key.at_second now.3 f.2 not_second,
      other c.args.third.now key (get_member c.args.third.now ms) now.0 f.1 f.0 c.loop-key.at_third now.4 f.2 not_third,
      other c.args.fourth.now key (get_member c.args.fourth.now ms) now.0 f.1 f.0 c.loop-key.at_fourth now.5 f.2 not_fourth,
    )

pub returns : goal.returns
returns c ms inside =
    let now = c.loop-key.invariant ms inside in
    let done = c.in_default.ensures.value now.0 now.1 in
    record {
      first = ended c.args.first.now (get_member c.args.first.now ms) now.0 c.loop-key.at_first now.2 done;
      second = ended c.args.second.now (get_member c.args.second.now ms) now.0 c.loop-key.at_second now.3 done;
      third = ended c.args.third.now (get_member c.args.third.now ms) now.0 c.loop-key.at_third now.4 done;
      fourth = ended c.args.fourth.now (get_member c.args.fourth.now ms) now.0 c.loop-key.at_fourth now.5 done;
    }
