use Rattle.std.proofs.Common.{◌≡◌, ◌∙◌, ap, refl, false, sym, true}
use Rattle.std.proofs.lemmas.List.{take_all}
use Rattle.std.specs.List.{list_any}
use Rattle.qa_base.specs.values.Events.{is_space}
use Rattle.qa_base.specs.values.PerSpace.{of_space, with_space}
use Rattle.qa_convert.proofs.Losses.{all_spaces, marks, marks_stay, no_spaces, space_more, spaces_more}
use Rattle.qa_convert.specs.Losing.{Names, in_space, packets_of}
use Rattle.qa_convert.specs.Telling.{told_in}
use Rattle.qa_convert.specs.declared.conversion.Conversion.{Conversion}
use Rattle.qa_convert.specs.declared.groups.LostAt.{LostAt}
use Rattle.qa_convert.proofs.conversion.Conversion.write_lost.Goals as goal
use Rattle.qa_convert.proofs.conversion.Conversion.write_lost.Goals.{then-not-is_empty, else-not-is_empty, then-not-of+in_ok-write_lost_of, else-not-of}

pub loop-it-init : goal.loop-it-init
loop-it-init c = record {
  sent = refl;
  timers = refl;
  keys = refl;
  acks = refl;
  rules = refl;
  bare = refl;
  lost = no_spaces (packets_of c.deref-it-items.result.now) (told_in c.if-not-is_empty.self.writing);
  all = λ s is. cc;
}

pub loop-it-preserved : goal.loop-it-preserved
loop-it-preserved c =
    let space = c.it-item.result.lost.space in
    let ls = c.deref-it-items.result.now in
    let old = c.loop-it.written in
    let was = c.loop-it.invariant in
    elim c.if-not-of.branch [
      | then-not-of+in_ok-write_lost_of w ↦
          let new : of_space space old ≡ false = sym c.of.ensures ∙ w.if-not-of.true in
          let written : c.if-not-of.written ≡ with_space space old true = w.written-is in
          let line : Names (in_space space (packets_of ls)) (told_in c.loop-it.self.writing) (told_in w.write_lost_of.new.self.writing) =
          rw (c.deref-it-items.ensures.value, ← w.deref.ensures.value) w.in_ok-write_lost_of.ensures.lost in
          rw (w.self-is, written) (record {
            sent = w.in_ok-write_lost_of.ensures.sent ∙ was.sent;
            timers = w.in_ok-write_lost_of.ensures.timers ∙ was.timers;
            keys = w.in_ok-write_lost_of.ensures.keys ∙ was.keys;
            acks = w.in_ok-write_lost_of.ensures.acks ∙ was.acks;
            rules = w.in_ok-write_lost_of.ensures.rules ∙ was.rules;
            bare = w.in_ok-write_lost_of.ensures.bare ∙ was.bare;
            lost = space_more space old (packets_of ls) _ _ _ new was.lost line;
            all = spaces_more ls c.loop-it.it-index c.it-item.result old (with_space space old true) c.loop-it-test.true c.it-item.is
                (marks_stay space old) (marks space old) was.all;
          })
      | else-not-of w ↦
          let here : of_space space old ≡ true = sym c.of.ensures ∙ w.if-not-of.false in
          rw (w.self-is, w.written-is) (record {
            sent = was.sent;
            timers = was.timers;
            keys = was.keys;
            acks = was.acks;
            rules = was.rules;
            bare = was.bare;
            lost = was.lost;
            all = spaces_more ls c.loop-it.it-index c.it-item.result old old c.loop-it-test.true c.it-item.is (λ s is. is) here was.all;
          })
    ]

pub returns-clause-lost : goal.returns-clause-lost
returns-clause-lost c =
    let begun : told_in c.if-not-is_empty.self.writing ≡ told_in c.args.self.now.writing =
    elim c.if-not-is_empty.branch [
      | then-not-is_empty w ↦ ap (λ (x : Conversion). told_in x.writing) w.self-is ∙ c.in_ok-kept.ensures.told
      | else-not-is_empty w ↦ ap (λ (x : Conversion). told_in x.writing) w.self-is ∙ c.in_ok-kept.ensures.told
    ] in
    rw (← begun, ← c.in_ok-kept.ensures.kept, ← c.deref-it-items.ensures.value)
    (all_spaces c.loop-it.written c.deref-it-items.result.now _ _
    (λ s is. c.loop-it.invariant.all s (ap (list_any (λ (x : LostAt). is_space s x.lost.space)) (take_all c.loop-it.it-index c.deref-it-items.result.now c.loop-it-test.false) ∙ is))
    c.loop-it.invariant.lost)
