use Rattle.std.proofs.Common.{◌≡◌, ◌∙◌, ◌∷◌, ◌++◌, ◌≤◌, [], Global, length, arith, List, ap, refl, rules, subst, sym}
use Rattle.std.specs.VecDeque.{deque_len}
use Rattle.std.specs.declared.collections.VecDeque.{VecDeque}
use Rattle.qa_convert.proofs.GroupTold.{both_tell, tells_none, tells_one}
use Rattle.qa_convert.specs.GroupLines.{TellsOf}
use Rattle.qa_convert.specs.Rules.{Rules, rules_after, rules_of}
use Rattle.qa_convert.specs.Telling.{told_in}
use Rattle.qa_convert.specs.declared.groups.Group.{Group}
use Rattle.qa_convert.proofs.converting.Converting.write_groups.Goals as goal

empty_of : (gs : List Group) → length gs ≤ 0 → gs ≡ []
empty_of [] few = refl
empty_of (g ∷ gs) few = absurd (omega arith)

-- the queue is empty
none_left : (old new : VecDeque Group Global) → old.items ≡ [] ++ new.items → deque_len new ≡ 0 → old.items ≡ []
none_left old new items len =
    let few : length new.items ≤ 0 = search rules in
    items ∙ empty_of new.items few

pub loop-group-preserved : goal.loop-group-preserved
loop-group-preserved c =
    let now = c.loop-group.invariant in
    let g = c.in-Some.group in
    let rest = c.pop_front.new.self.items in
    let items : c.loop-group.self.ready.items ≡ g ∷ rest = search (rules, c.in-Some.ensures.items) in
    let old = c.loop-group.self.conversion in
    let wrote = c.in_ok-write.ensures in
    let before = told_in old.writing in
    let mid = told_in c.write.new.self.writing in
    let one = tells_one (rules_of old) old.writing.bare g before mid wrote.sent wrote.delays wrote.lost wrote.timers wrote.keys in
    record {
      events = now.events;
      order = now.order;
      head = now.head;
      cursor = now.cursor;
      retry = now.retry;
      groups = now.groups;
      rules = now.rules ∙ ap (λ (gs : List Group). rules_after gs (rules_of old)) items ∙ ap (rules_after rest) (sym wrote.rules);
      told = λ after more. now.told after (rw items (both_tell (rules_of old) (g ∷ []) rest before mid after one
          (subst (λ (r : Rules). TellsOf r rest mid after) wrote.rules more)));
    }

pub returns-clause-told : goal.returns-clause-told
returns-clause-told c =
    let now = c.loop-group.invariant in
    let none : c.loop-group.self.ready.items ≡ [] = none_left c.loop-group.self.ready c.pop_front.new.self c.in_default.ensures.items c.in_default.ensures.cases.1 in
    let t = told_in c.loop-group.self.conversion.writing in
    now.told t (rw none (tells_none (rules_of c.loop-group.self.conversion) t t refl))

pub returns-clause-rules : goal.returns-clause-rules
returns-clause-rules c =
    let none : c.loop-group.self.ready.items ≡ [] = none_left c.loop-group.self.ready c.pop_front.new.self c.in_default.ensures.items c.in_default.ensures.cases.1 in
    sym (rw none at c.loop-group.invariant.rules)
