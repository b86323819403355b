use Rattle.std.proofs.Common.{◌≡◌, ◌∙◌, ◌++◌, ◌∷◌, [], ap, append_assoc, rules, sym}
use Rattle.qa_convert.proofs.Grouped.{gathers_then}
use Rattle.qa_convert.proofs.converting.Converting.group.Goals as goal

pub loop-event-preserved : goal.loop-event-preserved
loop-event-preserved c =
    let now = c.loop-event.invariant in
    let e = c.in-Some.event in
    let rest = c.pop_front.new.self.items in
    let items : c.loop-event.self.events.items ≡ e ∷ rest = search (rules, c.in-Some.ensures.items) in
    record {
      done = now.done ++ e ∷ [];
      all = append_assoc now.done (e ∷ []) rest ∙ ap (λ es. now.done ++ es) (sym items) ∙ now.all;
      gathers = gathers_then _ _ _ now.done (e ∷ []) _ _ _ now.gathers c.in_ok-push.ensures;
      order = now.order;
      head = now.head;
      cursor = now.cursor;
      retry = now.retry;
      conversion = now.conversion;
    }
