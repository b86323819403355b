use Rattle.std.proofs.Common.{◌≡◌, ◌∙◌, ◌++◌, List, OnOk, Result, Ok, Err, ap, append-nil}
use Rattle.qa_convert.specs.declared.groups.Group.{Group}
use Rattle.qa_convert.proofs.converting.Converting.arrange.Goals as goal

all_ok : {T E P Q R S : Type 0} (r : Result T E) → OnOk r P → OnOk r Q → OnOk r R → (P → Q → R → S) → OnOk r S
all_ok (Ok x) p q r f = f p q r
all_ok (Err e) p q r f = tt

pub returns-clause-passes : goal.returns-clause-passes
returns-clause-passes c =
    let queued = c.in_ok-queue.ensures in
    let grouped = c.in_ok-group.ensures in
    let ordered = c.queue.new.self.events.items in
    let ready = c.group.new.self.ready.items in
    let wrote = c.write_groups.ensures in
    all_ok c.write_groups.result wrote.written wrote.told wrote.rules
    (λ none told rules. record {
      ordered = ordered;
      follows = rw (c.write_groups.ensures.events, grouped.events, c.write_groups.ensures.order, grouped.order) queued.order;
      written = ready;
      gathers =
          let all : ready ++ c.write_groups.new.self.ready.items ≡ ready = ap (λ (gs : List Group). ready ++ gs) none ∙ append-nil ready in
          rw (all, c.write_groups.ensures.groups) (rw (queued.groups, queued.ready) at grouped.groups);
      told = rw (grouped.conversion, queued.conversion) at told;
      rules = rw (grouped.conversion, queued.conversion) at rules;
    })
