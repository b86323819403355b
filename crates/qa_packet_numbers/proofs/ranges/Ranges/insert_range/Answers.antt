use Rattle.std.proofs.Common.{◌≡◌, ◌≤◌, ◌∙◌, length, rules, sym}
use Rattle.qa_packet_numbers.proofs.Sets.{apart_inserted, inserted_last, names_inserted}
use Rattle.qa_packet_numbers.proofs.ranges.Ranges.insert_range.Goals as goal

pub invariant_of-self : goal.invariant_of-self
invariant_of-self c =
    let items = c.self.inside.runs.items in
    let long : c.len-last.result ≡ length items = search rules in
    let order : c.args.span.0 ≤ c.args.span.1 = search rules in
    let found = rw c.deref.ensures.value at (sym c.lengthened.ensures ∙ c.in-Some.is) in
    let longer = inserted_last c.args.span c.in-Some.run' items order c.self.invariant found in
    rw (long, ← longer) (apart_inserted c.args.span items order c.self.invariant)

pub returns-in-Some-clause-ok : goal.returns-in-Some-clause-ok
returns-in-Some-clause-ok c =
    let items = c.self.inside.runs.items in
    let long : c.len-last.result ≡ length items = search rules in
    let order : c.args.span.0 ≤ c.args.span.1 = search rules in
    let found = rw c.deref.ensures.value at (sym c.lengthened.ensures ∙ c.in-Some.is) in
    let longer = inserted_last c.args.span c.in-Some.run' items order c.self.invariant found in
    rw (long, ← longer, ← c.self.view_is) (λ n. names_inserted c.args.span items n order c.self.invariant)

pub returns-in-Some-clause-exact : goal.returns-in-Some-clause-exact
returns-in-Some-clause-exact c =
    let items = c.self.inside.runs.items in
    let long : c.len-last.result ≡ length items = search rules in
    let order : c.args.span.0 ≤ c.args.span.1 = search rules in
    let found = rw c.deref.ensures.value at (sym c.lengthened.ensures ∙ c.in-Some.is) in
    let longer = inserted_last c.args.span c.in-Some.run' items order c.self.invariant found in
    rw (long, ← c.self.view_is) (sym longer)
