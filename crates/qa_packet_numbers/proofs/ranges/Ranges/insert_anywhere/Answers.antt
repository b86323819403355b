use Rattle.qa_packet_numbers.proofs.Sets.{apart_after, names_after, placed}
use Rattle.qa_packet_numbers.proofs.ranges.Ranges.insert_anywhere.Goals as goal

pub invariant_of-self : goal.invariant_of-self
invariant_of-self c =
    let items = c.self.inside.runs.items in
    let point = rw (c.deref.ensures.value, c.lo.ensures.value) at c.count_before-first.ensures.point in
    let within = rw c.deref.ensures.value at c.count_before-first.ensures.bound in
    let joins = rw c.deref-2.ensures.value at c.reach-end.ensures.joined in
    let same = placed c.args.span c.reach-end.result.1 items c.count_before-first.result c.reach-end.result.0 point within joins in
    let ok = rw (← same) at c.replace.ensures.ok in
    apart_after c.replace.result c.args.span items c.replace.new.runs.items c.lo.ensures.order ok c.replace.ensures.err c.self.invariant

pub returns-clause-ok : goal.returns-clause-ok
returns-clause-ok c =
    let items = c.self.inside.runs.items in
    let point = rw (c.deref.ensures.value, c.lo.ensures.value) at c.count_before-first.ensures.point in
    let within = rw c.deref.ensures.value at c.count_before-first.ensures.bound in
    let joins = rw c.deref-2.ensures.value at c.reach-end.ensures.joined in
    let same = placed c.args.span c.reach-end.result.1 items c.count_before-first.result c.reach-end.result.0 point within joins in
    let ok = rw (← same) at c.replace.ensures.ok in
    rw (← c.self.view_is) (names_after c.replace.result c.args.span items c.replace.new.runs.items c.lo.ensures.order ok c.self.invariant)

pub returns-clause-exact : goal.returns-clause-exact
returns-clause-exact c =
    let items = c.self.inside.runs.items in
    let point = rw (c.deref.ensures.value, c.lo.ensures.value) at c.count_before-first.ensures.point in
    let within = rw c.deref.ensures.value at c.count_before-first.ensures.bound in
    let joins = rw c.deref-2.ensures.value at c.reach-end.ensures.joined in
    let same = placed c.args.span c.reach-end.result.1 items c.count_before-first.result c.reach-end.result.0 point within joins in
    let ok = rw (← same) at c.replace.ensures.ok in
    rw (← c.self.view_is) ok
