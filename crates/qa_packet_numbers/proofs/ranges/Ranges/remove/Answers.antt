use Rattle.std.proofs.Common.{◌≡◌, ◌∙◌, ◌≤◌, ◌<◌, ap, Some, None, nat_lt, option_copied, slice_get, sym, rules}
use Rattle.std.proofs.lemmas.List.Sorted.{IsPartitionPoint-from_clause}
use Rattle.qa_base.specs.values.Events.{is_named}
use Rattle.qa_packet_numbers.proofs.Removed.{apart_after_less, names_after_less, names_removed, reaches, removed_at, removed_between, removed_none}
use Rattle.qa_packet_numbers.proofs.Sets.{parted_by_ends, read_at}
use Rattle.qa_packet_numbers.proofs.ranges.Ranges.remove.Goals as goal

pub cut-requires-clause-high : goal.cut-requires-clause-high
cut-requires-clause-high c =
    let items = c.self.inside.runs.items in
    let place = c.partition_point-place.result in
    let point = rw c.deref.ensures.value at (IsPartitionPoint-from_clause (λ run. nat_lt run.1 c.args.number) c.deref.result.now place c.partition_point-place.ensures.partitioned
    (rw c.deref.ensures.value (parted_by_ends items c.args.number c.self.invariant)) (λ a r q k. search rules)) in
    let got : option_copied c.get.result ≡ slice_get c.deref-2.result.now place = read_at c.deref-2.result.now place c.get.result c.get.ensures.lookup.0 c.get.ensures.lookup.1 in
    let read = c.copied.ensures ∙ (got ∙ ap (λ xs. slice_get xs place) c.deref-2.ensures.value) in
    let run = c.in-Some.run' in
    let at : slice_get items place ≡ Some run = sym read ∙ c.in-Some.is in
    reaches c.args.number items place run point.1 at

pub invariant_of-self : goal.invariant_of-self
invariant_of-self c =
    let items = c.self.inside.runs.items in
    let place = c.partition_point-place.result in
    let point = rw c.deref.ensures.value at (IsPartitionPoint-from_clause (λ run. nat_lt run.1 c.args.number) c.deref.result.now place c.partition_point-place.ensures.partitioned
    (rw c.deref.ensures.value (parted_by_ends items c.args.number c.self.invariant)) (λ a r q k. search rules)) in
    let got : option_copied c.get.result ≡ slice_get c.deref-2.result.now place = read_at c.deref-2.result.now place c.get.result c.get.ensures.lookup.0 c.get.ensures.lookup.1 in
    let read = c.copied.ensures ∙ (got ∙ ap (λ xs. slice_get xs place) c.deref-2.ensures.value) in
    let run = c.in-Some.run' in
    let at : slice_get items place ≡ Some run = sym read ∙ c.in-Some.is in
    let low : run.0 ≤ c.args.number = search rules in
    let high = reaches c.args.number items place run point.1 at in
    let ok = rw (← removed_at c.args.number items place run point.0 at low high) at c.cut.ensures.ok in
    apart_after_less c.cut.result c.args.number items c.cut.new.runs.items ok c.cut.ensures.err c.self.invariant

pub returns-in-Some-clause-exact : goal.returns-in-Some-clause-exact
returns-in-Some-clause-exact c =
    let items = c.self.inside.runs.items in
    let place = c.partition_point-place.result in
    let point = rw c.deref.ensures.value at (IsPartitionPoint-from_clause (λ run. nat_lt run.1 c.args.number) c.deref.result.now place c.partition_point-place.ensures.partitioned
    (rw c.deref.ensures.value (parted_by_ends items c.args.number c.self.invariant)) (λ a r q k. search rules)) in
    let got : option_copied c.get.result ≡ slice_get c.deref-2.result.now place = read_at c.deref-2.result.now place c.get.result c.get.ensures.lookup.0 c.get.ensures.lookup.1 in
    let read = c.copied.ensures ∙ (got ∙ ap (λ xs. slice_get xs place) c.deref-2.ensures.value) in
    let run = c.in-Some.run' in
    let at : slice_get items place ≡ Some run = sym read ∙ c.in-Some.is in
    let low : run.0 ≤ c.args.number = search rules in
    let high = reaches c.args.number items place run point.1 at in
    let ok = rw (← removed_at c.args.number items place run point.0 at low high) at c.cut.ensures.ok in
    rw (← c.self.view_is) ok

pub returns-in-Some-clause-ok : goal.returns-in-Some-clause-ok
returns-in-Some-clause-ok c =
    let items = c.self.inside.runs.items in
    let place = c.partition_point-place.result in
    let point = rw c.deref.ensures.value at (IsPartitionPoint-from_clause (λ run. nat_lt run.1 c.args.number) c.deref.result.now place c.partition_point-place.ensures.partitioned
    (rw c.deref.ensures.value (parted_by_ends items c.args.number c.self.invariant)) (λ a r q k. search rules)) in
    let got : option_copied c.get.result ≡ slice_get c.deref-2.result.now place = read_at c.deref-2.result.now place c.get.result c.get.ensures.lookup.0 c.get.ensures.lookup.1 in
    let read = c.copied.ensures ∙ (got ∙ ap (λ xs. slice_get xs place) c.deref-2.ensures.value) in
    let run = c.in-Some.run' in
    let at : slice_get items place ≡ Some run = sym read ∙ c.in-Some.is in
    let low : run.0 ≤ c.args.number = search rules in
    let high = reaches c.args.number items place run point.1 at in
    let ok = rw (← removed_at c.args.number items place run point.0 at low high) at c.cut.ensures.ok in
    rw (← c.self.view_is) (names_after_less c.cut.result c.args.number items c.cut.new.runs.items ok c.self.invariant)

pub returns-in_default-clause-exact : goal.returns-in_default-clause-exact
returns-in_default-clause-exact c =
    let items = c.self.inside.runs.items in
    let place = c.partition_point-place.result in
    let point = rw c.deref.ensures.value at (IsPartitionPoint-from_clause (λ run. nat_lt run.1 c.args.number) c.deref.result.now place c.partition_point-place.ensures.partitioned
    (rw c.deref.ensures.value (parted_by_ends items c.args.number c.self.invariant)) (λ a r q k. search rules)) in
    let got : option_copied c.get.result ≡ slice_get c.deref-2.result.now place = read_at c.deref-2.result.now place c.get.result c.get.ensures.lookup.0 c.get.ensures.lookup.1 in
    let read = c.copied.ensures ∙ (got ∙ ap (λ xs. slice_get xs place) c.deref-2.ensures.value) in
    let run = c.in-Some.run' in
    let at : slice_get items place ≡ Some run = sym read ∙ c.in-Some.is in
    let above : c.args.number < run.0 = search rules in
    rw (← c.self.view_is) (sym (removed_between c.args.number items place run point.0 at c.lo.ensures.order above))

pub returns-in_default-clause-ok : goal.returns-in_default-clause-ok
returns-in_default-clause-ok c =
    let items = c.self.inside.runs.items in
    let place = c.partition_point-place.result in
    let point = rw c.deref.ensures.value at (IsPartitionPoint-from_clause (λ run. nat_lt run.1 c.args.number) c.deref.result.now place c.partition_point-place.ensures.partitioned
    (rw c.deref.ensures.value (parted_by_ends items c.args.number c.self.invariant)) (λ a r q k. search rules)) in
    let got : option_copied c.get.result ≡ slice_get c.deref-2.result.now place = read_at c.deref-2.result.now place c.get.result c.get.ensures.lookup.0 c.get.ensures.lookup.1 in
    let read = c.copied.ensures ∙ (got ∙ ap (λ xs. slice_get xs place) c.deref-2.ensures.value) in
    let run = c.in-Some.run' in
    let at : slice_get items place ≡ Some run = sym read ∙ c.in-Some.is in
    let above : c.args.number < run.0 = search rules in
    let same = removed_between c.args.number items place run point.0 at c.lo.ensures.order above in
    rw (← c.self.view_is) (λ n. ap (λ runs. is_named runs n) (sym same) ∙ names_removed c.args.number items n c.self.invariant)

pub returns-in_default-2-clause-exact : goal.returns-in_default-2-clause-exact
returns-in_default-2-clause-exact c =
    let items = c.self.inside.runs.items in
    let place = c.partition_point-place.result in
    let point = rw c.deref.ensures.value at (IsPartitionPoint-from_clause (λ run. nat_lt run.1 c.args.number) c.deref.result.now place c.partition_point-place.ensures.partitioned
    (rw c.deref.ensures.value (parted_by_ends items c.args.number c.self.invariant)) (λ a r q k. search rules)) in
    let got : option_copied c.get.result ≡ slice_get c.deref-2.result.now place = read_at c.deref-2.result.now place c.get.result c.get.ensures.lookup.0 c.get.ensures.lookup.1 in
    let read = c.copied.ensures ∙ (got ∙ ap (λ xs. slice_get xs place) c.deref-2.ensures.value) in
    let at : slice_get items place ≡ None = sym read ∙ c.in_default.is in
    rw (← c.self.view_is) (sym (removed_none c.args.number items place point.0 at))

pub returns-in_default-2-clause-ok : goal.returns-in_default-2-clause-ok
returns-in_default-2-clause-ok c =
    let items = c.self.inside.runs.items in
    let place = c.partition_point-place.result in
    let point = rw c.deref.ensures.value at (IsPartitionPoint-from_clause (λ run. nat_lt run.1 c.args.number) c.deref.result.now place c.partition_point-place.ensures.partitioned
    (rw c.deref.ensures.value (parted_by_ends items c.args.number c.self.invariant)) (λ a r q k. search rules)) in
    let got : option_copied c.get.result ≡ slice_get c.deref-2.result.now place = read_at c.deref-2.result.now place c.get.result c.get.ensures.lookup.0 c.get.ensures.lookup.1 in
    let read = c.copied.ensures ∙ (got ∙ ap (λ xs. slice_get xs place) c.deref-2.ensures.value) in
    let at : slice_get items place ≡ None = sym read ∙ c.in_default.is in
    let same = removed_none c.args.number items place point.0 at in
    rw (← c.self.view_is) (λ n. ap (λ runs. is_named runs n) (sym same) ∙ names_removed c.args.number items n c.self.invariant)
