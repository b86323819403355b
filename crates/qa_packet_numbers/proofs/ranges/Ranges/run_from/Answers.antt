use Rattle.std.proofs.Common.{◌≡◌, ◌∙◌, ap, nat_lt, option_copied, slice_get, rules}
use Rattle.std.proofs.lemmas.List.Sorted.{IsPartitionPoint-from_clause}
use Rattle.qa_packet_numbers.proofs.Sets.{found_at, parted_by_ends, read_at}
use Rattle.qa_packet_numbers.proofs.ranges.Ranges.run_from.Goals as goal

pub returns-clause-run : goal.returns-clause-run
returns-clause-run c =
    let items = c.self.inside.runs.items in
    let point = IsPartitionPoint-from_clause (λ run. nat_lt run.1 c.args.number) c.deref.result.now c.partition_point-place.result c.partition_point-place.ensures.partitioned
    (rw c.deref.ensures.value (parted_by_ends items c.args.number c.self.invariant)) (λ a r q k. search rules) in
    let here = rw c.deref.ensures.value at point in
    let bound = rw c.deref.ensures.value at c.partition_point-place.ensures.bound in
    let got : option_copied c.get.result ≡ slice_get c.deref-2.result.now c.partition_point-place.result = read_at c.deref-2.result.now c.partition_point-place.result c.get.result c.get.ensures.lookup.0 c.get.ensures.lookup.1 in
    rw (← c.self.view_is) (c.copied.ensures ∙ (got ∙ (ap (λ xs. slice_get xs c.partition_point-place.result) c.deref-2.ensures.value ∙ found_at c.args.number items c.partition_point-place.result bound here.0 here.1)))
