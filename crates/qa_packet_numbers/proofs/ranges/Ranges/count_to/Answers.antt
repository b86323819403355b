use Rattle.std.proofs.Common.{nat_le, rules}
use Rattle.std.proofs.lemmas.List.Sorted.{IsPartitionPoint-from_clause}
use Rattle.qa_packet_numbers.proofs.Counting.{parted_by_begins, reached_all}
use Rattle.qa_packet_numbers.proofs.ranges.Ranges.count_to.Goals as goal

pub returns-clause-total : goal.returns-clause-total
returns-clause-total c = λ n.
    let items = c.self.inside.runs.items in
    let point = IsPartitionPoint-from_clause (λ run. nat_le run.0 c.args.top) c.deref.result.now c.partition_point.result c.partition_point.ensures.partitioned
    (rw c.deref.ensures.value (parted_by_begins items c.args.top c.self.invariant)) (λ a r q k. search rules) in
    let here = rw c.deref.ensures.value at point in
    rw (← c.self.view_is) (reached_all items c.partition_point.result n c.args.top here.1)
