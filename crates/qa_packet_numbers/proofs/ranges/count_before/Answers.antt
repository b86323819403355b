use Rattle.std.proofs.Common.{◌≡◌, ◌≤◌, ◌-◌, ◌∙◌, Some, length, rules, slice_get, sym}
use Rattle.std.proofs.lemmas.List.Sorted.{IsPartitionPoint-from_clause}
use Rattle.qa_packet_numbers.specs.Runs.{ends_before}
use Rattle.qa_packet_numbers.proofs.Sets.{all_before, all_before_last, parted_before}
use Rattle.qa_packet_numbers.proofs.ranges.count_before.Goals as goal

pub returns-in-Some-clause-point : goal.returns-in-Some-clause-point
returns-in-Some-clause-point c =
    let at : slice_get c.args.runs.now (length c.args.runs.now - 1) ≡ Some c.in-Some.last.now = sym (rw c.in-Some.is at c.last.ensures.value) in
    all_before c.args.runs.now c.in-Some.last.now c.args.number c.requires.apart at (sym c.ends_before.ensures ∙ c.if-ends_before.true)

pub returns-in-Some-2-clause-point : goal.returns-in-Some-2-clause-point
returns-in-Some-2-clause-point c =
    let at : slice_get c.args.runs.now (length c.args.runs.now - 1) ≡ Some c.in-Some.last.now = sym (rw c.in-Some.is at c.last.ensures.value) in
    let begins : c.in-Some.last.now.0 ≤ c.args.number = search rules in
    all_before_last c.args.runs.now c.in-Some.last.now c.args.number c.requires.apart at (sym c.ends_before.ensures ∙ c.if-ends_before.false) begins

pub returns-in_default-clause-point : goal.returns-in_default-clause-point
returns-in_default-clause-point c =
    IsPartitionPoint-from_clause (λ run. ends_before run c.args.number) c.args.runs.now c.partition_point.result c.partition_point.ensures.partitioned
    (parted_before c.args.runs.now c.args.number c.requires.apart) (λ a r q k. search rules)
