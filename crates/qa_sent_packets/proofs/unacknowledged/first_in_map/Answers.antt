use Rattle.std.proofs.Common.{◌≡◌, ◌∙◌, sym, ap, rules}
use Rattle.std.specs.Prelude.{slice_get}
use Rattle.std.specs.BTreeMap.Range.{entries_between}
use Rattle.std.specs.Ordering.{nat_cmp}
use Rattle.std.specs.declared.ops.Bound.TheVariants.{Included, Unbounded}
use Rattle.qa_sent_packets.proofs.Entries.{first_of_part}
use Rattle.qa_sent_packets.proofs.unacknowledged.first_in_map.Goals as goal

pub returns-in-None : goal.returns-in-None
returns-in-None c =
    let between : c.range.result ≡ entries_between nat_cmp (Included c.args.lo) Unbounded c.args.gaps.now.entries = search rules in
    sym (first_of_part c.args.lo c.args.gaps.now.entries ∙ ap (λ es. slice_get es 0) (sym between ∙ c.in-None.ensures.steps.0))

pub returns-in-Some : goal.returns-in-Some
returns-in-Some c =
    let between : c.range.result ≡ entries_between nat_cmp (Included c.args.lo) Unbounded c.args.gaps.now.entries = search rules in
    sym (first_of_part c.args.lo c.args.gaps.now.entries ∙ ap (λ es. slice_get es 0) (sym between ∙ c.in-Some.ensures.steps))
