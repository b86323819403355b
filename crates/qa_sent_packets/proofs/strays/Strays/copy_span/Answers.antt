use Rattle.std.proofs.Common.{◌≡◌, ◌∙◌, ◌++◌, filter, ap, rules}
use Rattle.std.specs.BTreeMap.Range.{entries_between}
use Rattle.std.specs.Ordering.{nat_cmp}
use Rattle.std.specs.declared.ops.Bound.TheVariants.{Included}
use Rattle.qa_sent_packets.specs.Covering.{is_between}
use Rattle.qa_sent_packets.specs.Strays.{filed}
use Rattle.qa_sent_packets.proofs.Filed.{filed_between}
use Rattle.qa_sent_packets.proofs.strays.Strays.copy_span.Goals as goal

pub loop-packet-init : goal.loop-packet-init
loop-packet-init c =
    let lo = c.get-lo.result in
    let hi = c.get-hi.result in
    let es = c.self.inside.packets.entries in
    let found = c.args.found.now.items in
    let is : c.into_iter-packet-iterator.result ≡ entries_between nat_cmp (Included lo) (Included hi) es = search rules in
    ap (λ xs. found ++ filed xs) is
    ∙ ap (λ ps. found ++ ps) (filed_between lo hi es c.self.invariant.keyed ∙ ap (filter (λ p. is_between lo hi p.number)) c.self.view_is)
