use Rattle.std.proofs.Common.{◌≡◌, ◌∙◌, ◌<◌, List, sym, subst, rules}
use Rattle.std.specs.List.{AllByRecursion}
use Rattle.std.specs.BTreeMap.Range.{entries_between}
use Rattle.std.specs.Ordering.{nat_cmp}
use Rattle.std.specs.declared.ops.Bound.TheVariants.{Included, Unbounded}
use Rattle.qa_sent_packets.specs.declared.packet.SentPacket.{SentPacket}
use Rattle.qa_sent_packets.proofs.Filed.{end_below}
use Rattle.qa_sent_packets.proofs.strays.Strays.end_below.Goals as goal

pub returns-in-None : goal.returns-in-None
returns-in-None c = λ is.
    let between : c.range.result ≡ entries_between nat_cmp (Included c.args.number) Unbounded c.self.inside.packets.entries = search rules in
    subst (λ (ps : List SentPacket). AllByRecursion (λ p. p.number < c.args.number) ps) c.self.view_is
    (end_below c.args.number c.self.inside.packets.entries c.self.invariant.keyed (sym between ∙ c.in-None.ensures.steps.0))
