use Rattle.std.proofs.Common.{◌≡◌, ◌<◌, false, true, length, refl, ap, arith}
use Rattle.qa_sent_packets.specs.Unacknowledged.{Entries}
use Rattle.qa_sent_packets.proofs.Counted.{count_few, count_none, count_parts, count_queue, rising_back, zero_of}
use Rattle.qa_sent_packets.proofs.unacknowledged.Unacknowledged.most_to.Goals as goal

pub returns-in-None : goal.returns-in-None
returns-in-None c =
    let gaps = c.self.inside.gaps.entries in
    let recent = c.self.inside.recent.items in
    let parts = count_parts c.args.number gaps recent c.args.self.now.entries (ap (λ (u : Entries). u.entries) c.self.view_is) in
    let empty = zero_of _ (λ more. let bad : false ≡ true = c.in-None.ensures.variant.1 more in cc) in
    let long = c.self.inside.recent.ok.0 in
    let none = count_none c.args.number recent (omega (arith, empty, long)) in
    omega (arith, parts, none, c.len.ensures.len)

pub returns-in-Some : goal.returns-in-Some
returns-in-Some c =
    let gaps = c.self.inside.gaps.entries in
    let recent = c.self.inside.recent.items in
    let parts = count_parts c.args.number gaps recent c.args.self.now.entries (ap (λ (u : Entries). u.entries) c.self.view_is) in
    let within = c.in-Some.ensures.variant.0 refl in
    let long = c.self.inside.recent.ok.0 in
    let some : 0 < length recent = omega (arith, within, long) in
    let few = count_few c.args.number recent in
    let queue = count_queue c.args.number c.in-Some.field-0.now.0 recent c.in-Some.field-0.now some c.in-Some.ensures.lookup refl (rising_back gaps recent c.self.invariant.rising) in
    omega (arith, parts, few, queue, long, some, c.len-in-Some.ensures, c.len-in-Some-2.ensures.len, c.min-behind.ensures, c.saturating_sub.ensures)
