use Rattle.std.proofs.Common.{◌≡◌, ◌∙◌, ◌-◌, true, false, length, set, sym, ap, refl, subst, arith}
use Rattle.std.specs.Prelude.{nat_lt}
use Rattle.std.specs.VecDeque.{deque_len}
use Rattle.std.proofs.lemmas.Bool.{and_parts}
use Rattle.qa_base.specs.values.Events.{is_named, is_space}
use Rattle.qa_base.specs.declared.space.Space.{Space}
use Rattle.qa_sent_packets.specs.Fates.{is_flying}
use Rattle.qa_sent_packets.specs.Free.{is_free_by}
use Rattle.qa_sent_packets.specs.Held.{AreLosses}
use Rattle.qa_sent_packets.specs.Steps.{with_fate}
use Rattle.qa_sent_packets.specs.declared.fate.Fate.TheVariants.{Owed}
use Rattle.qa_sent_packets.proofs.Detected.{marked}
use Rattle.qa_sent_packets.proofs.Entries.{found_here}
use Rattle.qa_sent_packets.proofs.Sums.{weighed}
use Rattle.qa_sent_packets.proofs.Taken.{all_free_wait, entry_leads, entry_none, entry_written, fewer_pass, flies_of, left_of, losses_with, open_not_owed, ordered_set, taken_out, taken_written}
use Rattle.qa_sent_packets.proofs.queue.PacketQueue.take_number.Goals as goal

pub overflow_sub-entry : goal.overflow_sub-entry
overflow_sub-entry c =
    (entry_leads c.args.free.space c.args.self.now.dropped c.args.number c.args.self.now.packets.items c.args.space_packets.now.unacknowledged.entries c.entry_at.result c.in-Some.entry c.requires.indexed.entries c.entry_at.ensures c.in-Some.is).0

pub index_mut-packet-requires : goal.index_mut-packet-requires
index_mut-packet-requires c =
    let found = (entry_leads c.args.free.space c.args.self.now.dropped c.args.number c.args.self.now.packets.items c.args.space_packets.now.unacknowledged.entries c.entry_at.result c.in-Some.entry c.requires.indexed.entries c.entry_at.ensures c.in-Some.is).1 in
    let len : deque_len c.args.self.now.packets ≡ length c.args.self.now.packets.items = c.args.self.now.packets.ok.0 in
    omega (arith, found.within, len)

pub returns-then-not-has-clause-left : goal.returns-then-not-has-clause-left
returns-then-not-has-clause-left c =
    let ps = c.args.self.now.packets.items in
    let p = c.index_mut-packet.result.now in
    let test = is_free_by c.args.free in
    let at = c.in-Some.entry.1 - c.args.self.now.dropped in
    let found = (entry_leads c.args.free.space c.args.self.now.dropped c.args.number ps c.args.space_packets.now.unacknowledged.entries c.entry_at.result c.in-Some.entry c.requires.indexed.entries c.entry_at.ensures c.in-Some.is).1 in
    let out : test p ≡ false = sym c.has.ensures ∙ c.if-not-has.true in
    left_of test c.args.number (set ps at p) ps
    (entry_written c.args.free.space test c.args.self.now.dropped c.args.number at ps p p c.requires.ordered (all_free_wait c.args.free ps) found c.index_mut-packet.ensures.value refl out)
    (λ n. fewer_pass test n ps at p out)

pub take_off-requires-clause-in_flight : goal.take_off-requires-clause-in_flight
take_off-requires-clause-in_flight c =
    let ps = c.args.self.now.packets.items in
    let p = c.index_mut-packet.result.now in
    let at = c.in-Some.entry.1 - c.args.self.now.dropped in
    let found = (entry_leads c.args.free.space c.args.self.now.dropped c.args.number ps c.args.space_packets.now.unacknowledged.entries c.entry_at.result c.in-Some.entry c.requires.indexed.entries c.entry_at.ensures c.in-Some.is).1 in
    (weighed c.args.free.space c.args.self.now.dropped ps c.args.space_packets.now at p c.requires.indexed found.within c.index_mut-packet.ensures.value (found_here c.args.free.space c.args.self.now.dropped c.args.number at ps p found c.index_mut-packet.ensures.value)).bytes

pub take_off-requires-clause-awaiting : goal.take_off-requires-clause-awaiting
take_off-requires-clause-awaiting c =
    let ps = c.args.self.now.packets.items in
    let p = c.index_mut-packet.result.now in
    let at = c.in-Some.entry.1 - c.args.self.now.dropped in
    let found = (entry_leads c.args.free.space c.args.self.now.dropped c.args.number ps c.args.space_packets.now.unacknowledged.entries c.entry_at.result c.in-Some.entry c.requires.indexed.entries c.entry_at.ensures c.in-Some.is).1 in
    (weighed c.args.free.space c.args.self.now.dropped ps c.args.space_packets.now at p c.requires.indexed found.within c.index_mut-packet.ensures.value (found_here c.args.free.space c.args.self.now.dropped c.args.number at ps p found c.index_mut-packet.ensures.value)).awaiting

pub with-requires-clause-place : goal.with-requires-clause-place
with-requires-clause-place c =
    let found = (entry_leads c.args.free.space c.args.self.now.dropped c.args.number c.args.self.now.packets.items c.args.space_packets.now.unacknowledged.entries c.entry_at.result c.in-Some.entry c.requires.indexed.entries c.entry_at.ensures c.in-Some.is).1 in
    let few = c.requires.few in
    omega (arith, found.within, few)

pub returns-in-None-clause-left : goal.returns-in-None-clause-left
returns-in-None-clause-left c =
    let ps = c.args.self.now.packets.items in
    left_of (is_free_by c.args.free) c.args.number ps ps
    (entry_none c.args.free.space (is_free_by c.args.free) c.args.self.now.dropped c.args.number ps c.args.space_packets.now.unacknowledged.entries c.entry_at.result (all_free_wait c.args.free ps) c.requires.indexed.entries c.entry_at.ensures c.in-None.is)
    (λ n is. is)

pub returns-else-not-has-clause-packets : goal.returns-else-not-has-clause-packets
returns-else-not-has-clause-packets c = λ ranges named.
    let ps = c.args.self.now.packets.items in
    let p = c.index_mut-packet.result.now in
    let at = c.in-Some.entry.1 - c.args.self.now.dropped in
    let found = (entry_leads c.args.free.space c.args.self.now.dropped c.args.number ps c.args.space_packets.now.unacknowledged.entries c.entry_at.result c.in-Some.entry c.requires.indexed.entries c.entry_at.ensures c.in-Some.is).1 in
    taken_written c.args.free ranges ps at p c.index_mut-packet.ensures.value (sym c.has.ensures ∙ c.if-not-has.false)
    (ap (is_named ranges) (found.number p c.index_mut-packet.ensures.value) ∙ named)

pub returns-else-not-has-clause-left : goal.returns-else-not-has-clause-left
returns-else-not-has-clause-left c =
    let ps = c.args.self.now.packets.items in
    let p = c.index_mut-packet.result.now in
    let test = is_free_by c.args.free in
    let at = c.in-Some.entry.1 - c.args.self.now.dropped in
    let y = with_fate Owed p in
    let found = (entry_leads c.args.free.space c.args.self.now.dropped c.args.number ps c.args.space_packets.now.unacknowledged.entries c.entry_at.result c.in-Some.entry c.requires.indexed.entries c.entry_at.ensures c.in-Some.is).1 in
    left_of test c.args.number (set ps at y) ps
    (entry_written c.args.free.space test c.args.self.now.dropped c.args.number at ps p y c.requires.ordered (all_free_wait c.args.free ps) found c.index_mut-packet.ensures.value refl (taken_out c.args.free p))
    (λ n. fewer_pass test n ps at y (taken_out c.args.free p))

pub returns-else-not-has-clause-ordered : goal.returns-else-not-has-clause-ordered
returns-else-not-has-clause-ordered c =
    ordered_set c.args.self.now.packets.items (c.in-Some.entry.1 - c.args.self.now.dropped) c.index_mut-packet.result.now Owed c.requires.ordered c.index_mut-packet.ensures.value

pub returns-else-not-has-clause-indexed : goal.returns-else-not-has-clause-indexed
returns-else-not-has-clause-indexed c =
    let ps = c.args.self.now.packets.items in
    let p = c.index_mut-packet.result.now in
    let at = c.in-Some.entry.1 - c.args.self.now.dropped in
    let found = (entry_leads c.args.free.space c.args.self.now.dropped c.args.number ps c.args.space_packets.now.unacknowledged.entries c.entry_at.result c.in-Some.entry c.requires.indexed.entries c.entry_at.ensures c.in-Some.is).1 in
    let flies = (and_parts (is_flying c.args.free.space p) (nat_lt p.number c.args.free.end) (sym c.has.ensures ∙ c.if-not-has.false)).0 in
    marked c.args.free.space c.args.self.now.dropped ps c.args.space_packets.now c.take_off.new.self at p c.requires.indexed found.within c.index_mut-packet.ensures.value flies
    c.take_off.ensures.entries c.take_off.ensures.in_flight c.take_off.ensures.awaiting

pub returns-else-not-has-clause-losses : goal.returns-else-not-has-clause-losses
returns-else-not-has-clause-losses c =
    let ps = c.args.self.now.packets.items in
    let p = c.index_mut-packet.result.now in
    let at = c.in-Some.entry.1 - c.args.self.now.dropped in
    let leads = entry_leads c.args.free.space c.args.self.now.dropped c.args.number ps c.args.space_packets.now.unacknowledged.entries c.entry_at.result c.in-Some.entry c.requires.indexed.entries c.entry_at.ensures c.in-Some.is in
    let low = leads.0 in
    let flies = flies_of c.args.free.space p (and_parts (is_flying c.args.free.space p) (nat_lt p.number c.args.free.end) (sym c.has.ensures ∙ c.if-not-has.false)).0 in
    let here : is_space c.args.losses.space p.space ≡ true = ap (λ (s : Space). is_space s p.space) c.requires.space ∙ flies.0 in
    subst (AreLosses c.args.self.now.dropped (set ps at (with_fate Owed p))) (sym c.with.ensures)
    (losses_with c.args.self.now.dropped ps c.args.losses at c.in-Some.entry.1 p c.requires.losses leads.1.within c.index_mut-packet.ensures.value (open_not_owed p.fate flies.1) here (omega (arith, low)))
