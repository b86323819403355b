use Rattle.std.proofs.Common.{◌≡◌, ◌∙◌, ◌-◌, ◌+◌, ◌++◌, ◌∷◌, [], List, append_assoc, filter, set, ap, refl, sym, length, arith}
use Rattle.std.specs.Map.{remove_entry}
use Rattle.std.specs.BTreeMap.{is_at}
use Rattle.std.specs.Ordering.{nat_cmp}
use Rattle.std.specs.VecDeque.{deque_len}
use Rattle.qa_sent_packets.specs.Covering.{count_in, first_between, is_between, is_new_in}
use Rattle.qa_sent_packets.specs.Fates.{is_open}
use Rattle.qa_sent_packets.specs.Steps.{with_fate}
use Rattle.qa_sent_packets.specs.declared.fate.Fate.TheVariants.{Acknowledged}
use Rattle.qa_sent_packets.specs.declared.packet.SentPacket.{SentPacket}
use Rattle.qa_sent_packets.proofs.Acknowledged.{cover_written}
use Rattle.qa_sent_packets.proofs.Counted.{count_left, count_removed}
use Rattle.qa_sent_packets.proofs.Entries.{found_at, found_here, in_range, removed_length}
use Rattle.qa_sent_packets.proofs.Newly.{new_written}
use Rattle.qa_sent_packets.proofs.Sums.{entry_closed, weighed}
use Rattle.qa_sent_packets.proofs.queue.PacketQueue.cover_one.Goals as goal

pub overflow_sub-at : goal.overflow_sub-at
overflow_sub-at c = (found_at c.args.space c.args.self.now.dropped c.args.number c.args.place c.args.self.now.packets.items c.args.space_packets.now.unacknowledged.entries c.requires.indexed.entries c.requires.there).0

pub index_mut-packet-requires : goal.index_mut-packet-requires
index_mut-packet-requires c =
    let f = (found_at c.args.space c.args.self.now.dropped c.args.number c.args.place c.args.self.now.packets.items c.args.space_packets.now.unacknowledged.entries c.requires.indexed.entries c.requires.there).1 in
    let len : deque_len c.args.self.now.packets ≡ length c.args.self.now.packets.items = c.args.self.now.packets.ok.0 in
    omega (arith, f.within, len)

pub take_off-requires-clause-in_flight : goal.take_off-requires-clause-in_flight
take_off-requires-clause-in_flight c =
    let at = c.args.place - c.args.self.now.dropped in
    let ps = c.args.self.now.packets.items in
    let f = (found_at c.args.space c.args.self.now.dropped c.args.number c.args.place ps c.args.space_packets.now.unacknowledged.entries c.requires.indexed.entries c.requires.there).1 in
    (weighed c.args.space c.args.self.now.dropped ps c.args.space_packets.now at c.index_mut-packet.result.now c.requires.indexed f.within c.index_mut-packet.ensures.value
    (found_here c.args.space c.args.self.now.dropped c.args.number at ps c.index_mut-packet.result.now f c.index_mut-packet.ensures.value)).bytes

pub take_off-requires-clause-awaiting : goal.take_off-requires-clause-awaiting
take_off-requires-clause-awaiting c =
    let at = c.args.place - c.args.self.now.dropped in
    let ps = c.args.self.now.packets.items in
    let f = (found_at c.args.space c.args.self.now.dropped c.args.number c.args.place ps c.args.space_packets.now.unacknowledged.entries c.requires.indexed.entries c.requires.there).1 in
    (weighed c.args.space c.args.self.now.dropped ps c.args.space_packets.now at c.index_mut-packet.result.now c.requires.indexed f.within c.index_mut-packet.ensures.value
    (found_here c.args.space c.args.self.now.dropped c.args.number at ps c.index_mut-packet.result.now f c.index_mut-packet.ensures.value)).awaiting

pub returns-clause-packets : goal.returns-clause-packets
returns-clause-packets c = λ lo hi low high.
    let at = c.args.place - c.args.self.now.dropped in
    let ps = c.args.self.now.packets.items in
    let p = c.index_mut-packet.result.now in
    let f = (found_at c.args.space c.args.self.now.dropped c.args.number c.args.place ps c.args.space_packets.now.unacknowledged.entries c.requires.indexed.entries c.requires.there).1 in
    cover_written c.args.space lo hi ps at p c.index_mut-packet.ensures.value (f.waits p c.index_mut-packet.ensures.value)
    (ap (is_between lo hi) (f.number p c.index_mut-packet.ensures.value) ∙ in_range lo hi c.args.number low high)

pub returns-clause-fewer : goal.returns-clause-fewer
returns-clause-fewer c =
    let less = removed_length c.args.number c.args.space_packets.now.unacknowledged.entries (c.args.number, c.args.place) c.requires.there in
    let is : length c.remove.new.self.entries ≡ length (remove_entry (is_at (nat_cmp c.args.number)) c.args.space_packets.now.unacknowledged.entries) =
    ap length (c.remove.ensures.entries ∙ ap (remove_entry (is_at (nat_cmp c.args.number))) c.take_off.ensures.entries) in
    omega (arith, less, is)

pub returns-clause-indexed : goal.returns-clause-indexed
returns-clause-indexed c =
    let at = c.args.place - c.args.self.now.dropped in
    let ps = c.args.self.now.packets.items in
    let p = c.index_mut-packet.result.now in
    let f = (found_at c.args.space c.args.self.now.dropped c.args.number c.args.place ps c.args.space_packets.now.unacknowledged.entries c.requires.indexed.entries c.requires.there).1 in
    entry_closed c.args.space c.args.self.now.dropped ps c.args.space_packets.now _ c.args.number at p Acknowledged refl c.requires.indexed f c.index_mut-packet.ensures.value
    (c.remove.ensures.entries ∙ ap (remove_entry (is_at (nat_cmp c.args.number))) c.take_off.ensures.entries)
    c.take_off.ensures.in_flight c.take_off.ensures.awaiting

pub returns-clause-new : goal.returns-clause-new
returns-clause-new c = λ lo hi first.
    let at = c.args.place - c.args.self.now.dropped in
    let ps = c.args.self.now.packets.items in
    let p = c.index_mut-packet.result.now in
    let low = (found_at c.args.space c.args.self.now.dropped c.args.number c.args.place ps c.args.space_packets.now.unacknowledged.entries c.requires.indexed.entries c.requires.there).0 in
    let there : c.args.place ≡ c.args.self.now.dropped + at = omega (arith, low) in
    let opened : List SentPacket = filter (λ (q : SentPacket). is_open q.fate) (p ∷ []) in
    let after = filter (is_new_in c.args.space lo hi) (set ps at (with_fate Acknowledged p)) in
    ap (λ xs. xs ++ after) c.push_open.ensures.items
    ∙ (append_assoc c.args.found.now.items opened after
    ∙ ap (λ ys. c.args.found.now.items ++ ys)
    (new_written c.args.space c.args.self.now.dropped lo hi c.args.number c.args.place at ps p (ap (first_between lo hi) (sym c.requires.indexed.entries) ∙ first) there c.index_mut-packet.ensures.value))

pub returns-clause-counted : goal.returns-clause-counted
returns-clause-counted c = λ lo hi low high.
    ap (λ es. count_in lo hi es + 1) (c.remove.ensures.entries ∙ ap (remove_entry (is_at (nat_cmp c.args.number))) c.take_off.ensures.entries)
    ∙ count_removed c.args.number lo hi c.args.space_packets.now.unacknowledged.entries (c.args.number, c.args.place) c.requires.there low high

pub returns-clause-left : goal.returns-clause-left
returns-clause-left c = λ lo hi.
    let is = ap (count_in lo hi) (c.remove.ensures.entries ∙ ap (remove_entry (is_at (nat_cmp c.args.number))) c.take_off.ensures.entries) in
    let fewer = count_left (is_at (nat_cmp c.args.number)) lo hi c.args.space_packets.now.unacknowledged.entries in
    omega (arith, is, fewer)
