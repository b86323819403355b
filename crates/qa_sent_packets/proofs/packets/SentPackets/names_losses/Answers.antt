use Rattle.std.proofs.Common.{◌≡◌, ◌∙◌, ◌↔◌, ℕ, List, [], Bool, true, false, refl, sym, ap, subst}
use Rattle.std.specs.Prelude.{IsTrue, slice_range}
use Rattle.std.proofs.lemmas.List.{nil_from_length}
use Rattle.std.specs.VecDeque.Iter.{deque_iter_rest}
use Rattle.qa_base.specs.machine.Numbers.{is_in, names_between}
use Rattle.qa_base.specs.values.Events.{is_named}
use Rattle.qa_sent_packets.specs.Free.{free_numbers, nameable_numbers}
use Rattle.qa_sent_packets.specs.Held.{AreOrdered, Held}
use Rattle.qa_sent_packets.specs.Naming.{AreNext}
use Rattle.qa_sent_packets.specs.Walks.{owed_numbers}
use Rattle.qa_sent_packets.specs.declared.packet.SentPacket.{SentPacket}
use Rattle.qa_sent_packets.proofs.Numbers.{names_by_walk, owed_or_free, owed_rise}
use Rattle.qa_sent_packets.proofs.Owed.{numbers_of_part}
use Rattle.qa_sent_packets.proofs.packets.SentPackets.names_losses.Goals as goal

pub loop-packet-init : goal.loop-packet-init
loop-packet-init c =
    let free = c.args.free in
    let spans = c.args.spans.now in
    let ps = c.args.self.now.packets in
    let part = c.owed_part.result in
    let names = IsTrue (names_between spans (owed_numbers ps) (nameable_numbers free ps)) in
    let rest : deque_iter_rest c.into_iter-packet-iterator.result ≡ slice_range ps part.start part.end =
    ap deque_iter_rest c.into_iter-packet-iterator.ensures.into_iter_gives ∙ (c.range-packet-items.ensures.rest ∙ ap (λ (h : Held). slice_range h.packets part.start part.end) c.self.view_is) in
    let numbers : owed_numbers ps ≡ owed_numbers (deque_iter_rest c.into_iter-packet-iterator.result) = numbers_of_part ps part.start part.end c.owed_part.ensures ∙ ap owed_numbers (sym rest) in
    let rising = owed_rise free.space ps (subst (λ (h : Held). AreOrdered h.packets) c.self.view_is c.self.invariant.ordered) c.requires in
    let law = names_by_walk spans (owed_numbers ps) (nameable_numbers free ps) (is_in (free_numbers free ps)) c.start-named.ensures.ranges rising (owed_or_free free ps) in
    record {
      walk = c.start-named.ensures.walk;
      next = subst (λ (ns : List ℕ). AreNext (is_named spans) (is_in (free_numbers free ps)) c.start-named.result.from ns ↔ names) numbers
          (subst (λ (from : ℕ). AreNext (is_named spans) (is_in (free_numbers free ps)) from (owed_numbers ps) ↔ names) (sym c.start-named.ensures.from) law);
    }

ends : {A : Type 0} (a b : Bool) → (IsTrue a ↔ A) → (A ↔ IsTrue b) → a ≡ b
ends true b by law = sym (law.0 (by.0 refl))
ends false true by law = by.1 (law.1 refl)
ends false false by law = refl

pub returns : goal.returns
returns c =
    let free = c.args.free in
    let spans = c.args.spans.now in
    let ps = c.args.self.now.packets in
    let none : deque_iter_rest c.loop-packet.packet-iterator ≡ [] = nil_from_length (deque_iter_rest c.loop-packet.packet-iterator) c.in-None.ensures.steps.0 in
    ends c.are_free.result (names_between spans (owed_numbers ps) (nameable_numbers free ps)) c.are_free.ensures
    (subst (λ (qs : List SentPacket). AreNext (is_named spans) (is_in (free_numbers free ps)) c.loop-packet.named.from (owed_numbers qs) ↔ IsTrue (names_between spans (owed_numbers ps) (nameable_numbers free ps))) none c.loop-packet.invariant.next)
