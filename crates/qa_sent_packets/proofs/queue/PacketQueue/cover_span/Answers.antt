use Rattle.std.proofs.Common.{◌≡◌, ◌∙◌, ◌++◌, None, filter, map, sym, ap, subst, arith}
use Rattle.qa_sent_packets.specs.Covering.{AreClear, covered_in, first_between, is_new_in}
use Rattle.qa_sent_packets.proofs.Acknowledged.{nothing_left}
use Rattle.qa_sent_packets.proofs.Counted.{count_removed}
use Rattle.qa_sent_packets.proofs.Entries.{first_alone}
use Rattle.qa_sent_packets.proofs.Newly.{nothing_new, with_none}
use Rattle.qa_sent_packets.proofs.Rising.{clear_none, first_in, none_from, none_in}
use Rattle.qa_sent_packets.proofs.queue.PacketQueue.cover_span.Goals as goal

pub cover_one-requires-clause-there : goal.cover_one-requires-clause-there
cover_one-requires-clause-there c =
    let lo = c.get-lo.result in
    let hi = c.get-hi.result in
    let es = c.loop-number.space_packets.unacknowledged.entries in
    let high = c.if-hi-number.false in
    (first_alone lo hi es c.in-Some.number c.in-Some.place (first_in lo hi es (c.in-Some.number, c.in-Some.place) (sym c.first_from.ensures.first ∙ c.in-Some.is) (omega (arith, high)))).0

pub cover_one-requires-clause-room : goal.cover_one-requires-clause-room
cover_one-requires-clause-room c =
    let lo = c.get-lo.result in
    let hi = c.get-hi.result in
    let es = c.loop-number.space_packets.unacknowledged.entries in
    let high = c.if-hi-number.false in
    let at = first_alone lo hi es c.in-Some.number c.in-Some.place (first_in lo hi es (c.in-Some.number, c.in-Some.place) (sym c.first_from.ensures.first ∙ c.in-Some.is) (omega (arith, high))) in
    let some = count_removed c.in-Some.number lo hi es (c.in-Some.number, c.in-Some.place) at.0 at.1 at.2 in
    let fits = c.loop-number.invariant.fits in
    omega (arith, some, fits)

pub loop-number-preserved : goal.loop-number-preserved
loop-number-preserved c =
    let lo = c.get-lo.result in
    let hi = c.get-hi.result in
    let es = c.loop-number.space_packets.unacknowledged.entries in
    let high = c.if-hi-number.false in
    let found = first_in lo hi es (c.in-Some.number, c.in-Some.place) (sym c.first_from.ensures.first ∙ c.in-Some.is) (omega (arith, high)) in
    let at = first_alone lo hi es c.in-Some.number c.in-Some.place found in
    record {
      dropped = c.cover_one.ensures.dropped ∙ c.loop-number.invariant.dropped;
      indexed = c.cover_one.ensures.indexed;
      packets = c.cover_one.ensures.packets lo hi at.1 at.2 ∙ c.loop-number.invariant.packets;
      new = c.cover_one.ensures.new lo hi found ∙ c.loop-number.invariant.new;
      fits = (
          let before = c.loop-number.invariant.fits in
          let rest = c.cover_one.ensures.counted lo hi at.1 at.2 in
          omega (arith, before, rest, c.cover_one.ensures.len, c.cover_one.ensures.capacity));
      room = (
          let before = c.loop-number.invariant.room in
          let rest = c.cover_one.ensures.counted lo hi at.1 at.2 in
          omega (arith, before, rest, c.cover_one.ensures.len));
      left = λ a b. (let before = c.loop-number.invariant.left a b in let fewer = c.cover_one.ensures.left a b in omega (arith, before, fewer));
      capacity = c.cover_one.ensures.capacity ∙ c.loop-number.invariant.capacity;
      next = c.cover_one.ensures.next ∙ c.loop-number.invariant.next;
    }

-- ---- at an entry above the span

pub returns-then-hi-number-clause-packets : goal.returns-then-hi-number-clause-packets
returns-then-hi-number-clause-packets c =
    let s = c.args.space in
    let lo = c.get-lo.result in
    let hi = c.get-hi.result in
    let none : first_between lo hi c.loop-number.space_packets.unacknowledged.entries ≡ None = none_in lo hi c.in-Some.number c.loop-number.space_packets.unacknowledged.entries c.in-Some.ensures.clear c.if-hi-number.true in
    sym (nothing_left s c.loop-number.self.dropped lo hi c.loop-number.self.packets.items (ap (first_between lo hi) (sym c.loop-number.invariant.indexed.entries) ∙ none))
    ∙ (c.loop-number.invariant.packets
    ∙ (ap (λ n. map (covered_in s n hi) c.args.self.now.packets.items) (c.get-lo.ensures.value ∙ c.lo.ensures.value)
    ∙ ap (λ n. map (covered_in s c.args.span.0 n) c.args.self.now.packets.items) (c.get-hi.ensures.value ∙ c.hi.ensures.value)))

pub returns-then-hi-number-clause-new : goal.returns-then-hi-number-clause-new
returns-then-hi-number-clause-new c =
    let s = c.args.space in
    let lo = c.get-lo.result in
    let hi = c.get-hi.result in
    let before = c.args.found.now.items in
    let none : first_between lo hi c.loop-number.space_packets.unacknowledged.entries ≡ None = none_in lo hi c.in-Some.number c.loop-number.space_packets.unacknowledged.entries c.in-Some.ensures.clear c.if-hi-number.true in
    let nothing = nothing_new s c.loop-number.self.dropped lo hi c.loop-number.self.packets.items (ap (first_between lo hi) (sym c.loop-number.invariant.indexed.entries) ∙ none) in
    sym (with_none c.loop-number.found.items (filter (is_new_in s lo hi) c.loop-number.self.packets.items) nothing)
    ∙ (c.loop-number.invariant.new
    ∙ (ap (λ n. before ++ filter (is_new_in s n hi) c.args.self.now.packets.items) (c.get-lo.ensures.value ∙ c.lo.ensures.value)
    ∙ ap (λ n. before ++ filter (is_new_in s c.args.span.0 n) c.args.self.now.packets.items) (c.get-hi.ensures.value ∙ c.hi.ensures.value)))

-- ---- where there is no more

pub returns-clause-packets : goal.returns-clause-packets
returns-clause-packets c =
    let s = c.args.space in
    let lo = c.get-lo.result in
    let hi = c.get-hi.result in
    let none : first_between lo hi c.loop-number.space_packets.unacknowledged.entries ≡ None = none_from lo hi c.loop-number.space_packets.unacknowledged.entries (sym c.first_from.ensures.first ∙ c.in_default.is) in
    sym (nothing_left s c.loop-number.self.dropped lo hi c.loop-number.self.packets.items (ap (first_between lo hi) (sym c.loop-number.invariant.indexed.entries) ∙ none))
    ∙ (c.loop-number.invariant.packets
    ∙ (ap (λ n. map (covered_in s n hi) c.args.self.now.packets.items) (c.get-lo.ensures.value ∙ c.lo.ensures.value)
    ∙ ap (λ n. map (covered_in s c.args.span.0 n) c.args.self.now.packets.items) (c.get-hi.ensures.value ∙ c.hi.ensures.value)))

pub returns-clause-new : goal.returns-clause-new
returns-clause-new c =
    let s = c.args.space in
    let lo = c.get-lo.result in
    let hi = c.get-hi.result in
    let before = c.args.found.now.items in
    let none : first_between lo hi c.loop-number.space_packets.unacknowledged.entries ≡ None = none_from lo hi c.loop-number.space_packets.unacknowledged.entries (sym c.first_from.ensures.first ∙ c.in_default.is) in
    let nothing = nothing_new s c.loop-number.self.dropped lo hi c.loop-number.self.packets.items (ap (first_between lo hi) (sym c.loop-number.invariant.indexed.entries) ∙ none) in
    sym (with_none c.loop-number.found.items (filter (is_new_in s lo hi) c.loop-number.self.packets.items) nothing)
    ∙ (c.loop-number.invariant.new
    ∙ (ap (λ n. before ++ filter (is_new_in s n hi) c.args.self.now.packets.items) (c.get-lo.ensures.value ∙ c.lo.ensures.value)
    ∙ ap (λ n. before ++ filter (is_new_in s c.args.span.0 n) c.args.self.now.packets.items) (c.get-hi.ensures.value ∙ c.hi.ensures.value)))

pub returns-clause-clear : goal.returns-clause-clear
returns-clause-clear c =
    let es = c.loop-number.space_packets.unacknowledged.entries in
    subst (λ n. AreClear n _ es) (c.get-lo.ensures.value ∙ c.lo.ensures.value) (clear_none c.get-lo.result _ es (sym c.first_from.ensures.first ∙ c.in_default.is))
