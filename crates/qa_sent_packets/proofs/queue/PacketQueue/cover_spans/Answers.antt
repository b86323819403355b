use Rattle.std.proofs.Common.{◌≡◌, ◌≤◌, ◌<◌, ◌∙◌, ◌+◌, ℕ, List, [], ◌∷◌, ◌++◌, append_assoc, drop, filter, length, take, sym, refl, ap, arith, subst}
use Rattle.std.specs.List.{AllByRecursion}
use Rattle.std.specs.Vec.{vec_capacity, vec_len}
use Rattle.qa_sent_packets.specs.Covering.{HasRoom, NamesNone, is_new_in}
use Rattle.qa_sent_packets.specs.Fates.{is_new}
use Rattle.qa_sent_packets.specs.Held.{unacknowledged_in}
use Rattle.qa_sent_packets.specs.Naming.{turned}
use Rattle.qa_sent_packets.proofs.Acknowledged.{cover_next, take_more}
use Rattle.qa_sent_packets.proofs.Counted.{named_behind, room_here, room_left}
use Rattle.qa_sent_packets.proofs.Newly.{new_apart, next_above, with_none}
use Rattle.qa_sent_packets.proofs.Opened.{ends_below, new_more}
use Rattle.qa_sent_packets.proofs.Parts.{each_more, each_weaker}
use Rattle.qa_sent_packets.proofs.Passing.{covers_none, finds_none}
use Rattle.qa_sent_packets.proofs.Rising.{clear_all}
use Rattle.qa_sent_packets.proofs.Stretches.{left_from, length_turned}
use Rattle.qa_sent_packets.proofs.queue.PacketQueue.cover_spans.Goals as goal

pub loop-at-init : goal.loop-at-init
loop-at-init c =
    let s = c.args.space in
    let ps = c.args.self.now.packets.items in
    let front = take c.passed-passed.result (turned c.args.falling c.args.spans.now) in
    let none : AllByRecursion (NamesNone (unacknowledged_in s c.args.self.now.dropped ps)) front =
    subst (λ (es : List (ℕ × ℕ)). AllByRecursion (NamesNone es) front) c.requires.indexed.entries c.passed-passed.ensures.none in record {
      dropped = refl;
      indexed = c.requires.indexed;
      packets = sym (covers_none s c.args.self.now.dropped front ps none);
      new = sym (with_none c.args.found.now.items (filter (is_new s front) ps) (finds_none s c.args.self.now.dropped front ps none));
      forward = each_weaker (NamesNone (unacknowledged_in s c.args.self.now.dropped ps)) (λ (r : ℕ × ℕ). r.0 ≤ r.1) (λ r names. names.0) front none;
      clear = λ r within is. clear_all r.0 c.args.space_packets.now.unacknowledged.entries;
      room = (let fewer = named_behind c.passed-passed.result c.args.space_packets.now.unacknowledged.entries (turned c.args.falling c.args.spans.now) in let fits = c.requires.room in omega (arith, fewer, fits));
      next = refl;
    }

pub pass_span-least-requires-clause-clear : goal.pass_span-least-requires-clause-clear
pass_span-least-requires-clause-clear c =
    let spans = turned c.args.falling c.args.spans.now in
    let within : c.loop-at.at < length spans = subst (λ count. c.loop-at.at < count) (sym (length_turned c.args.falling c.args.spans.now)) c.loop-at-test.true in
    c.loop-at.invariant.clear c.nth-span.result within c.nth-span.ensures

pub pass_span-least-requires-clause-room : goal.pass_span-least-requires-clause-room
pass_span-least-requires-clause-room c =
    let spans = turned c.args.falling c.args.spans.now in
    let i = c.loop-at.at in
    let at : drop i spans ≡ c.nth-span.result ∷ drop (i + 1) spans = left_from c.args.falling c.args.spans.now i c.nth-span.result c.loop-at-test.true c.nth-span.ensures in
    let here : HasRoom (vec_len c.loop-at.found) (vec_capacity c.loop-at.found) c.loop-at.space_packets.unacknowledged.entries (c.nth-span.result ∷ drop (i + 1) spans) = subst (HasRoom (vec_len c.loop-at.found) (vec_capacity c.loop-at.found) c.loop-at.space_packets.unacknowledged.entries) at c.loop-at.invariant.room in
    room_here (vec_len c.loop-at.found) (vec_capacity c.loop-at.found) c.loop-at.space_packets.unacknowledged.entries c.nth-span.result (drop (i + 1) spans) here

pub loop-at-preserved : goal.loop-at-preserved
loop-at-preserved c =
    let i = c.loop-at.at in
    let s = c.args.space in
    let spans = turned c.args.falling c.args.spans.now in
    let span = c.nth-span.result in
    let ps = c.args.self.now.packets.items in
    let within : i < length spans = subst (λ count. i < count) (sym (length_turned c.args.falling c.args.spans.now)) c.loop-at-test.true in
    let is = c.nth-span.ensures in
    let below = ends_below spans i span c.requires.apart c.loop-at.invariant.forward within is in
    let step : take (i + 1) spans ≡ take i spans ++ span ∷ [] = take_more i spans span within is in
    record {
      dropped = c.pass_span-least.ensures.dropped ∙ c.loop-at.invariant.dropped;
      indexed = c.pass_span-least.ensures.indexed;
      packets = cover_next s spans i span.0 span.1 span ps c.loop-at.self.packets.items c.pass_span-least.new.self.packets.items within is refl refl c.loop-at.invariant.packets c.pass_span-least.ensures.packets;
      new = c.pass_span-least.ensures.new
          ∙ (ap (λ xs. xs ++ filter (is_new_in s span.0 span.1) c.loop-at.self.packets.items) c.loop-at.invariant.new
          ∙ (append_assoc c.args.found.now.items (filter (is_new s (take i spans)) ps) (filter (is_new_in s span.0 span.1) c.loop-at.self.packets.items)
          ∙ ap (λ qs. c.args.found.now.items ++ qs)
          (ap (λ qs. filter (is_new s (take i spans)) ps ++ filter (is_new_in s span.0 span.1) qs) c.loop-at.invariant.packets
          ∙ (ap (λ qs. filter (is_new s (take i spans)) ps ++ qs) (new_apart s span.0 span.1 (take i spans) ps below)
          ∙ (new_more s (take i spans) span ps below c.requires.ordered
          ∙ ap (λ rs. filter (is_new s rs) ps) (sym step))))));
      forward = each_more (λ (r : ℕ × ℕ). r.0 ≤ r.1) spans i span within is c.pass_span-least.ensures.order c.loop-at.invariant.forward;
      clear = λ r inside at. c.pass_span-least.ensures.clear r.0 (next_above spans i span r c.requires.apart inside is at);
      room = (
          let at : drop i spans ≡ span ∷ drop (i + 1) spans = left_from c.args.falling c.args.spans.now i span c.loop-at-test.true is in
          let here : HasRoom (vec_len c.loop-at.found) (vec_capacity c.loop-at.found) c.loop-at.space_packets.unacknowledged.entries (span ∷ drop (i + 1) spans) = subst (HasRoom (vec_len c.loop-at.found) (vec_capacity c.loop-at.found) c.loop-at.space_packets.unacknowledged.entries) at c.loop-at.invariant.room in
          rw c.pass_span-least.ensures.capacity
          (room_left (vec_len c.loop-at.found) (vec_len c.pass_span-least.new.found) (vec_capacity c.loop-at.found) c.loop-at.space_packets.unacknowledged.entries c.pass_span-least.new.space_packets.unacknowledged.entries span (drop (i + 1) spans)
          c.pass_span-least.ensures.room c.pass_span-least.ensures.left here));
      next = c.pass_span-least.ensures.next ∙ c.loop-at.invariant.next;
    }
