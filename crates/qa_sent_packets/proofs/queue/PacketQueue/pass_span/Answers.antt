use Rattle.std.proofs.Common.{◌≡◌, ◌<◌, ◌∙◌, None, filter, refl, sym, ap, arith}
use Rattle.qa_sent_packets.specs.Covering.{first_between, is_new_in}
use Rattle.qa_sent_packets.proofs.Acknowledged.{nothing_left}
use Rattle.qa_sent_packets.proofs.Newly.{nothing_new, with_none}
use Rattle.qa_sent_packets.proofs.Rising.{clear_from, none_in}
use Rattle.qa_sent_packets.proofs.queue.PacketQueue.pass_span.Goals as goal

pub returns-then-hi-least : goal.returns-then-hi-least
returns-then-hi-least c =
    let s = c.args.space in
    let d = c.args.self.now.dropped in
    let lo = c.args.span.0 in
    let hi = c.args.span.1 in
    let ps = c.args.self.now.packets.items in
    let below : hi < c.args.least = (let less = c.if-hi-least.true in let is = c.get-hi.ensures.value ∙ c.hi.ensures.value in omega (arith, less, is)) in
    let none : first_between lo hi c.args.space_packets.now.unacknowledged.entries ≡ None = none_in lo hi c.args.least c.args.space_packets.now.unacknowledged.entries c.requires.clear below in
    let held = ap (first_between lo hi) (sym c.requires.indexed.entries) ∙ none in
    record {
      dropped = refl;
      order = c.hi.ensures.order;
      packets = sym (nothing_left s d lo hi ps held);
      new = sym (with_none c.args.found.now.items (filter (is_new_in s lo hi) ps) (nothing_new s d lo hi ps held));
      room = omega arith;
      left = λ lo hi. omega arith;
      capacity = refl;
      indexed = c.requires.indexed;
      next = refl;
      clear = λ n above. clear_from lo n c.args.least c.args.space_packets.now.unacknowledged.entries (omega (arith, above, c.hi.ensures.order)) c.requires.clear;
    }

pub returns-clause-clear : goal.returns-clause-clear
returns-clause-clear c = λ n above.
    clear_from c.args.span.0 n c.cover_span.result c.cover_span.new.space_packets.unacknowledged.entries (omega (arith, above, c.hi.ensures.order)) c.cover_span.ensures.clear
