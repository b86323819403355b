use Rattle.std.proofs.Common.{◌≡◌, ◌∙◌, true, false, sym, ap, ◌&&◌, rules}
use Rattle.std.specs.List.{list_any}
use Rattle.std.specs.Prelude.{nat_lt}
use Rattle.std.proofs.lemmas.Bool.{lt-ltb, le-ltb}
use Rattle.qa_base.specs.values.Events.{is_space}
use Rattle.qa_sent_packets.specs.Fates.{is_owed_in}
use Rattle.qa_sent_packets.specs.Held.{Held}
use Rattle.qa_sent_packets.proofs.Owed.{any_owed}
use Rattle.qa_sent_packets.proofs.packets.SentPackets.owes_in.Goals as goal

pub returns-then-self-gt0 : goal.returns-then-self-gt0
returns-then-self-gt0 c =
    let losses = c.self.inside.losses in
    let some : nat_lt 0 losses.count ≡ true = lt-ltb 0 losses.count c.if-self-gt0.true in
    let same : c.eq.result ≡ is_space c.args.space losses.space = search rules in
    same
    ∙ (ap (λ b. b && is_space c.args.space losses.space) (sym some)
    ∙ (ap (λ n. nat_lt 0 n && is_space c.args.space losses.space) c.self.invariant.owed.count
    ∙ (sym (any_owed c.args.space losses.space c.self.inside.queue.packets.items c.self.invariant.owed.of_space)
    ∙ ap (λ (h : Held). list_any (is_owed_in c.args.space) h.packets) c.self.view_is)))

pub returns-else-self-gt0 : goal.returns-else-self-gt0
returns-else-self-gt0 c =
    let losses = c.self.inside.losses in
    let none : nat_lt 0 losses.count ≡ false = le-ltb 0 losses.count c.if-self-gt0.false in
    none
    ∙ (ap (λ b. b && is_space c.args.space losses.space) (sym none)
    ∙ (ap (λ n. nat_lt 0 n && is_space c.args.space losses.space) c.self.invariant.owed.count
    ∙ (sym (any_owed c.args.space losses.space c.self.inside.queue.packets.items c.self.invariant.owed.of_space)
    ∙ ap (λ (h : Held). list_any (is_owed_in c.args.space) h.packets) c.self.view_is)))
