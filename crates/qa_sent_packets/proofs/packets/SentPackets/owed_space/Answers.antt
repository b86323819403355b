use Rattle.std.proofs.Common.{◌≡◌, ◌∙◌, arith, true, Some, None, count_by, sym, ap}
use Rattle.std.specs.Prelude.{if◌then◌else◌, nat_lt}
use Rattle.std.proofs.lemmas.Bool.{lt-ltb}
use Rattle.qa_sent_packets.specs.Fates.{is_owed}
use Rattle.qa_sent_packets.specs.Held.{Held}
use Rattle.qa_sent_packets.specs.Owing.{first_space}
use Rattle.qa_sent_packets.specs.Walks.{owed_of}
use Rattle.qa_sent_packets.proofs.Owed.{first_owed}
use Rattle.qa_sent_packets.proofs.packets.SentPackets.owed_space.Goals as goal

pub returns-then-self-eq0 : goal.returns-then-self-eq0
returns-then-self-eq0 c =
    let losses = c.self.inside.losses in
    let none : count_by (λ p. is_owed p.fate) c.self.inside.queue.packets.items ≡ 0 = sym c.self.invariant.owed.count ∙ c.if-self-eq0.true in
    sym (sym (ap (λ (h : Held). first_space (owed_of h.packets)) c.self.view_is)
    ∙ (first_owed losses.space c.self.inside.queue.packets.items c.self.invariant.owed.of_space
    ∙ ap (λ n. if nat_lt 0 n then Some losses.space else None) none))

pub returns : goal.returns
returns c =
    let losses = c.self.inside.losses in
    let some : nat_lt 0 losses.count ≡ true = lt-ltb 0 losses.count (omega (arith, c.if-self-eq0.false)) in
    sym (sym (ap (λ (h : Held). first_space (owed_of h.packets)) c.self.view_is)
    ∙ (first_owed losses.space c.self.inside.queue.packets.items c.self.invariant.owed.of_space
    ∙ (ap (λ n. if nat_lt 0 n then Some losses.space else None) (sym c.self.invariant.owed.count)
    ∙ ap (λ b. if b then Some losses.space else None) some)))
