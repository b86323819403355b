-- What is known before an event of a tolerated run: what it sends is kept behind all other packets, and nothing is owed if it is no Lost line.
use Rattle.std.proofs.Common.{◌≡◌, ◌<◌, ◌+◌, ℕ, List, ◌∷◌, length, arith, subst}
use Rattle.std.specs.List.{AllByRecursion}
use Rattle.std.specs.Prelude.{min}
use Rattle.qa_base.specs.values.Limits.{max_lines}
use Rattle.qa_base.specs.declared.event.Event.{Event}
use Rattle.qa_base.specs.declared.event.Event.TheVariants.{Sent}
use Rattle.qa_base.specs.declared.space.Permission.{Permission}
use Rattle.qa_base.specs.machine.Breaches.{is_loss_owed}
use Rattle.qa_base.specs.machine.Loss.{owed}
use Rattle.qa_base.specs.machine.Packets.{is_some_packet}
use Rattle.qa_base.specs.machine.Violations.{IsToleratedRun}
use Rattle.qa_base.specs.values.PerSpace.{of_space}
use Rattle.qa_base.specs.values.Settings.{Settings}
use Rattle.qa_sender.proofs.Dropping.{held_are_few}
use Rattle.qa_sender.proofs.Events.{sent_above, sent_last, settled_before}
use Rattle.qa_sender.specs.Following.{as_sent, IsNext}
use Rattle.qa_sent_packets.specs.Held.{Held, IsBefore}
use Rattle.qa_sent_packets.specs.Owing.{NoneOwed}
use Rattle.qa_sent_packets.specs.declared.packet.SentPacket.{SentPacket}

-- it stands at its place
pub at_its_place : (events : ℕ) (h : List Event) (packet : SentPacket) → packet.place ≡ min events max_lines → events ≡ length h → length h < max_lines → packet.place ≡ length h
at_its_place events h packet placed counted few = omega (arith, placed, counted, few)

pub next_is_last : (events : ℕ) (held : Held) (e : Event) → IsNext events held e → (packet : SentPacket) (permission : Permission) → packet.place ≡ min events max_lines
    → e ≡ Sent (as_sent packet permission) → AllByRecursion (λ q. IsBefore packet q) held.packets
next_is_last events held e next packet permission placed is =
    let place : packet.place ≡ length next.history = at_its_place events next.history packet placed next.counted next.run.few in
    sent_last next.header next.history packet permission place (subst (λ (x : Event). IsToleratedRun next.header (x ∷ next.history)) is next.run.run) held next.stands

pub next_is_above : (events : ℕ) (held : Held) (e : Event) → IsNext events held e → (packet : SentPacket) (permission : Permission)
    → e ≡ Sent (as_sent packet permission) → AllByRecursion (λ q. q.number < packet.number) (of_space packet.space held.strays)
next_is_above events held e next packet permission is =
    sent_above next.header next.history packet permission (subst (λ (x : Event). IsToleratedRun next.header (x ∷ next.history)) is next.run.run) held next.stands

pub next_has_room : (events : ℕ) (held : Held) (e : Event) → IsNext events held e → held.dropped + length held.packets < 4294967295
next_has_room events held e next = omega (arith, held_are_few held next.header next.history next.stands, next.run.few)

-- of such an event, known by an equation, the second premise is `λ c h. refl`
pub settled_next : (events : ℕ) (held : Held) (e x : Event) → e ≡ x → ((c : Settings) (h : List Event) → is_loss_owed c h x ≡ is_some_packet (owed c h)) → IsNext events held e → NoneOwed held.packets
settled_next events held e x is asks next =
    let at : IsNext events held x = subst (λ (y : Event). IsNext events held y) is next in
    settled_before at.header x at.history at.run.run (asks at.header at.history) held at.stands
