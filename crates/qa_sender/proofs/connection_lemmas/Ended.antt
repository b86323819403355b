-- What an event makes of the estimate, and whether the peer has validated the sender's address.
use Rattle.std.proofs.Common.{◌≡◌, List, ◌∷◌, Bool, refl, ap}
use Rattle.qa_base.specs.declared.event.Event.{Event}
use Rattle.qa_base.specs.declared.event.Ack.{Ack as Acknowledgment}
use Rattle.qa_base.specs.declared.event.Event.TheVariants.{Ack}
use Rattle.qa_base.specs.machine.Estimates.{rtt, sampled, with_sample_of}
use Rattle.qa_base.specs.machine.Handshake.{is_confirmed}
use Rattle.qa_base.specs.machine.Handshake as handshakes
use Rattle.qa_base.specs.machine.Loss.{is_persistent as persists}
use Rattle.qa_base.specs.machine.Packets.{greatest}
use Rattle.qa_base.specs.machine.Rtt.{Estimate, after_congestion, updated}
use Rattle.qa_base.specs.values.Settings.{Settings}
use Rattle.qa_sender.specs.connection.Handshaking.{handshake_after, is_validated}
use Rattle.qa_sender.specs.connection.Known.{acknowledged_by}
use Rattle.qa_sender.specs.connection.Steps.{limited_delay, sample_by}
use Rattle.qa_sender.specs.declared.connection.handshake.HandshakeState.{HandshakeState}
use Rattle.qa_sender.proofs.connection_lemmas.Told.{sample_is}
use Rattle.qa_sent_packets.specs.declared.packet.SentPacket.{SentPacket}

-- the estimate with the sample of an acknowledgment
pub sampled_of : (c : Settings) (h : List Event) (ack : Acknowledgment) (header : Settings) (confirmed : Bool) (ps : List SentPacket) (before : Estimate)
    → header ≡ c → confirmed ≡ is_confirmed h → ps ≡ acknowledged_by c (Ack ack) h → before ≡ rtt c h
    → updated header.options.latest_rtt_less_delay before (sample_by header.options.sample_eliciting_only ack.time (limited_delay header.max_ack_delay confirmed ack.delay) (greatest ack.ranges) ps) ≡ sampled c (Ack ack ∷ h)
sampled_of c h ack header confirmed ps before is_header is_confirmed_then are is =
    rw (is_header, is_confirmed_then, are, is) (ap (updated c.options.latest_rtt_less_delay (rtt c h)) (sample_is c h ack))

-- the estimate after the event
pub rtt_of : (c : Settings) (e : Event) (h : List Event) (header : Settings) (is_persistent : Bool) (begun : Estimate)
    → header ≡ c → is_persistent ≡ persists c (e ∷ h) → begun ≡ with_sample_of c (e ∷ h) (rtt c h)
    → after_congestion header is_persistent begun ≡ rtt c (e ∷ h)
rtt_of c e h header is_persistent begun is_header is is_begun = rw (is_header, is, is_begun) refl

-- whether the peer has validated the sender's address
pub validated_is : (header c : Settings) (x : HandshakeState) (h : List Event) → header ≡ c → x ≡ handshake_after h → is_validated header.role x ≡ handshakes.is_validated c h
validated_is header c x h is_header is = rw (is_header, is) refl
