-- What is asked of the packets that an event newly acknowledges, in the order of sending.
use Rattle.std.proofs.Common.{◌≡◌, ◌∙◌, ◌==◌, ℕ, suc, List, [], ◌∷◌, length, Bool, false, not, Option, Some, None, option_map, find, map, reverse, refl, sym, ap, arith}
use Rattle.std.proofs.lemmas.Bool.{ne_eqb}
use Rattle.std.proofs.lemmas.List.{length-map, length-reverse, reverse-reverse}
use Rattle.std.specs.List.{list_any}
use Rattle.std.specs.Prelude.{if◌then◌else◌}
use Rattle.qa_base.specs.declared.event.Event.{Event}
use Rattle.qa_base.specs.declared.event.Ack.{Ack as Acknowledgment}
use Rattle.qa_base.specs.declared.event.Event.TheVariants.{Ack}
use Rattle.qa_base.specs.machine.Handshake.{is_confirmed}
use Rattle.qa_base.specs.machine.Packets.{Packet, newly_acknowledged, acknowledges_new, is_some_packet, greatest}
use Rattle.qa_base.specs.machine.Rtt.{Sample, gives_sample, sample_by, sample_of}
use Rattle.qa_base.specs.machine.Rtt as estimates
use Rattle.qa_base.specs.values.Settings.{Settings}
use Rattle.qa_sender.specs.connection.Known.{acknowledged_by}
use Rattle.qa_sender.specs.connection.Steps.{limited_delay, sent_at, sample_at}
use Rattle.qa_sender.specs.connection.Steps as steps
use Rattle.qa_sender.proofs.connection_lemmas.Lists.{any_of_map, any_turned, each_value, find_of_map, map_turned}
use Rattle.qa_sent_packets.specs.Told.{sent_of}
use Rattle.qa_sent_packets.specs.declared.packet.SentPacket.{SentPacket}

-- ---- whether there are any

some_is : (ps : List Packet) → not (length ps == 0) ≡ is_some_packet ps
some_is [] = refl
some_is (p ∷ ps) = let more : (suc (length ps) == 0) ≡ false = ne_eqb (suc (length ps)) 0 (λ same. omega (arith, same)) in ap not more

-- they are some where the event acknowledges something new
pub new_is : (c : Settings) (e : Event) (h : List Event) (acknowledged : List SentPacket) → acknowledged ≡ acknowledged_by c e h → not (length acknowledged == 0) ≡ acknowledges_new (e ∷ h)
new_is c e h acknowledged are =
    let new = newly_acknowledged (e ∷ h) in
    let same : length acknowledged ≡ length new = ap length are ∙ (length-map (reverse new) (sent_of c h) ∙ length-reverse new) in
    ap (λ n. not (n == 0)) same ∙ some_is new

-- ---- the packet with a number, and whether one gives a sample

same_time : (c : Settings) (h : List Event) (p : Option Packet) → option_map (λ (x : SentPacket). x.time) (option_map (sent_of c h) p) ≡ option_map (λ (x : Packet). x.time) p
same_time c h None = refl
same_time c h (Some p) = refl

-- it was sent when the packet was of that number that the definitions sample
pub sent_at_is : (c : Settings) (h : List Event) (n : ℕ) (ps : List Packet) → sent_at n (map (sent_of c h) (reverse ps)) ≡ option_map (λ (p : Packet). p.time) (find (λ (p : Packet). p.number == n) ps)
sent_at_is c h n ps =
    let test : Packet → Bool = λ p. p.number == n in
    ap (λ (qs : List SentPacket). option_map (λ (p : SentPacket). p.time) (find (λ (p : SentPacket). p.number == n) qs)) (sym (map_turned (sent_of c h) (reverse ps)) ∙ ap (map (sent_of c h)) (reverse-reverse ps))
    ∙ (ap (option_map (λ (p : SentPacket). p.time)) (find_of_map (λ (p : SentPacket). p.number == n) (sent_of c h) test ps (each_value (λ p. test p ≡ test p) (λ p. refl) ps)) ∙ same_time c h (find test ps))

pub giving_is : (c : Settings) (h : List Event) (only : Bool) (n : ℕ) (ps : List Packet) → list_any (steps.gives_sample only n) (map (sent_of c h) (reverse ps)) ≡ list_any (gives_sample only n) ps
giving_is c h only n ps =
    any_of_map (steps.gives_sample only n) (sent_of c h) (gives_sample only n) (reverse ps) (each_value (λ (p : Packet). gives_sample only n p ≡ gives_sample only n p) (λ p. refl) (reverse ps))
    ∙ any_turned (gives_sample only n) ps

-- ---- the sample

at_is : (time delay : ℕ) (p : Option Packet) → sample_at time delay (option_map (λ (q : Packet). q.time) p) ≡ sample_by time delay p
at_is time delay None = refl
at_is time delay (Some p) = refl

sample_is_of : (c : Settings) (h : List Event) (only : Bool) (time delay n : ℕ) (ps : List Packet)
    → steps.sample_by only time delay n (map (sent_of c h) (reverse ps)) ≡ (if list_any (gives_sample only n) ps then sample_by time delay (find (λ (p : Packet). p.number == n) ps) else None)
sample_is_of c h only time delay n ps =
    ap (λ b. if b then sample_at time delay (sent_at n (map (sent_of c h) (reverse ps))) else None) (giving_is c h only n ps)
    ∙ ap (λ (s : Option Sample). if list_any (gives_sample only n) ps then s else None) (ap (sample_at time delay) (sent_at_is c h n ps) ∙ at_is time delay (find (λ (p : Packet). p.number == n) ps))

-- an acknowledgment gives the sample of the packets that it newly acknowledges
pub sample_is : (c : Settings) (h : List Event) (ack : Acknowledgment)
    → steps.sample_by c.options.sample_eliciting_only ack.time (limited_delay c.max_ack_delay (is_confirmed h) ack.delay) (greatest ack.ranges) (acknowledged_by c (Ack ack) h)
    ≡ sample_of c (Ack ack ∷ h)
sample_is c h ack =
    sample_is_of c h c.options.sample_eliciting_only ack.time (estimates.limited_delay c h ack.delay) (greatest ack.ranges) (newly_acknowledged (Ack ack ∷ h))
