-- The deadline from what is kept is that of the history.
use Rattle.std.proofs.Common.{◌≡◌, ◌≤◌, ◌+◌, ◌*◌, ◌^◌, ◌&&◌, ℕ, min, not, List, Bool, true, false, Option, Some, None, is_none, option_map, refl, sym, ap, ap₂, arith}
use Rattle.qa_sent_packets.specs.declared.packet.SentPacket.{SentPacket}
use Rattle.std.specs.List.{list_any}
use Rattle.std.specs.Option.{option_or}
use Rattle.std.specs.Prelude.{if◌then◌else◌}
use Rattle.qa_base.specs.declared.event.Event.{Event}
use Rattle.qa_base.specs.declared.space.TimerKind.TheVariants.{Pto}
use Rattle.qa_base.specs.declared.space.Space.{Space}
use Rattle.qa_base.specs.declared.space.Space.TheVariants.{Initial, Handshake, App}
use Rattle.qa_base.specs.machine.Estimates.{rtt}
use Rattle.qa_base.specs.machine.Handshake.{has_keys}
use Rattle.qa_base.specs.machine.Handshake as handshakes
use Rattle.qa_base.specs.machine.Packets.{largest_acknowledged, packets_of}
use Rattle.qa_base.specs.machine.Rtt.{Estimate, pto_base}
use Rattle.qa_base.specs.machine.Timer.{Due, anti_deadlock, awaits_acknowledgment, pto_count, earlier, earliest_loss, earliest_pto, last_eliciting, last_set}
use Rattle.qa_base.specs.machine.Timer as timers
use Rattle.qa_base.specs.values.Settings.{Settings, granularity}
use Rattle.qa_base.proofs.machine.PtoCount.{small_pto_count}
use Rattle.qa_sender.specs.connection.Deadlines.{AreOpen, IsOpenIn, loss_due, pto_at, pto_due}
use Rattle.qa_sender.specs.connection.Deadlines as deadlines
use Rattle.qa_sender.specs.connection.Handshaking.{is_validated}
use Rattle.qa_sender.specs.connection.Known.{IsOf, IsProperToleratedRun}
use Rattle.qa_sender.specs.declared.connection.connection.Connection.{Connection}
use Rattle.qa_sender.specs.declared.connection.deadline.OpenInSpace.{OpenInSpace}
use Rattle.qa_sender.specs.declared.connection.handshake.HandshakeState.{HandshakeState}
use Rattle.qa_sender.specs.declared.connection.spaces.SpaceState.{SpaceState}
use Rattle.qa_sender.specs.declared.connection.timer.TimerState.{TimerState}
use Rattle.qa_base.specs.values.PerSpace.{of_space}
use Rattle.qa_base.specs.declared.per_space.PerSpace.{PerSpace}
use Rattle.qa_sender.proofs.connection_lemmas.Ended.{validated_is}
use Rattle.qa_sent_packets.specs.declared.packet.SentPacket.{SentPacket}

-- ---- losses

loss_of : (c : Settings) (h : List Event) (s : Space) (header : Settings) (r : Estimate) (largest : Option ℕ) (oldest : Option SentPacket)
    → header ≡ c → r ≡ rtt c h → largest ≡ largest_acknowledged h s → loss_due c (rtt c h) (largest_acknowledged h s) s oldest ≡ timers.loss_due c h s
    → loss_due header r largest s oldest ≡ timers.loss_due c h s
loss_of c h s header r largest oldest is_header is_rtt is_largest is = rw (is_header, is_rtt, is_largest) is

loss_is : (k : Connection) (told : PerSpace OpenInSpace) (c : Settings) (h : List Event) → IsOf k c h → AreOpen told c h → deadlines.earliest_loss k told ≡ earliest_loss c h
loss_is k told c h of open_packets =
    let largest : (s : Space) → (of_space s k.spaces).largest ≡ largest_acknowledged h s = λ s. ap (λ (x : SpaceState). x.largest) (of.parts.spaces s) in
    let initial = loss_of c h Initial k.header k.rtt k.spaces.initial.largest told.initial.oldest of.parts.header of.parts.rtt (largest Initial) (open_packets.each Initial).oldest in
    let handshake = loss_of c h Handshake k.header k.rtt k.spaces.handshake.largest told.handshake.oldest of.parts.header of.parts.rtt (largest Handshake) (open_packets.each Handshake).oldest in
    let app = loss_of c h App k.header k.rtt k.spaces.app.largest told.app.oldest of.parts.header of.parts.rtt (largest App) (open_packets.each App).oldest in
    rw (initial, handshake, app) refl

-- when the oldest packet of a space is old
pub loss_time_is : (k : Connection) (told : OpenInSpace) (c : Settings) (h : List Event) (s : Space) → IsOf k c h → IsOpenIn told c h s
    → option_map (λ (d : Due). d.time) (loss_due k.header k.rtt (of_space s k.spaces).largest s told.oldest) ≡ option_map (λ (d : Due). d.time) (timers.loss_due c h s)
loss_time_is k told c h s of opened =
    ap (option_map (λ (d : Due). d.time)) (loss_of c h s k.header k.rtt (of_space s k.spaces).largest told.oldest of.parts.header of.parts.rtt (ap (λ (x : SpaceState). x.largest) (of.parts.spaces s)) opened.oldest)

-- ---- probe timeouts

timed : (s : Space) (since : Option ℕ) (base count : ℕ) → count ≤ 40
    → pto_at s since base count ≡ option_map (λ t. record { kind = Pto; space = s; time = t + base * 2 ^ count }) since
timed s since base count few =
    let whole : min count 40 ≡ count = omega (arith, few) in
    ap (λ n. option_map (λ t. record { kind = Pto; space = s; time = t + base * 2 ^ n }) since) whole

due_if : (awaits : Bool) (a b : Option Due) → a ≡ b → (if awaits then a else None) ≡ (if awaits then b else None)
due_if awaits a b same = ap (λ (d : Option Due). if awaits then d else None) same

pto_of : (c : Settings) (h : List Event) (s : Space) (delay : ℕ) (awaits : Bool) (last : Option ℕ) (base count : ℕ)
    → awaits ≡ list_any (awaits_acknowledgment c h) (packets_of h s) → last ≡ last_eliciting h s → base ≡ pto_base (granularity c) (rtt c h) + delay → count ≡ pto_count c h → pto_count c h ≤ 40
    → pto_due s awaits last base count ≡ timers.pto_due c h delay s
pto_of c h s delay awaits last base count is_awaited is_last is_base is_count few =
    rw (is_awaited, is_last, is_base, is_count)
    (due_if (list_any (awaits_acknowledgment c h) (packets_of h s)) _ _ (timed s (last_eliciting h s) (pto_base (granularity c) (rtt c h) + delay) (pto_count c h) few))

base_of : (k : Connection) (c : Settings) (h : List Event) → IsOf k c h → pto_base (granularity k.header) k.rtt ≡ pto_base (granularity c) (rtt c h)
base_of k c h of = rw (of.parts.header, of.parts.rtt) refl

pto_is : (k : Connection) (told : PerSpace OpenInSpace) (c : Settings) (h : List Event) → IsOf k c h → AreOpen told c h → pto_count c h ≤ 40 → deadlines.earliest_pto k told ≡ earliest_pto c h
pto_is k told c h of open_packets few =
    let p = of.parts in
    let count : k.timer.pto_count ≡ pto_count c h = ap (λ (t : TimerState). t.pto_count) p.timer in
    let last : (s : Space) → (of_space s k.spaces).last_eliciting ≡ last_eliciting h s = λ s. ap (λ (x : SpaceState). x.last_eliciting) (p.spaces s) in
    let base : pto_base (granularity k.header) k.rtt ≡ pto_base (granularity c) (rtt c h) + 0 = (let same = base_of k c h of in omega (arith, same)) in
    let app_base : pto_base (granularity k.header) k.rtt + k.header.max_ack_delay ≡ pto_base (granularity c) (rtt c h) + c.max_ack_delay =
    (let same = base_of k c h of in let delay = ap (λ (x : Settings). x.max_ack_delay) p.header in omega (arith, same, delay)) in
    let initial = pto_of c h Initial 0 told.initial.awaits k.spaces.initial.last_eliciting (pto_base (granularity k.header) k.rtt) k.timer.pto_count (open_packets.each Initial).awaits (last Initial) base count few in
    let handshake = pto_of c h Handshake 0 told.handshake.awaits k.spaces.handshake.last_eliciting (pto_base (granularity k.header) k.rtt) k.timer.pto_count (open_packets.each Handshake).awaits (last Handshake) base count few in
    let app = pto_of c h App c.max_ack_delay told.app.awaits k.spaces.app.last_eliciting (pto_base (granularity k.header) k.rtt + k.header.max_ack_delay) k.timer.pto_count (open_packets.each App).awaits (last App) app_base count few in
    rw (initial, handshake, app, ap (λ (x : HandshakeState). x.confirmed) p.handshake) refl

-- ---- a client that is not validated

anti_of : (c : Settings) (h : List Event) (header : Settings) (validated keys : Bool) (since : Option ℕ) (r : Estimate) (count : ℕ)
    → header ≡ c → validated ≡ handshakes.is_validated c h → keys ≡ has_keys h → since ≡ last_set h → r ≡ rtt c h → count ≡ pto_count c h → pto_count c h ≤ 40
    → (if validated then None else pto_at (if keys then Handshake else Initial) since (pto_base (granularity header) r) count) ≡ anti_deadlock c h
anti_of c h header validated keys since r count is_header is_valid are_keys is_since is_rtt is_count few =
    rw (is_header, is_valid, are_keys, is_since, is_rtt, is_count)
    (ap (λ (d : Option Due). if handshakes.is_validated c h then None else d) (timed (if has_keys h then Handshake else Initial) (last_set h) (pto_base (granularity c) (rtt c h)) (pto_count c h) few))

anti_is : (k : Connection) (c : Settings) (h : List Event) → IsOf k c h → pto_count c h ≤ 40 → deadlines.anti_deadlock k ≡ anti_deadlock c h
anti_is k c h of few =
    let p = of.parts in
    anti_of c h k.header (is_validated k.header.role k.handshake) k.handshake.has_keys k.timer.last_set k.rtt k.timer.pto_count p.header (validated_is k.header c k.handshake h p.header p.handshake)
    (ap (λ (x : HandshakeState). x.has_keys) p.handshake) (ap (λ (t : TimerState). t.last_set) p.timer) p.rtt (ap (λ (t : TimerState). t.pto_count) p.timer) few

-- what the timer is set for by packets
pub packet_deadline_is : (k : Connection) (told : PerSpace OpenInSpace) (c : Settings) (h : List Event) → IsOf k c h → IsProperToleratedRun c h → AreOpen told c h
    → deadlines.packet_deadline k told ≡ timers.packet_deadline c h
packet_deadline_is k told c h of run open_packets =
    let few = small_pto_count c h run.run run.timely in
    rw (loss_is k told c h of open_packets, pto_is k told c h of open_packets few) refl

or_turned : (a b d : Option Due) → option_or (option_or a b) d ≡ option_or a (option_or b d)
or_turned None b d = refl
or_turned (Some due) b d = refl

-- what a client sets it for that is not validated
pub anti_deadlock_is : (k : Connection) (c : Settings) (h : List Event) → IsOf k c h → IsProperToleratedRun c h → deadlines.anti_deadlock k ≡ timers.anti_deadlock c h
anti_deadlock_is k c h of run = anti_is k c h of (small_pto_count c h run.run run.timely)

-- what it is set for, by both
pub deadline_is : (c : Settings) (h : List Event) (packets anti : Option Due) → packets ≡ timers.packet_deadline c h → anti ≡ timers.anti_deadlock c h → option_or packets anti ≡ timers.deadline c h
deadline_is c h packets anti is_packets is_anti = rw (is_packets, is_anti) (or_turned (earliest_loss c h) (earliest_pto c h) (timers.anti_deadlock c h))

-- ---- after the handshake

abbrev none : OpenInSpace
none = record { awaits = false; oldest = None }

none_of : (awaits : Bool) (oldest : Option SentPacket) → (not awaits && is_none oldest) ≡ true → record { awaits = awaits; oldest = oldest } ≡ none
none_of false None is = refl
none_of false (Some p) is = cc
none_of true oldest is = cc

-- where the other spaces are idle, application data sets it
pub by_app : (k : Connection) (told : PerSpace OpenInSpace) → deadlines.is_idle told.initial ≡ true → deadlines.is_idle told.handshake ≡ true → deadlines.app_deadline k told.app ≡ deadlines.packet_deadline k told
by_app k told initial handshake =
    let no_initial : told.initial ≡ none = none_of told.initial.awaits told.initial.oldest initial in
    let no_handshake : told.handshake ≡ none = none_of told.handshake.awaits told.handshake.oldest handshake in
    ap₂ (λ i h. deadlines.packet_deadline k (record { initial = i; handshake = h; app = told.app })) (sym no_initial) (sym no_handshake)
