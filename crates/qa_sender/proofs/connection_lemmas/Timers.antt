-- What an event makes of what is kept of the timer.
use Rattle.std.proofs.Common.{◌≡◌, ◌∙◌, ◌≤◌, ◌+◌, ℕ, List, [], ◌∷◌, Bool, true, false, ◌&&◌, ◌||◌, Option, Some, None, refl, sym, ap, arith}
use Rattle.std.specs.List.{AllByRecursion}
use Rattle.std.specs.Prelude.{if◌then◌else◌}
use Rattle.qa_base.specs.declared.event.Event.{Event}
use Rattle.qa_base.specs.declared.event.SentPacket.{SentPacket as PacketOfEvent}
use Rattle.qa_base.specs.declared.event.Event.TheVariants.{Sent, Timer}
use Rattle.qa_base.specs.declared.space.TimerKind.TheVariants.{Loss, Pto}
use Rattle.qa_base.specs.declared.space.Space.{Space}
use Rattle.qa_base.specs.machine.Handshake.{is_validated}
use Rattle.qa_base.specs.machine.Permission.{answers_pto, timer_space}
use Rattle.qa_base.specs.machine.Packets.{is_some_packet, newly_acknowledged, packets}
use Rattle.qa_base.specs.machine.Probes.{probe_due, unanswered_by}
use Rattle.qa_base.specs.machine.Violations.{IsToleratedRun}
use Rattle.qa_base.specs.machine.Timer.{pto_count, is_pto, last_set, resets_count, sets_timer}
use Rattle.qa_base.specs.machine.Widths.{IsTimely}
use Rattle.qa_base.specs.values.Events.{is_space, time_of}
use Rattle.qa_base.specs.values.Settings.{Settings}
use Rattle.qa_base.proofs.machine.PtoCount.{small_pto_count}
use Rattle.qa_base.proofs.machine.Quiet.{pto_count-quiet, none_passes}
use Rattle.qa_base.proofs.machine.Steps.{pto_count_after, last_set_after, probe_due_after}
use Rattle.qa_sender.specs.connection.Steps.{capped}
use Rattle.qa_sender.specs.connection.Timing.{answered_in, probing, restarted, timer_after}
use Rattle.qa_sender.specs.declared.connection.timer.TimerState.{TimerState}

abbrev timer_of : ℕ → Option ℕ → Option Space → TimerState
timer_of count set due = record { pto_count = count; last_set = set; probe_due = due }

same_timer : (m n : ℕ) (a b : Option ℕ) (x y : Option Space) → m ≡ n → a ≡ b → x ≡ y → timer_of m a x ≡ timer_of n b y
same_timer m n a b x y count set due = rw (count, set, due) refl

-- ---- its parts

-- the PTO count, after an event that is no probe timeout
count_is : (c : Settings) (e : Event) (h : List Event) → is_pto (e ∷ h) ≡ false → pto_count c (e ∷ h) ≡ (if resets_count c (e ∷ h) then 0 else pto_count c h)
count_is c e h other =
    let zero : 0 + pto_count c h ≡ pto_count c h = omega arith in
    pto_count_after c e h
    ∙ (ap (λ b. if resets_count c (e ∷ h) then 0 else (if b then 1 else 0) + pto_count c h) other ∙ ap (λ n. if resets_count c (e ∷ h) then 0 else n) zero)

unanswered : (e : Event) (h : List Event) (due : Option Space) → ((s : Space) → answers_pto s (e ∷ h) ≡ false) → unanswered_by (e ∷ h) due ≡ due
unanswered e h None none = refl
unanswered e h (Some s) none = ap (λ b. if b then None else Some s) (none s)

answered : (e : Event) (h : List Event) (due : Option Space) → ((s : Space) → answers_pto s (e ∷ h) ≡ true) → unanswered_by (e ∷ h) due ≡ None
answered e h None all = refl
answered e h (Some s) all = ap (λ b. if b then None else Some s) (all s)

-- the probe that is due, after an event that is no probe timeout
due_is : (e : Event) (h : List Event) → is_pto (e ∷ h) ≡ false → probe_due (e ∷ h) ≡ unanswered_by (e ∷ h) (probe_due h)
due_is e h other = probe_due_after e h ∙ ap (λ b. if b then timer_space (e ∷ h) else unanswered_by (e ∷ h) (probe_due h)) other

-- ---- events

-- an event that neither sets it nor answers a probe
pub timer_stays : (c : Settings) (e : Event) (h : List Event) → is_pto (e ∷ h) ≡ false → resets_count c (e ∷ h) ≡ false → sets_timer (e ∷ h) ≡ false
    → ((s : Space) → answers_pto s (e ∷ h) ≡ false) → timer_after c (e ∷ h) ≡ timer_after c h
timer_stays c e h other resets sets answers =
    same_timer _ _ _ _ _ _ (count_is c e h other ∙ ap (λ b. if b then 0 else pto_count c h) resets)
    (last_set_after e h ∙ ap (λ b. if b then Some (time_of e) else last_set h) sets) (due_is e h other ∙ unanswered e h (probe_due h) answers)

-- one after which no probe is due
pub timer_restarted : (c : Settings) (e : Event) (h : List Event) (resets : Bool) → is_pto (e ∷ h) ≡ false → resets ≡ resets_count c (e ∷ h) → sets_timer (e ∷ h) ≡ true
    → ((s : Space) → answers_pto s (e ∷ h) ≡ true) → restarted (time_of e) resets (timer_after c h) ≡ timer_after c (e ∷ h)
timer_restarted c e h resets other reset sets answers =
    sym (same_timer _ _ _ _ _ _ (count_is c e h other ∙ ap (λ b. if b then 0 else pto_count c h) (sym reset))
    (last_set_after e h ∙ ap (λ b. if b then Some (time_of e) else last_set h) sets) (due_is e h other ∙ answered e h (probe_due h) answers))

-- a loss timer
pub timer_fired : (c : Settings) (h : List Event) (time : ℕ) (space : Space) → record (timer_after c h) { last_set = Some time } ≡ timer_after c (Timer time Loss space ∷ h)
timer_fired c h time space =
    let e = Timer time Loss space in
    let none : newly_acknowledged (e ∷ h) ≡ [] = none_passes (packets h) in
    sym (same_timer _ _ _ _ _ _ (count_is c e h refl ∙ ap (λ ps. if is_some_packet ps && is_validated c (e ∷ h) then 0 else pto_count c h) none)
    (last_set_after e h) (due_is e h refl ∙ unanswered e h (probe_due h) (λ s. ap is_some_packet none)))

-- a probe timeout
pub timer_probing : (c : Settings) (h : List Event) (time : ℕ) (space : Space) → IsToleratedRun c h → AllByRecursion IsTimely h
    → probing space time (timer_after c h) ≡ timer_after c (Timer time Pto space ∷ h)
timer_probing c h time space run timely =
    let e = Timer time Pto space in
    let few : pto_count c h ≤ 40 = small_pto_count c h run timely in
    let whole : 1 + pto_count c h ≡ capped (1 + pto_count c h) = omega (arith, few) in
    let none : newly_acknowledged (e ∷ h) ≡ [] = none_passes (packets h) in
    sym (same_timer _ _ _ _ _ _ (pto_count_after c e h ∙ (ap (λ ps. if is_some_packet ps && is_validated c (e ∷ h) then 0 else 1 + pto_count c h) none ∙ whole)) (last_set_after e h) (probe_due_after e h))

answered_if : (eliciting here : Bool) (s : Space) (new : Bool) → new ≡ false → (if eliciting then (if here then None else Some s) else Some s) ≡ (if (eliciting && here) || new then None else Some s)
answered_if true true s new none = refl
answered_if true false s new none = rw none refl
answered_if false here s new none = rw none refl

answered_none : (eliciting : Bool) (space : Space) → (if eliciting then answered_in space None else None) ≡ None
answered_none true space = refl
answered_none false space = refl

answered_is : (due : Option Space) (h : List Event) (packet : PacketOfEvent) → (if packet.eliciting then answered_in packet.space due else due) ≡ unanswered_by (Sent packet ∷ h) due
answered_is None h packet = answered_none packet.eliciting packet.space
answered_is (Some s) h packet =
    answered_if packet.eliciting (is_space s packet.space) s _ (ap is_some_packet (none_passes (packets h)))

-- a packet
pub timer_sent : (c : Settings) (h : List Event) (packet : PacketOfEvent)
    → timer_of (pto_count c h) (if packet.in_flight then Some packet.time else last_set h) (if packet.eliciting then answered_in packet.space (probe_due h) else probe_due h)
    ≡ timer_after c (Sent packet ∷ h)
timer_sent c h packet =
    let e = Sent packet in
    same_timer _ _ _ _ _ _ (sym (pto_count-quiet c e h refl)) (sym (last_set_after e h))
    (answered_is (probe_due h) h packet ∙ sym (due_is e h refl))
