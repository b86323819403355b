-- What an event finds lost: the front of the packets of its space that are in flight and unsettled.
use Rattle.std.proofs.Common.{◌≡◌, ◌∙◌, ◌+◌, ◌*◌, ◌^◌, ℕ, List, ◌∷◌, Bool, true, false, ◌&&◌, Option, Some, None, option_map, refl, sym, ap, arith, subst, Contains, inl, inr, ◌⊎◌, filter, reverse, take_while, is_none}
use Rattle.std.proofs.lemmas.Bool.{and_parts, and_from, not-false, both_ways, false_from_ne_true}
use Rattle.std.specs.List.{list_any}
use Rattle.std.specs.Option.{option_or}
use Rattle.std.specs.Prelude.{nat_le, if◌then◌else◌}
use Rattle.qa_base.specs.declared.event.Event.{Event}
use Rattle.qa_base.specs.declared.event.Event.TheVariants.{Ack, Timer}
use Rattle.qa_base.specs.declared.space.TimerKind.{TimerKind}
use Rattle.qa_base.specs.declared.space.TimerKind.TheVariants.{Loss, Pto}
use Rattle.qa_base.specs.declared.space.Space.{Space}
use Rattle.qa_base.specs.declared.space.Space.TheVariants.{Initial, Handshake, App}
use Rattle.qa_base.specs.machine.Breaches.{is_other}
use Rattle.qa_base.specs.values.Events.{is_space}
use Rattle.qa_base.specs.machine.Estimates.{rtt, sampled}
use Rattle.qa_base.specs.machine.Detection.{all_at, is_found, is_past_threshold, is_unsettled, looks_at, old_at}
use Rattle.qa_base.specs.machine.Loss.{owed, is_owed, is_open, detection}
use Rattle.qa_base.specs.history.Oldest.{is_flying, due_of, is_asked}
use Rattle.qa_base.specs.history.Sequence.{EachTwo}
use Rattle.qa_base.specs.machine.Packets.{Packet, packets, packets_of, is_of, is_some_packet, is_discarded, acknowledges_new, largest_acknowledged, is_below_largest}
use Rattle.qa_base.specs.machine.Rtt.{Estimate, pto_base}
use Rattle.qa_base.specs.machine.Violations.{IsToleratedRun}
use Rattle.qa_base.specs.values.Settings.{Settings, early, granularity}
use Rattle.qa_base.specs.machine.Handshake.{is_confirmed, is_validated, has_keys}
use Rattle.qa_base.specs.machine.Timer.{Due, is_kind, deadline, awaits_acknowledgment, last_eliciting, last_set, pto_count, earlier, earliest_loss, earliest_pto, anti_deadlock, loss_due, pto_due}
use Rattle.qa_base.proofs.history.ToleratedRuns.{IsEarlier, in_order_of, is_space_is}
use Rattle.qa_base.proofs.history.Deadline.{first_passes, loss_due_is}
use Rattle.qa_base.proofs.history.Thresholds.{earlier_is_past_threshold}
use Rattle.qa_base.proofs.history.Pairs.{two_weaker, two_of_part, two_turned, part_turned, part_of_part, part_is, front}
use Rattle.qa_base.proofs.machine.RunLaws.{form_holds}
use Rattle.qa_base.proofs.history.Settled.{opens_is, opens_from, unsettled_before, owed_has, has_some}
use Rattle.qa_base.proofs.history.Deadline.{oldest_flying}

-- ---- what is owed is a front

-- the packets asked of, in the order of sending
abbrev pub asked : List Event → Space → List Packet
asked h s = filter (is_asked h s) (reverse (packets h))

found_of_asked : (c : Settings) (h : List Event) (now : ℕ) (s : Space)
    → filter (is_found c (sampled c h) h now s) (packets_of h s) ≡ filter (is_past_threshold c (sampled c h) h now (largest_acknowledged h s)) (filter (is_asked h s) (packets h))
found_of_asked c h now s =
    let late = is_past_threshold c (sampled c h) h now (largest_acknowledged h s) in
    let open_here : Packet → Bool = λ p. p.in_flight && is_unsettled h p in
    part_of_part open_here late (packets_of h s) ∙ ap (filter late) (sym (part_of_part (is_of s) open_here (packets h)))

asked_is : (h : List Event) (s : Space) → asked h s ≡ reverse (filter (λ p. p.in_flight && is_unsettled h p) (packets_of h s))
asked_is h s = part_turned (is_asked h s) (packets h) ∙ ap reverse (part_of_part (is_of s) (λ p. p.in_flight && is_unsettled h p) (packets h))

late_first : (c : Settings) (h : List Event) (r : Estimate) (now : ℕ) (largest : Option ℕ) (s : Space) → IsToleratedRun c h
    → EachTwo (λ p q. is_past_threshold c r h now largest q ≡ true → is_past_threshold c r h now largest p ≡ true) (asked h s)
late_first c h r now largest s run =
    let open_here : Packet → Bool = λ p. p.in_flight && is_unsettled h p in
    let R : Packet → Packet → Type 0 = λ p q. is_past_threshold c r h now largest q ≡ true → is_past_threshold c r h now largest p ≡ true in
    let two : EachTwo (λ p q. IsEarlier q p) (reverse (filter open_here (packets_of h s))) =
    two_turned IsEarlier (filter open_here (packets_of h s)) (two_of_part IsEarlier open_here (packets_of h s) (in_order_of c h s run)) in
    let all : EachTwo R (reverse (filter open_here (packets_of h s))) =
    two_weaker (λ p q. IsEarlier q p) R (λ p q before late. earlier_is_past_threshold c r h now largest q p before.space (omega (arith, before.number)) before.time late) (reverse (filter open_here (packets_of h s))) two in
    subst (λ (ps : List Packet). EachTwo R ps) (sym (asked_is h s)) all

-- in a tolerated run, where the last event looks for losses in a space at a time, what it finds is, in the order of sending,
-- the packets asked of up to the first that is not late
pub owed_is_front : (c : Settings) (h : List Event) → IsToleratedRun c h → (s : Space) (now : ℕ) → detection c h ≡ Some (s, now)
    → reverse (owed c h) ≡ take_while (is_past_threshold c (sampled c h) h now (largest_acknowledged h s)) (asked h s)
owed_is_front c h run s now at =
    let late = is_past_threshold c (sampled c h) h now (largest_acknowledged h s) in
    ap (λ d. reverse (all_at (is_found c (sampled c h) h) h d)) at
    ∙ (ap reverse (found_of_asked c h now s)
    ∙ (sym (part_turned late (filter (is_asked h s) (packets h)))
    ∙ (ap (filter late) (sym (part_turned (is_asked h s) (packets h)))
    ∙ front late (asked h s) (late_first c h (sampled c h) now (largest_acknowledged h s) s run))))

-- ---- a loss timer goes off in a space that is there

-- what the timer is set for is no loss
abbrev IsProbe : Option Due → Type 0
IsProbe None = Unit {0}
IsProbe (Some due) = is_kind Loss due.kind ≡ false

probe_map : (space : Space) (f : ℕ → ℕ) (o : Option ℕ) → IsProbe (option_map (λ sent. record { kind = Pto; space = space; time = f sent }) o)
probe_map space f None = tt
probe_map space f (Some sent) = refl

probe_if : (b : Bool) (o p : Option Due) → IsProbe o → IsProbe p → IsProbe (if b then o else p)
probe_if true o p is_o is_p = is_o
probe_if false o p is_o is_p = is_p

probe_earlier : (o p : Option Due) → IsProbe o → IsProbe p → IsProbe (earlier o p)
probe_earlier None p is_o is_p = is_p
probe_earlier (Some d) None is_o is_p = is_o
probe_earlier (Some d) (Some e) is_o is_p = probe_if (nat_le d.time e.time) (Some d) (Some e) is_o is_p

probe_or : (o p : Option Due) → IsProbe o → IsProbe p → IsProbe (option_or o p)
probe_or None p is_o is_p = is_p
probe_or (Some d) p is_o is_p = is_o

probe_of : (c : Settings) (h : List Event) (peer_delay : ℕ) (s : Space) → IsProbe (pto_due c h peer_delay s)
probe_of c h peer_delay s =
    probe_if (list_any (awaits_acknowledgment c h) (packets_of h s)) _ None
    (probe_map s (λ sent. sent + (pto_base (granularity c) (rtt c h) + peer_delay) * 2 ^ pto_count c h) (last_eliciting h s)) tt

pub probes : (c : Settings) (h : List Event) → IsProbe (option_or (earliest_pto c h) (anti_deadlock c h))
probes c h =
    probe_or (earliest_pto c h) (anti_deadlock c h)
    (probe_earlier (pto_due c h 0 Initial) _ (probe_of c h 0 Initial)
    (probe_earlier (pto_due c h 0 Handshake) (if is_confirmed h then pto_due c h c.max_ack_delay App else None) (probe_of c h 0 Handshake)
    (probe_if (is_confirmed h) (pto_due c h c.max_ack_delay App) None (probe_of c h c.max_ack_delay App) tt)))
    (probe_if (is_validated c h) None _ tt
    (probe_map (if has_keys h then Handshake else Initial) (λ sent. sent + pto_base (granularity c) (rtt c h) * 2 ^ pto_count c h) (last_set h)))

pub loss_of : (o p : Option Due) (due : Due) → IsProbe p → option_or o p ≡ Some due → is_kind Loss due.kind ≡ true → o ≡ Some due
loss_of None None due probe is loss = cc
loss_of None (Some d) due probe is loss = let same : d ≡ due = cc in absurd (both_ways (is_kind Loss due.kind) (subst (λ (x : Due). is_kind Loss x.kind ≡ false) same probe) loss)
loss_of (Some d) p due probe is loss = is

earlier_if : (b : Bool) (d e due : Due) → (if b then Some d else Some e) ≡ Some due → (Some d ≡ Some due) ⊎ (Some e ≡ Some due)
earlier_if true d e due is = inl is
earlier_if false d e due is = inr is

pub earlier_is : (o p : Option Due) (due : Due) → earlier o p ≡ Some due → (o ≡ Some due) ⊎ (p ≡ Some due)
earlier_is None p due is = inr is
earlier_is (Some d) None due is = inl is
earlier_is (Some d) (Some e) due is = earlier_if (nat_le d.time e.time) d e due is

due_if : (c : Settings) (h : List Event) (s : Space) (p : Packet) (due : Due) (b : Bool) → is_below_largest p.number (largest_acknowledged h s) ≡ b
    → due_of c h s (Some p) ≡ Some due → due.space ≡ s
due_if c h s p due true below is = let same : Some due ≡ due_of c h s (Some p) = sym is in let more = rw below at same in cc
due_if c h s p due false below is = let more = rw below at is in cc

-- the space of a loss time has a packet that is open and in flight
due_has : (c : Settings) (h : List Event) (s : Space) (o : Option Packet) (due : Due) → due_of c h s o ≡ Some due → (o ≡ None → ⊥) × (due.space ≡ s)
due_has c h s None due is = cc
due_has c h s (Some p) due is = ((λ none. cc), due_if c h s p due (is_below_largest p.number (largest_acknowledged h s)) refl is)

space_there : (c : Settings) (h : List Event) (s : Space) (o : Option Packet) → oldest_flying c h s ≡ o → (o ≡ None → ⊥) → is_discarded h s ≡ false
space_there c h s None is some = absurd (some refl)
space_there c h s (Some p) is some =
    let found = first_passes (is_flying c h) (packets_of h s) p is in
    let of_space = (part_is (is_of s) (packets h) p found.0).1 in
    let opens = opens_is c h p (and_parts p.in_flight (is_open c h p) found.1).1 in
    rw (is_space_is s p.space of_space) opens.there

loss_space_there : (c : Settings) (h : List Event) → IsToleratedRun c h → (s : Space) (due : Due) → loss_due c h s ≡ Some due → (is_discarded h due.space ≡ false)
loss_space_there c h run s due is =
    let has = due_has c h s (oldest_flying c h s) due (sym (loss_due_is c h run s) ∙ is) in
    rw has.1 (space_there c h s (oldest_flying c h s) refl has.0)

earliest_there : (c : Settings) (h : List Event) → IsToleratedRun c h → (due : Due) → earliest_loss c h ≡ Some due → is_discarded h due.space ≡ false
earliest_there c h run due is = elim (earlier_is (loss_due c h Initial) (earlier (loss_due c h Handshake) (loss_due c h App)) due is) [
  | inl first ↦ loss_space_there c h run Initial due first
  | inr later ↦ elim (earlier_is (loss_due c h Handshake) (loss_due c h App) due later) [
    | inl second ↦ loss_space_there c h run Handshake due second
    | inr third ↦ loss_space_there c h run App due third
  ]
]

pub timer_is : (kind : TimerKind) (space : Space) (d : Option Due) → is_none d ≡ false → is_other kind space d ≡ false
    → (due : Due) × (d ≡ Some due) × (is_kind kind due.kind ≡ true) × (is_space space due.space ≡ true)
timer_is kind space None some same = cc
timer_is kind space (Some due) some same =
    let both = and_parts (is_kind kind due.kind) (is_space space due.space) (not-false (is_kind kind due.kind && is_space space due.space) same) in
    (due, refl, both.0, both.1)

pub timer_there : (c : Settings) (h : List Event) (time : ℕ) (s : Space) → IsToleratedRun c (Timer time Loss s ∷ h) → is_discarded h s ≡ false
timer_there c h time s run =
    let holds = form_holds c h (Timer time Loss s) run.1 in
    let set = timer_is Loss s (deadline c h) holds.timer_not_set holds.timer_other in
    let loss = loss_of (earliest_loss c h) (option_or (earliest_pto c h) (anti_deadlock c h)) set.0 (probes c h) set.1 set.2 in
    rw (is_space_is s set.0.space set.3) (earliest_there c h run.0 set.0 loss)

-- ---- whatever a detection asks of was open before

same_space : (space s : Space) (time now : ℕ) → ◌≡◌ {A = Option (Space × ℕ)} (Some (space, time)) (Some (s, now)) → space ≡ s
same_space space s time now is = let both : ◌≡◌ {A = Space × ℕ} (space, time) (s, now) = cc in ap (λ (d : Space × ℕ). d.0) both

acknowledged_space : (new : Bool) (h : List Event) (space s : Space) (time now : ℕ) → if◌then◌else◌ {A = Option (Space × ℕ)} new (Some (space, time)) None ≡ Some (s, now) → is_discarded h space ≡ false → is_discarded h s ≡ false
acknowledged_space true h space s time now at there = rw (same_space space s time now at) at there
acknowledged_space false h space s time now at there = cc

pub space_of_detection : (c : Settings) (e : Event) (h : List Event) → IsToleratedRun c (e ∷ h) → (s : Space) (now : ℕ) → detection c (e ∷ h) ≡ Some (s, now) → is_discarded h s ≡ false
space_of_detection c (Ack ack) h run s now at =
    let holds = form_holds c h (Ack ack) run.1 in
    acknowledged_space (acknowledges_new (Ack ack ∷ h)) h ack.space s ack.time now at holds.space_gone
space_of_detection c (Timer time Loss space) h run s now at =
    let there = timer_there c h time space run in
    rw (same_space space s (looks_at (early c) time (old_at c (rtt c h) h space)) now at) at there
space_of_detection c (Timer time Pto space) h run s now at = cc
space_of_detection c _ h run s now at = cc

nothing_owed : (c : Settings) (e : Event) (h : List Event) → IsToleratedRun c (e ∷ h) → (s : Space) (now : ℕ) → detection c (e ∷ h) ≡ Some (s, now) → is_some_packet (owed c h) ≡ false
nothing_owed c (Ack ack) h run s now at = (form_holds c h (Ack ack) run.1).loss_owed
nothing_owed c (Timer time kind space) h run s now at = (form_holds c h (Timer time kind space) run.1).loss_owed
nothing_owed c _ h run s now at = cc

-- in a tolerated run each packet of which a detection asks was open and in flight before the event
pub asked_was_flying : (c : Settings) (e : Event) (h : List Event) → IsToleratedRun c (e ∷ h) → (s : Space) (now : ℕ) → detection c (e ∷ h) ≡ Some (s, now)
    → (p : Packet) → Contains (packets h) p → is_asked (e ∷ h) s p ≡ true → is_flying c h p ≡ true
asked_was_flying c e h run s now at p has asked_of =
    let parts = and_parts (is_of s p) (p.in_flight && is_unsettled (e ∷ h) p) asked_of in
    let more = and_parts p.in_flight (is_unsettled (e ∷ h) p) parts.1 in
    and_from p.in_flight (is_open c h p) more.0 (opens_from c h p (record {
      unsettled = unsettled_before e h p more.1;
      free = false_from_ne_true (is_owed c h p) (λ is. both_ways (is_some_packet (owed c h)) (nothing_owed c e h run s now at) (has_some (owed c h) p (owed_has c h p has is)));
      there = rw (← is_space_is s p.space parts.0) (space_of_detection c e h run s now at);
    }))
