-- What one more event makes of the window, the PTO count, the probes, recovery packets and the timer.
use Rattle.std.proofs.Common.{◌≡◌, ◌∙◌, ◌+◌, ℕ, List, [], ◌∷◌, length, is_some, Bool, true, false, ◌&&◌, ◌||◌, not, cond, Option, Some, None, option_map, option_and_then, refl, ap, fold, find, sum_by, count_by}
use Rattle.std.proofs.lemmas.List.Sums.{sum_by-cons, fold-append}
use Rattle.std.specs.List.{list_any}
use Rattle.std.specs.Prelude.{if◌then◌else◌}
use Rattle.qa_base.specs.declared.event.Event.{Event}
use Rattle.qa_base.specs.declared.event.SentPacket.{SentPacket}
use Rattle.qa_base.specs.declared.event.Event.TheVariants.{Sent, Ack, Lost, Timer, Discard, Confirmed, Keys, Metrics}
use Rattle.qa_base.specs.declared.space.TimerKind.TheVariants.{Loss, Pto}
use Rattle.qa_base.specs.declared.space.Space.{Space}
use Rattle.qa_base.specs.values.Events.{time_of, is_space}
use Rattle.qa_base.specs.machine.Permission.{probe_size, probe_spent, is_recovery_packet, recovery_spent, answers_pto, timer_space, last_pto_space, is_unanswered, is_probe_due}
use Rattle.qa_base.specs.machine.Moments.{moments, since}
use Rattle.qa_base.specs.machine.Packets.{Packet, packets_of, packet_at}
use Rattle.qa_base.specs.machine.Reno.{moves, moves_of_last, moved, reno, is_entry, start}
use Rattle.qa_base.specs.values.Settings.{Settings}
use Rattle.qa_base.specs.machine.Probes.{probe_due, unanswered_by}
use Rattle.qa_base.specs.machine.Timer.{is_pto, resets_count, pto_count, sets_timer, time_of_moment, last_set, last_eliciting}

-- ---- sums since the last moment that passes a test

since_if : (test : List Event → Bool) (weight : List Event → ℕ) (e : Event) (h : List Event) (here : Bool)
    → sum_by weight (if here then [] else (e ∷ h) ∷ since test h) ≡ (if here then 0 else weight (e ∷ h) + sum_by weight (since test h))
since_if test weight e h true = refl
since_if test weight e h false = sum_by-cons weight (e ∷ h) (since test h)

pub sum_since : (test : List Event → Bool) (weight : List Event → ℕ) (e : Event) (h : List Event)
    → sum_by weight (since test (e ∷ h)) ≡ (if test (e ∷ h) then 0 else weight (e ∷ h) + sum_by weight (since test h))
sum_since test weight e h = since_if test weight e h (test (e ∷ h))

spent_if : (here ever : Bool) (more rest : ℕ) → (if here || ever then Some (if here then 0 else more + rest) else None) ≡ (if here then Some 0 else option_map (λ n. more + n) (if ever then Some rest else None))
spent_if true ever more rest = refl
spent_if false true more rest = refl
spent_if false false more rest = refl

-- the PTO count
pub pto_count_after : (c : Settings) (e : Event) (h : List Event) → pto_count c (e ∷ h) ≡ (if resets_count c (e ∷ h) then 0 else (if is_pto (e ∷ h) then 1 else 0) + pto_count c h)
pto_count_after c e h = sum_since (resets_count c) (λ m. cond (is_pto m) 1 0) e h

-- the bytes of probes since the last probe timeout
pub probe_spent_after : (e : Event) (h : List Event) → probe_spent (e ∷ h) ≡ (if is_pto (e ∷ h) then Some 0 else option_map (λ n. probe_size (e ∷ h) + n) (probe_spent h))
probe_spent_after e h =
    ap (λ n. if list_any is_pto (moments (e ∷ h)) then Some n else None) (sum_since is_pto probe_size e h)
    ∙ spent_if (is_pto (e ∷ h)) (list_any is_pto (moments h)) (probe_size (e ∷ h)) (sum_by probe_size (since is_pto h))

-- the recovery packets since the last entry into recovery
pub recovery_spent_after : (c : Settings) (e : Event) (h : List Event)
    → recovery_spent c (e ∷ h) ≡ (if is_entry c (e ∷ h) then Some 0 else option_map (λ n. (if is_recovery_packet (e ∷ h) then 1 else 0) + n) (recovery_spent c h))
recovery_spent_after c e h =
    ap (λ n. if list_any (is_entry c) (moments (e ∷ h)) then Some n else None) (sum_since (is_entry c) (λ m. cond (is_recovery_packet m) 1 0) e h)
    ∙ spent_if (is_entry c (e ∷ h)) (list_any (is_entry c) (moments h)) (if is_recovery_packet (e ∷ h) then 1 else 0) (count_by is_recovery_packet (since (is_entry c) h))

-- ---- the timer

set_if : (here : Bool) (m : List Event) (rest : Option (List Event)) → option_and_then time_of_moment (if here then Some m else rest) ≡ (if here then time_of_moment m else option_and_then time_of_moment rest)
set_if true m rest = refl
set_if false m rest = refl

-- when the timer was last set
pub last_set_after : (e : Event) (h : List Event) → last_set (e ∷ h) ≡ (if sets_timer (e ∷ h) then Some (time_of e) else last_set h)
last_set_after e h = set_if (sets_timer (e ∷ h)) (e ∷ h) (find sets_timer (moments h))

eliciting_if : (of_space eliciting : Bool) (p : Packet) (ps : List Packet) → p.eliciting ≡ eliciting
    → option_map (λ (q : Packet). q.time) (find (λ (q : Packet). q.eliciting) (if of_space then p ∷ ps else ps))
    ≡ (if of_space && eliciting then Some p.time else option_map (λ (q : Packet). q.time) (find (λ (q : Packet). q.eliciting) ps))
eliciting_if true true p ps is = rw is refl
eliciting_if true false p ps is = rw is refl
eliciting_if false eliciting p ps is = refl

-- the sending time of the last ack-eliciting packet of a space
pub last_eliciting_sent : (h : List Event) (s : Space) (packet : SentPacket)
    → last_eliciting (Sent packet ∷ h) s ≡ (if is_space s packet.space && packet.eliciting then Some packet.time else last_eliciting h s)
last_eliciting_sent h s packet =
    eliciting_if (is_space s packet.space) packet.eliciting (packet_at (length h) packet) (packets_of h s) refl

-- ---- the probe that is due

due_by : (e : Event) (h : List Event) (s : Space) (answered ever : Bool) → answers_pto s (e ∷ h) ≡ answered
    → (if not (answered || ever) then Some s else None) ≡ unanswered_by (e ∷ h) (if not ever then Some s else None)
due_by e h s true true is = refl
due_by e h s false true is = refl
due_by e h s true false is = rw is refl
due_by e h s false false is = rw is refl

due_if : (e : Event) (h : List Event) (o : Option Space) → since is_pto (e ∷ h) ≡ (e ∷ h) ∷ since is_pto h
    → (if is_unanswered (e ∷ h) o then o else None) ≡ unanswered_by (e ∷ h) (if is_unanswered h o then o else None)
due_if e h None is = refl
due_if e h (Some s) is =
    ap (λ ms. if not (list_any (answers_pto s) ms) then Some s else None) is
    ∙ due_by e h s (answers_pto s (e ∷ h)) (list_any (answers_pto s) (since is_pto h)) refl

pub probe_due_after : (e : Event) (h : List Event) → probe_due (e ∷ h) ≡ (if is_pto (e ∷ h) then timer_space (e ∷ h) else unanswered_by (e ∷ h) (probe_due h))
probe_due_after (Timer time Pto space) h = refl
probe_due_after (Timer time Loss space) h = due_if (Timer time Loss space) h (last_pto_space h) refl
probe_due_after (Sent packet) h = due_if (Sent packet) h (last_pto_space h) refl
probe_due_after (Ack ack) h = due_if (Ack ack) h (last_pto_space h) refl
probe_due_after (Lost time space ranges) h = due_if (Lost time space ranges) h (last_pto_space h) refl
probe_due_after (Discard time space) h = due_if (Discard time space) h (last_pto_space h) refl
probe_due_after (Confirmed time) h = due_if (Confirmed time) h (last_pto_space h) refl
probe_due_after (Keys time) h = due_if (Keys time) h (last_pto_space h) refl
probe_due_after (Metrics time values) h = due_if (Metrics time values) h (last_pto_space h) refl

some_if : (b : Bool) (s : Space) → is_some (if b then Some s else None) ≡ b
some_if true s = refl
some_if false s = refl

some_of : (h : List Event) (o : Option Space) → is_some (if is_unanswered h o then o else None) ≡ is_unanswered h o
some_of h None = refl
some_of h (Some s) = some_if (not (list_any (answers_pto s) (since is_pto h))) s

-- a probe is due where there is such a space
pub probe_due_is : (h : List Event) → is_some (probe_due h) ≡ is_probe_due h
probe_due_is h = some_of h (last_pto_space h)

-- ---- the window

-- the moves of the last event on what was before
pub reno_after : (c : Settings) (e : Event) (h : List Event) → reno c (e ∷ h) ≡ fold (moved c.max_datagram_size) (reno c h) (moves_of_last c (e ∷ h))
reno_after c e h = fold-append (moved c.max_datagram_size) (start c.initial_window) (moves c h) (moves_of_last c (e ∷ h))
