-- Each deadline is the sum that is told of it.
use Rattle.std.proofs.Common.{◌≡◌, ◌∙◌, ◌+◌, ◌*◌, ◌^◌, ℕ, List, Bool, true, false, Option, Some, None, option_map, refl, sym, ap, inl, inr, subst, is_some}
use Rattle.std.specs.List.{list_any}
use Rattle.std.specs.Option.{option_or}
use Rattle.std.specs.Prelude.{if◌then◌else◌}
use Rattle.qa_base.specs.declared.event.Event.{Event}
use Rattle.qa_base.specs.declared.space.Space.{Space}
use Rattle.qa_base.specs.declared.space.Space.TheVariants.{Initial, Handshake, App}
use Rattle.qa_base.specs.declared.space.TimerKind.TheVariants.{Loss, Pto}
use Rattle.qa_base.specs.machine.Estimates.{rtt}
use Rattle.qa_base.specs.machine.Handshake.{has_keys, is_confirmed, is_validated}
use Rattle.qa_base.specs.machine.Packets.{Packet, is_below_largest, largest_acknowledged, packets_of}
use Rattle.qa_base.specs.machine.Rtt.{loss_delay, pto_base}
use Rattle.qa_base.specs.machine.Violations.{IsToleratedRun}
use Rattle.qa_base.specs.machine.Timer.{Due, anti_deadlock, awaits_acknowledgment, deadline, earliest_loss, earliest_pto, last_eliciting, last_set, loss_due, packet_deadline, pto_count, pto_due}
use Rattle.qa_base.specs.values.Settings.{Settings, granularity}
use Rattle.qa_ledger.specs.causes.Causes.{basis_by, oldest_open, peer_delay}
use Rattle.qa_ledger.specs.declared.causes.cause.Basis.TheVariants as basis
use Rattle.qa_ledger.specs.declared.causes.cause.Oldest.{Oldest}
use Rattle.qa_violations.specs.laws.Terms.{HasTerms}
use Rattle.qa_base.proofs.history.Deadline.{first_sent_is, loss_due_is}
use Rattle.qa_base.proofs.history.Detection.{earlier_is}
use Rattle.qa_base.specs.history.Oldest.{due_of, is_flying}

-- ---- loss delays

-- what is told of the packet
told_packet : (c : Settings) (h : List Event) (s : Space) (p : Packet) → oldest_open c h s ≡ Some p
    → basis_by c h (is_some (packet_deadline c h)) Loss s ≡ Some (basis.Packet p.number p.time (rtt c h).latest_rtt (rtt c h).smoothed_rtt c.options.time_threshold_eighths)
told_packet c h s p at =
    ap (λ (o : Option Packet). option_map (λ (q : Oldest). basis.Packet q.number q.sent (rtt c h).latest_rtt (rtt c h).smoothed_rtt c.options.time_threshold_eighths)
    (option_map (λ (q : Packet). record { number = q.number; sent = q.time }) o)) at

of_first : (c : Settings) (h : List Event) (s : Space) (p : Packet) (due : Due) (below : Bool) → oldest_open c h s ≡ Some p
    → (if below then Some (record { kind = Loss; space = s; time = p.time + loss_delay c (rtt c h) }) else None) ≡ Some due → HasTerms c h due
of_first c h s p due false at is = cc
of_first c h s p due true at is =
    let same : record { kind = Loss; space = s; time = p.time + loss_delay c (rtt c h) } ≡ due = cc in
    subst (λ (d : Due). HasTerms c h d) same (record {
      basis = basis.Packet p.number p.time (rtt c h).latest_rtt (rtt c h).smoothed_rtt c.options.time_threshold_eighths;
      told = told_packet c h s p at;
      sum = refl;
    })

of_oldest : (c : Settings) (h : List Event) (s : Space) (o : Option Packet) (due : Due) → oldest_open c h s ≡ o → due_of c h s o ≡ Some due → HasTerms c h due
of_oldest c h s None due at is = cc
of_oldest c h s (Some p) due at is = of_first c h s p due (is_below_largest p.number (largest_acknowledged h s)) at is

loss_terms : (c : Settings) (h : List Event) → IsToleratedRun c h → (s : Space) (due : Due) → loss_due c h s ≡ Some due → HasTerms c h due
loss_terms c h run s due is =
    of_oldest c h s (oldest_open c h s) due refl
    (ap (due_of c h s) (sym (first_sent_is (is_flying c h) (packets_of h s))) ∙ (sym (loss_due_is c h (run) s) ∙ is))

-- ---- probe timeouts

-- what is told of the last ack-eliciting packet
told_eliciting : (c : Settings) (h : List Event) (s : Space) (sent : ℕ) → is_some (packet_deadline c h) ≡ true → last_eliciting h s ≡ Some sent
    → basis_by c h (is_some (packet_deadline c h)) Pto s
    ≡ Some (basis.Eliciting sent (rtt c h).smoothed_rtt (rtt c h).rttvar (peer_delay c s) (pto_count c h))
told_eliciting c h s sent by_packets at =
    ap (λ b. basis_by c h b Pto s) by_packets
    ∙ ap (λ (o : Option ℕ). option_map (λ sent. basis.Eliciting sent (rtt c h).smoothed_rtt (rtt c h).rttvar (peer_delay c s) (pto_count c h)) o) at

of_eliciting : (c : Settings) (h : List Event) (s : Space) (any : Bool) (o : Option ℕ) (due : Due) → is_some (packet_deadline c h) ≡ true → last_eliciting h s ≡ o
    → (if any then option_map (λ sent. record { kind = Pto; space = s; time = sent + (pto_base (granularity c) (rtt c h) + peer_delay c s) * 2 ^ pto_count c h }) o else None) ≡ Some due
    → HasTerms c h due
of_eliciting c h s false o due by_packets at is = cc
of_eliciting c h s true None due by_packets at is = cc
of_eliciting c h s true (Some sent) due by_packets at is =
    let same : record { kind = Pto; space = s; time = sent + (pto_base (granularity c) (rtt c h) + peer_delay c s) * 2 ^ pto_count c h } ≡ due = cc in
    subst (λ (d : Due). HasTerms c h d) same (record {
      basis = basis.Eliciting sent (rtt c h).smoothed_rtt (rtt c h).rttvar (peer_delay c s) (pto_count c h);
      told = told_eliciting c h s sent by_packets at;
      sum = refl;
    })

pto_terms : (c : Settings) (h : List Event) (s : Space) (due : Due) → is_some (packet_deadline c h) ≡ true → pto_due c h (peer_delay c s) s ≡ Some due → HasTerms c h due
pto_terms c h s due by_packets is =
    of_eliciting c h s (list_any (awaits_acknowledgment c h) (packets_of h s)) (last_eliciting h s) due by_packets refl is

if_confirmed : (c : Settings) (h : List Event) (confirmed : Bool) (due : Due) → is_some (packet_deadline c h) ≡ true
    → (if confirmed then pto_due c h c.max_ack_delay App else None) ≡ Some due → HasTerms c h due
if_confirmed c h false due by_packets is = cc
if_confirmed c h true due by_packets is = pto_terms c h App due by_packets is

of_ptos : (c : Settings) (h : List Event) (due : Due) → is_some (packet_deadline c h) ≡ true → earliest_pto c h ≡ Some due → HasTerms c h due
of_ptos c h due by_packets is =
    elim (earlier_is _ _ due is) [
      | inl first ↦ pto_terms c h Initial due by_packets first
      | inr later ↦ elim (earlier_is _ _ due later) [
        | inl second ↦ pto_terms c h Handshake due by_packets second
        | inr third ↦ if_confirmed c h (is_confirmed h) due by_packets third
      ]
    ]

of_losses : (c : Settings) (h : List Event) → IsToleratedRun c h → (due : Due) → earliest_loss c h ≡ Some due → HasTerms c h due
of_losses c h run due is =
    elim (earlier_is _ _ due is) [
      | inl first ↦ loss_terms c h run Initial due first
      | inr later ↦ elim (earlier_is _ _ due later) [
        | inl second ↦ loss_terms c h run Handshake due second
        | inr third ↦ loss_terms c h run App due third
      ]
    ]

-- ---- the timer that a client keeps

told_kept : (c : Settings) (h : List Event) (s : Space) (at : ℕ) → is_some (packet_deadline c h) ≡ false → last_set h ≡ Some at
    → basis_by c h (is_some (packet_deadline c h)) Pto s ≡ Some (basis.Kept at (rtt c h).smoothed_rtt (rtt c h).rttvar (pto_count c h))
told_kept c h s at by_itself is =
    ap (λ b. basis_by c h b Pto s) by_itself
    ∙ ap (λ (o : Option ℕ). option_map (λ at. basis.Kept at (rtt c h).smoothed_rtt (rtt c h).rttvar (pto_count c h)) o) is

of_kept : (c : Settings) (h : List Event) (s : Space) (validated : Bool) (o : Option ℕ) (due : Due) → is_some (packet_deadline c h) ≡ false → last_set h ≡ o
    → (if validated then None else option_map (λ at. record { kind = Pto; space = s; time = at + pto_base (granularity c) (rtt c h) * 2 ^ pto_count c h }) o) ≡ Some due
    → HasTerms c h due
of_kept c h s true o due by_itself at is = cc
of_kept c h s false None due by_itself at is = cc
of_kept c h s false (Some set_at) due by_itself at is =
    let same : record { kind = Pto; space = s; time = set_at + pto_base (granularity c) (rtt c h) * 2 ^ pto_count c h } ≡ due = cc in
    subst (λ (d : Due). HasTerms c h d) same (record {
      basis = basis.Kept set_at (rtt c h).smoothed_rtt (rtt c h).rttvar (pto_count c h);
      told = told_kept c h s set_at by_itself at;
      sum = refl;
    })

-- ---- any

by_parts : (c : Settings) (h : List Event) → IsToleratedRun c h → (by_loss by_pto : Option Due) (due : Due) → earliest_loss c h ≡ by_loss → earliest_pto c h ≡ by_pto
    → option_or by_loss (option_or by_pto (anti_deadlock c h)) ≡ Some due → HasTerms c h due
by_parts c h run (Some x) by_pto due loss_at pto_at is = of_losses c h run due (loss_at ∙ is)
by_parts c h run None (Some y) due loss_at pto_at is =
    of_ptos c h due (ap (λ o. is_some (option_or o (earliest_pto c h))) loss_at ∙ ap is_some pto_at) (pto_at ∙ is)
by_parts c h run None None due loss_at pto_at is =
    of_kept c h (if has_keys h then Handshake else Initial) (is_validated c h) (last_set h) due
    (ap (λ o. is_some (option_or o (earliest_pto c h))) loss_at ∙ ap is_some pto_at) refl is

pub deadline_terms : (c : Settings) (h : List Event) → IsToleratedRun c h → (due : Due) → deadline c h ≡ Some due → HasTerms c h due
deadline_terms c h run due is = by_parts c h run (earliest_loss c h) (earliest_pto c h) due refl refl is
