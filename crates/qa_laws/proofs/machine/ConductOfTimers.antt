-- After a loss timer a loss is owed.
use Rattle.std.proofs.Common.{◌≡◌, ◌∙◌, ◌+◌, ◌-◌, ◌≤◌, ℕ, List, [], ◌∷◌, Bool, true, false, ◌&&◌, ◌||◌, Option, Some, None, option_map, max, min, refl, sym, ap, arith, subst, Contains, inl, inr, not}
use Rattle.std.proofs.lemmas.Bool.{and_parts, and_from, or_right, ltb-false}
use Rattle.std.specs.Option.{option_or}
use Rattle.std.specs.Prelude.{nat_lt}
use Rattle.qa_base.specs.declared.event.Event.{Event}
use Rattle.qa_base.specs.declared.event.Event.TheVariants.{Timer}
use Rattle.qa_base.specs.declared.space.TimerKind.TheVariants.{Loss}
use Rattle.qa_base.specs.declared.space.Space.{Space}
use Rattle.qa_base.specs.declared.space.Space.TheVariants.{Initial, Handshake, App}
use Rattle.qa_base.specs.machine.Breaches.{is_before}
use Rattle.qa_base.specs.machine.Estimates.{rtt, sampled}
use Rattle.qa_base.specs.machine.Rtt.{Estimate, loss_delay}
use Rattle.qa_base.specs.machine.Detection.{is_far_below, is_found, is_past_threshold, is_old, is_unsettled, looks_at, old_at}
use Rattle.qa_base.specs.machine.Loss.{owed, is_open}
use Rattle.qa_base.specs.history.Oldest.{is_flying, due_of}
use Rattle.qa_base.specs.machine.Packets.{Packet, packets_of, largest_acknowledged, is_below_largest}
use Rattle.qa_base.specs.machine.Rules.{IsRun}
use Rattle.qa_base.specs.values.Settings.{Settings, early, is_may}
use Rattle.qa_base.specs.machine.Timer.{Due, deadline, earlier, earliest_loss, earliest_pto, anti_deadlock, loss_due}
use Rattle.qa_base.proofs.history.Awaiting.{earliest_of_space, old_at_is}
use Rattle.qa_base.proofs.history.ToleratedRuns.{is_space_is}
use Rattle.qa_base.proofs.history.Deadline.{first_passes, loss_due_is}
use Rattle.qa_base.proofs.history.Detection.{probes, loss_of, earlier_is, timer_is}
use Rattle.qa_base.proofs.history.Pairs.{part_has}
use Rattle.qa_base.proofs.machine.RunLaws.{all_hold, old_is_after_loss_delay, tolerated_run_of}
use Rattle.qa_base.proofs.history.Settled.{opens_is}
use Rattle.qa_base.proofs.history.Deadline.{oldest_flying}

-- a packet of the space is open and in flight, below the largest acknowledged number, and old when the loss timer goes off
pub record Awaits (c : Settings) (h : List Event) (due : Due) : Type 0 where
  pub packet : Packet
  pub sent : Contains (packets_of h due.space) packet
  pub flying : is_flying c h packet ≡ true
  pub below : is_below_largest packet.number (largest_acknowledged h due.space) ≡ true
  pub time : due.time ≡ packet.time + loss_delay c (rtt c h)

due_if : (c : Settings) (h : List Event) (s : Space) (p : Packet) (due : Due) (b : Bool) → is_below_largest p.number (largest_acknowledged h s) ≡ b
    → Contains (packets_of h s) p → is_flying c h p ≡ true → due_of c h s (Some p) ≡ Some due → Awaits c h due
due_if c h s p due true below has flying is =
    let more = rw below at is in
    let same : record { kind = Loss; space = s; time = p.time + loss_delay c (rtt c h) } ≡ due = cc in
    subst (λ (d : Due). Awaits c h d) same (record { packet = p; sent = has; flying = flying; below = below; time = refl })
due_if c h s p due false below has flying is = let more = rw below at is in cc

due_awaits : (c : Settings) (h : List Event) (s : Space) (o : Option Packet) (due : Due) → oldest_flying c h s ≡ o → due_of c h s o ≡ Some due → Awaits c h due
due_awaits c h s None due oldest is = cc
due_awaits c h s (Some p) due oldest is =
    let found = first_passes (is_flying c h) (packets_of h s) p oldest in
    due_if c h s p due (is_below_largest p.number (largest_acknowledged h s)) refl found.0 found.1 is

loss_awaits : (c : Settings) (h : List Event) → IsRun c h → (s : Space) (due : Due) → loss_due c h s ≡ Some due → Awaits c h due
loss_awaits c h run s due is = due_awaits c h s (oldest_flying c h s) due refl (sym (loss_due_is c h (tolerated_run_of c h run) s) ∙ is)

earliest_awaits : (c : Settings) (h : List Event) → IsRun c h → (due : Due) → earliest_loss c h ≡ Some due → Awaits c h due
earliest_awaits c h run due is = elim (earlier_is (loss_due c h Initial) (earlier (loss_due c h Handshake) (loss_due c h App)) due is) [
  | inl first ↦ loss_awaits c h run Initial due first
  | inr later ↦ elim (earlier_is (loss_due c h Handshake) (loss_due c h App) due later) [
    | inl second ↦ loss_awaits c h run Handshake due second
    | inr third ↦ loss_awaits c h run App due third
  ]
]

late_from : (c : Settings) (r : Estimate) (h : List Event) (now : ℕ) (p : Packet) (most : Option ℕ) → is_below_largest p.number most ≡ true → is_old c r now p ≡ true → is_past_threshold c r h now most p ≡ true
late_from c r h now p None below old = cc
late_from c r h now p (Some m) below old =
    and_from (nat_lt p.number m) ((not (is_may c.options.loss_by_number) && is_far_below c h m p) || is_old c r now p) below (or_right (not (is_may c.options.loss_by_number) && is_far_below c h m p) (is_old c r now p) old)

none_has : (ps : List Packet) (p : Packet) → Contains ps p → ps ≡ [] → ⊥
none_has [] p (k, within, is) none = omega arith
none_has (q ∷ ps) p has none = cc

-- a loss timer goes off in a space, whose first packet is old at its deadline, by no more than a timer may be early later
pub record IsSetFor (c : Settings) (h : List Event) (time : ℕ) (space : Space) : Type 0 where
  pub due : Due
  pub set : deadline c h ≡ Some due
  pub loss : earliest_loss c h ≡ Some due
  pub of_space : space ≡ due.space
  pub old : old_at c (rtt c h) h space ≡ Some due.time
  pub soon : due.time ≤ time + early c

pub set_for : (c : Settings) (h : List Event) (time : ℕ) (space : Space) → IsRun c (Timer time Loss space ∷ h) → IsSetFor c h time space
set_for c h time space run =
    let holds = all_hold c h (Timer time Loss space) run.1 in
    let set = timer_is Loss space (deadline c h) holds.timer_not_set holds.timer_other in
    let due = set.0 in
    let soon : is_before (time + early c) (Some due) ≡ false = rw set.1 at holds.timer_early in
    let loss = loss_of (earliest_loss c h) (option_or (earliest_pto c h) (anti_deadlock c h)) due (probes c h) set.1 set.2 in
    let of_space : space ≡ due.space = is_space_is space due.space set.3 in
    let here : loss_due c h space ≡ Some due = subst (λ (s : Space). loss_due c h s ≡ Some due) (sym of_space) (earliest_of_space c h due loss) in
    record {
      due = due;
      set = set.1;
      loss = loss;
      of_space = of_space;
      old = sym (old_at_is c h time space (tolerated_run_of c (Timer time Loss space ∷ h) run)) ∙ ap (option_map (λ (d : Due). d.time)) here;
      soon = ltb-false (time + early c) due.time soon;
    }

-- after a loss timer of a run a loss is owed
pub timer_owes : (c : Settings) (h : List Event) (time : ℕ) (space : Space) → IsRun c (Timer time Loss space ∷ h) → owed c (Timer time Loss space ∷ h) ≡ [] → ⊥
timer_owes c h time space run none =
    let set = set_for c h time space run in
    let due = set.due in
    let of_space = set.of_space in
    let awaits = earliest_awaits c h run.0 due set.loss in
    let p = awaits.packet in
    let now = looks_at (early c) time (old_at c (rtt c h) h space) in
    let now_is : now ≡ max time (min due.time (time + early c)) = ap (looks_at (early c) time) set.old in
    let waited : loss_delay c (rtt c h) ≤ now - p.time = omega (arith, set.soon, awaits.time, now_is) in
    let old = (old_is_after_loss_delay c (rtt c h) now p).1 waited in
    let below : is_below_largest p.number (largest_acknowledged h space) ≡ true = subst (λ (s : Space). is_below_largest p.number (largest_acknowledged h s) ≡ true) (sym of_space) awaits.below in
    let has : Contains (packets_of h space) p = subst (λ (s : Space). Contains (packets_of h s) p) (sym of_space) awaits.sent in
    let flying = and_parts p.in_flight (is_open c h p) awaits.flying in
    let late = late_from c (rtt c h) (Timer time Loss space ∷ h) now p (largest_acknowledged h space) below old in
    let unsettled = (opens_is c h p flying.1).unsettled in
    let e = Timer time Loss space in
    let found : is_found c (sampled c (e ∷ h)) (e ∷ h) now space p ≡ true = and_from (p.in_flight && is_unsettled (e ∷ h) p) (is_past_threshold c (sampled c (e ∷ h)) (e ∷ h) now (largest_acknowledged (e ∷ h) space) p)
    (and_from p.in_flight (is_unsettled (e ∷ h) p) flying.0 unsettled) late in
    none_has (owed c (e ∷ h)) p (part_has (is_found c (sampled c (e ∷ h)) (e ∷ h) now space) (packets_of (e ∷ h) space) p has found) none
