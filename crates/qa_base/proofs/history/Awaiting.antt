-- When a loss timer is set for: the packets of its space that are in flight and unsettled, where nothing is owed.
use Rattle.std.proofs.Common.{◌≡◌, ◌∙◌, ◌+◌, ◌*◌, ℕ, min, List, ◌∷◌, Bool, true, false, ◌&&◌, not, Option, Some, None, option_map, map, mul-zero, refl, sym, ap, arith, subst, inl, inr}
use Rattle.std.specs.List.{AllByRecursion, filter}
use Rattle.qa_base.specs.declared.event.Event.{Event}
use Rattle.qa_base.specs.declared.event.Event.TheVariants.{Timer}
use Rattle.qa_base.specs.declared.space.TimerKind.{TimerKind}
use Rattle.qa_base.specs.declared.space.TimerKind.TheVariants.{Loss}
use Rattle.qa_base.specs.declared.space.Space.{Space}
use Rattle.qa_base.specs.declared.space.Space.TheVariants.{Initial, Handshake, App}
use Rattle.qa_base.specs.machine.Breaches.{is_before, is_timer_early}
use Rattle.qa_base.specs.machine.Detection.{awaits_timer, is_unsettled, looks_at, old_at}
use Rattle.qa_base.specs.machine.Estimates.{rtt}
use Rattle.qa_base.specs.machine.Loss.{detection, is_owed, owed}
use Rattle.qa_base.specs.machine.Packets.{is_below_largest, is_discarded, is_of, is_some_packet, largest_acknowledged, least_of, packets, packets_of}
use Rattle.qa_base.specs.machine.Rtt.{loss_delay}
use Rattle.qa_base.specs.machine.Violations.{IsToleratedRun}
use Rattle.qa_base.specs.machine.Timer.{Due, awaits_loss, deadline, earlier, earliest_loss, loss_due}
use Rattle.qa_base.specs.values.Settings.{Settings, early, per_microsecond}
use Rattle.qa_base.proofs.machine.RunLaws.{form_holds}
use Rattle.qa_base.proofs.history.Changes.{not_owed_now}
use Rattle.qa_base.proofs.history.ToleratedRuns.{is_space_is}
use Rattle.qa_base.proofs.history.Detection.{earlier_is, timer_there}
use Rattle.qa_base.proofs.history.Pairs.{of_each, part_is, same_part}

twice : (flies unsettled below : Bool) → (flies && (unsettled && true && true) && below) ≡ (flies && unsettled && below)
twice true true below = refl
twice true false below = refl
twice false unsettled below = refl

open_if : (flies unsettled owes gone below : Bool) → owes ≡ false → gone ≡ false → (flies && (unsettled && not owes && not gone) && below) ≡ (flies && unsettled && below)
open_if flies unsettled owes gone below free there = rw (free, there) (twice flies unsettled below)

same_awaits : (c : Settings) (e : Event) (h : List Event) (s : Space) → is_some_packet (owed c h) ≡ false → is_discarded h s ≡ false → AllByRecursion (λ p. awaits_loss c h p ≡ awaits_timer h p) (packets_of h s)
same_awaits c e h s none there = of_each (λ p. awaits_loss c h p ≡ awaits_timer h p) (packets_of h s) (λ p has.
    let inside = part_is (is_of s) (packets h) p has in
    let free : is_owed c h p ≡ false = not_owed_now c e h p inside.0 none in
    let gone : is_discarded h p.space ≡ false = rw (← is_space_is s p.space inside.1) there in
    open_if p.in_flight (is_unsettled h p) (is_owed c h p) (is_discarded h p.space) (is_below_largest p.number (largest_acknowledged h p.space)) free gone)

mapped : (s : Space) (delay : ℕ) (o : Option ℕ)
    → option_map (λ (d : Due). d.time) (option_map (λ sent. record { kind = Loss; space = s; time = sent + delay }) o) ≡ option_map (λ sent. sent + delay) o
mapped s delay None = refl
mapped s delay (Some sent) = refl

-- in a tolerated run, when a loss timer goes off in a space, it is set for the time at which the first packet is old
pub old_at_is : (c : Settings) (h : List Event) (time : ℕ) (s : Space) → IsToleratedRun c (Timer time Loss s ∷ h) → option_map (λ (d : Due). d.time) (loss_due c h s) ≡ old_at c (rtt c h) h s
old_at_is c h time s run =
    let holds = form_holds c h (Timer time Loss s) run.1 in
    let delay = loss_delay c (rtt c h) in
    mapped s delay (least_of (map (λ p. p.time) (filter (awaits_loss c h) (packets_of h s))))
    ∙ ap (λ ps. option_map (λ sent. sent + delay) (least_of (map (λ p. p.time) ps))) (same_part (awaits_loss c h) (awaits_timer h) (packets_of h s) (same_awaits c (Timer time Loss s) h s holds.loss_owed (timer_there c h time s run)))

space_mapped : (s : Space) (delay : ℕ) (o : Option ℕ) (due : Due) → option_map (λ sent. record { kind = Loss; space = s; time = sent + delay }) o ≡ Some due → due.space ≡ s
space_mapped s delay None due is = cc
space_mapped s delay (Some sent) due is = let same : record { kind = Loss; space = s; time = sent + delay } ≡ due = cc in ap (λ (d : Due). d.space) (sym same)

in_its_space : (c : Settings) (h : List Event) (s : Space) (due : Due) → loss_due c h s ≡ Some due → loss_due c h due.space ≡ Some due
in_its_space c h s due is = subst (λ (t : Space). loss_due c h t ≡ Some due) (sym (space_mapped s (loss_delay c (rtt c h)) _ due is)) is

-- the earliest loss time is that of its space
pub earliest_of_space : (c : Settings) (h : List Event) (due : Due) → earliest_loss c h ≡ Some due → loss_due c h due.space ≡ Some due
earliest_of_space c h due is = elim (earlier_is (loss_due c h Initial) (earlier (loss_due c h Handshake) (loss_due c h App)) due is) [
  | inl first ↦ in_its_space c h Initial due first
  | inr later ↦ elim (earlier_is (loss_due c h Handshake) (loss_due c h App) due later) [
    | inl second ↦ in_its_space c h Handshake due second
    | inr third ↦ in_its_space c h App due third
  ]
]

-- ---- without a tolerance

none_early : (c : Settings) → c.options.timer_early_us ≡ 0 → early c ≡ 0
none_early c none = ap (λ n. per_microsecond c.unit * min n 1000000000) none ∙ mul-zero (per_microsecond c.unit)

looks_now : (time : ℕ) (due : Option ℕ) → looks_at 0 time due ≡ time
looks_now time None = refl
looks_now time (Some due) = omega arith

pub looks_when_it_goes_off : (c : Settings) (h : List Event) (time : ℕ) (space : Space) → c.options.timer_early_us ≡ 0 → ◌≡◌ {A = Option (Space × ℕ)} (detection c (Timer time Loss space ∷ h)) (Some (space, time))
looks_when_it_goes_off c h time space none =
    ap (λ n. Some (space, n)) (ap (λ tolerance. looks_at tolerance time (old_at c (rtt c h) h space)) (none_early c none) ∙ looks_now time (old_at c (rtt c h) h space))

pub early_without : (c : Settings) (h : List Event) (time : ℕ) (kind : TimerKind) (space : Space) → c.options.timer_early_us ≡ 0 → is_timer_early c h (Timer time kind space) ≡ is_before time (deadline c h)
early_without c h time kind space none = ap (λ n. is_before (time + n) (deadline c h)) (none_early c none) ∙ ap (λ n. is_before n (deadline c h)) (later time)
  where
    later : (time : ℕ) → time + 0 ≡ time
    later time = omega arith
