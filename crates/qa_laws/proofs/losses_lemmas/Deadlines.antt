-- Where nothing is free, the bytes in flight, the totals and the deadlines are the same under either header.
use Rattle.std.proofs.Common.{◌≡◌, ◌∙◌, ◌+◌, ◌*◌, ◌^◌, ◌&&◌, ◌||◌, not, ℕ, List, [], ◌∷◌, Bool, true, false, Option, Some, None, filter, map, option_map, refl, ap, ap₂, Contains}
use Rattle.std.specs.List.{list_any, AllByRecursion}
use Rattle.std.specs.Option.{option_or}
use Rattle.std.specs.Prelude.{if◌then◌else◌}
use Rattle.qa_base.specs.declared.event.Event.{Event}
use Rattle.qa_base.specs.declared.event.Event.TheVariants.{Lost}
use Rattle.qa_base.specs.declared.space.Controller.{Controller}
use Rattle.qa_base.specs.declared.space.Controller.TheVariants.{NewReno, Reported}
use Rattle.qa_base.specs.declared.space.Space.{Space}
use Rattle.qa_base.specs.declared.space.Space.TheVariants.{Initial, Handshake, App}
use Rattle.qa_base.specs.declared.space.TimerKind.TheVariants.{Loss, Pto}
use Rattle.qa_base.specs.machine.Estimates.{rtt, sampled}
use Rattle.qa_base.specs.machine.Handshake.{has_keys, is_confirmed, is_validated}
use Rattle.qa_base.specs.machine.Loss.{bytes_in_flight, flight_size, free, is_open, is_owed, owed}
use Rattle.qa_base.specs.machine.Packets.{Packet, packets, packets_of, is_acknowledged, is_below_largest, is_declared_lost, is_discarded, is_of, is_some_packet, largest_acknowledged, least_of}
use Rattle.qa_base.specs.machine.Reno.{reno}
use Rattle.qa_base.specs.machine.Rtt.{Estimate, loss_delay, pto_base}
use Rattle.qa_base.specs.machine.Rules.{IsRun}
use Rattle.qa_base.specs.machine.State.{totals}
use Rattle.qa_base.specs.machine.Timer.{Due, deadline, earlier, last_eliciting, last_set, packet_deadline, pto_count, sets_timer}
use Rattle.qa_base.specs.machine.Window.{reported_window, ssthresh, ssthresh_by, window, window_by}
use Rattle.qa_base.specs.values.Events.{declares_lost}
use Rattle.qa_base.specs.values.Settings.{Settings, granularity, is_reported}
use Rattle.qa_base.proofs.machine.Declared.{none_free_by}
use Rattle.qa_base.proofs.machine.Quiet.{newly-quiet, pto_count-quiet, rtt-quiet, same_sum}
use Rattle.qa_base.proofs.machine.Steps.{last_set_after}
use Rattle.qa_base.proofs.machine.RunLaws.{tolerated_run_of}
use Rattle.qa_laws.specs.machine.Alike.{where_they_must}
use Rattle.qa_base.proofs.history.Changes.{lost_after, names_taken}
use Rattle.qa_base.proofs.history.Pairs.{of_each, part_is, same_part}
use Rattle.qa_laws.proofs.losses_lemmas.Owing.{must_lose, nameable_alone}
use Rattle.qa_laws.proofs.losses_lemmas.Settling.{Formed, opens, owed_may_be_named, same}

-- ---- what the timer is set for, by the estimate, the packets that are open, the probe timeouts and when it was last set

abbrev loss_by : ℕ → List Event → (Packet → Bool) → Space → Option Due
loss_by delay h flies s =
    option_map (λ sent. record { kind = Loss; space = s; time = sent + delay })
    (least_of (map (λ p. p.time) (filter (λ p. p.in_flight && flies p && is_below_largest p.number (largest_acknowledged h p.space)) (packets_of h s))))

abbrev first_loss_by : ℕ → List Event → (Packet → Bool) → Option Due
first_loss_by delay h flies = earlier (loss_by delay h flies Initial) (earlier (loss_by delay h flies Handshake) (loss_by delay h flies App))

abbrev pto_by : Settings → List Event → Estimate → (Packet → Bool) → ℕ → ℕ → Space → Option Due
pto_by c h r flies count delay s =
    if list_any (λ p. p.eliciting && flies p) (packets_of h s)
    then option_map (λ sent. record { kind = Pto; space = s; time = sent + (pto_base (granularity c) r + delay) * 2 ^ count }) (last_eliciting h s)
    else None

abbrev first_pto_by : Settings → List Event → Estimate → (Packet → Bool) → ℕ → Option Due
first_pto_by c h r flies count =
    earlier (pto_by c h r flies count 0 Initial) (earlier (pto_by c h r flies count 0 Handshake)
    (if is_confirmed h then pto_by c h r flies count c.max_ack_delay App else None))

abbrev anti_deadlock_by : Settings → List Event → Estimate → ℕ → Option ℕ → Option Due
anti_deadlock_by c h r count last =
    if is_validated c h then None
    else option_map (λ set. record {
      kind = Pto;
      space = if has_keys h then Handshake else Initial;
      time = set + pto_base (granularity c) r * 2 ^ count;
    }) last

abbrev packet_deadline_by : Settings → List Event → Estimate → (Packet → Bool) → ℕ → Option Due
packet_deadline_by c h r flies count = option_or (first_loss_by (loss_delay c r) h flies) (first_pto_by c h r flies count)

abbrev deadline_by : Settings → List Event → Estimate → (Packet → Bool) → ℕ → Option ℕ → Option Due
deadline_by c h r flies count last =
    option_or (first_loss_by (loss_delay c r) h flies) (option_or (first_pto_by c h r flies count) (anti_deadlock_by c h r count last))

deadline_is : (c : Settings) (h : List Event) → deadline c h ≡ deadline_by c h (rtt c h) (is_open c h) (pto_count c h) (last_set h)
deadline_is c h = refl

packet_deadline_is : (c : Settings) (h : List Event) → packet_deadline c h ≡ packet_deadline_by c h (rtt c h) (is_open c h) (pto_count c h)
packet_deadline_is c h = refl

-- ---- the same packets

-- the two tests say the same of each packet
abbrev Agrees : List Event → (Packet → Bool) → (Packet → Bool) → Type 0
Agrees h f g = (p : Packet) → Contains (packets h) p → f p ≡ g p

agree_of : (h : List Event) (s : Space) (f g : Packet → Bool) (test : Packet → Bool → Bool) → Agrees h f g → AllByRecursion (λ p. test p (f p) ≡ test p (g p)) (packets_of h s)
agree_of h s f g test same =
    of_each (λ p. test p (f p) ≡ test p (g p)) (packets_of h s) (λ p has. ap (test p) (same p (part_is (is_of s) (packets h) p has).0))

any_alike : (f g : Packet → Bool) (ps : List Packet) → AllByRecursion (λ p. f p ≡ g p) ps → list_any f ps ≡ list_any g ps
any_alike f g [] same = refl
any_alike f g (p ∷ ps) same = ap₂ (λ here rest. here || rest) same.0 (any_alike f g ps same.1)

same_loss : (delay : ℕ) (h : List Event) (f g : Packet → Bool) → Agrees h f g → (s : Space) → loss_by delay h f s ≡ loss_by delay h g s
same_loss delay h f g same s =
    ap (λ ps. option_map (λ sent. record { kind = Loss; space = s; time = sent + delay }) (least_of (map (λ (p : Packet). p.time) ps)))
    (same_part (λ p. p.in_flight && f p && is_below_largest p.number (largest_acknowledged h p.space)) (λ p. p.in_flight && g p && is_below_largest p.number (largest_acknowledged h p.space)) (packets_of h s)
    (agree_of h s f g (λ p b. p.in_flight && b && is_below_largest p.number (largest_acknowledged h p.space)) same))

same_first_loss : (delay : ℕ) (h : List Event) (f g : Packet → Bool) → Agrees h f g → first_loss_by delay h f ≡ first_loss_by delay h g
same_first_loss delay h f g same =
    ap₂ earlier (same_loss delay h f g same Initial) (ap₂ earlier (same_loss delay h f g same Handshake) (same_loss delay h f g same App))

same_pto : (c : Settings) (h : List Event) (r : Estimate) (f g : Packet → Bool) (count delay : ℕ) → Agrees h f g → (s : Space) → pto_by c h r f count delay s ≡ pto_by c h r g count delay s
same_pto c h r f g count delay same s =
    ap (λ (some : Bool). if some
    then option_map (λ sent. record { kind = Pto; space = s; time = sent + (pto_base (granularity c) r + delay) * 2 ^ count }) (last_eliciting h s)
    else None)
    (any_alike (λ p. p.eliciting && f p) (λ p. p.eliciting && g p) (packets_of h s) (agree_of h s f g (λ p b. p.eliciting && b) same))

same_first_pto : (c : Settings) (h : List Event) (r : Estimate) (f g : Packet → Bool) (count : ℕ) → Agrees h f g → first_pto_by c h r f count ≡ first_pto_by c h r g count
same_first_pto c h r f g count same =
    ap₂ earlier (same_pto c h r f g count 0 same Initial) (ap₂ earlier (same_pto c h r f g count 0 same Handshake)
    (ap (λ due. if is_confirmed h then due else None) (same_pto c h r f g count c.max_ack_delay same App)))

by_packets : (c : Settings) (h : List Event) (r : Estimate) (f g : Packet → Bool) (count : ℕ) (last : Option ℕ) → Agrees h f g → deadline_by c h r f count last ≡ deadline_by c h r g count last
by_packets c h r f g count last same =
    ap₂ (λ loss pto. option_or loss (option_or pto (anti_deadlock_by c h r count last))) (same_first_loss (loss_delay c r) h f g same) (same_first_pto c h r f g count same)

packets_by_packets : (c : Settings) (h : List Event) (r : Estimate) (f g : Packet → Bool) (count : ℕ) → Agrees h f g → packet_deadline_by c h r f count ≡ packet_deadline_by c h r g count
packets_by_packets c h r f g count same = ap₂ option_or (same_first_loss (loss_delay c r) h f g same) (same_first_pto c h r f g count same)

-- ---- under either header, where nothing is free

pub same_deadline : (c : Settings) (h : List Event) → Formed c h → free c h ≡ [] → deadline (where_they_must c) h ≡ deadline c h
same_deadline c h formed none =
    let m = where_they_must c in
    ap (λ r. deadline_by c h r (is_open m h) (pto_count c h) (last_set h)) (same c h formed none).estimate
    ∙ by_packets c h (rtt c h) (is_open m h) (is_open c h) (pto_count c h) (last_set h) (opens c h formed none)

pub same_packet_deadline : (c : Settings) (h : List Event) → Formed c h → free c h ≡ [] → packet_deadline (where_they_must c) h ≡ packet_deadline c h
same_packet_deadline c h formed none =
    let m = where_they_must c in
    ap (λ r. packet_deadline_by c h r (is_open m h) (pto_count c h)) (same c h formed none).estimate
    ∙ packets_by_packets c h (rtt c h) (is_open m h) (is_open c h) (pto_count c h) (opens c h formed none)

pub same_bytes : (c : Settings) (h : List Event) → Formed c h → free c h ≡ [] → bytes_in_flight (where_they_must c) h ≡ bytes_in_flight c h
same_bytes c h formed none =
    same_sum (flight_size (where_they_must c) h) (flight_size c h) (packets h) (of_each (λ p. flight_size (where_they_must c) h p ≡ flight_size c h p) (packets h)
    (λ p has. ap (λ here. if p.in_flight && here then p.size else 0) (opens c h formed none p has)))

window_alike : (k : Controller) (own other reported : ℕ) → is_reported k ≡ true → window_by k own reported ≡ window_by k other reported
window_alike NewReno own other reported is = cc
window_alike Reported own other reported is = refl

threshold_alike : (k : Controller) (own other : Option ℕ) → is_reported k ≡ true → ssthresh_by k own ≡ ssthresh_by k other
threshold_alike NewReno own other is = cc
threshold_alike Reported own other is = refl

-- the sender reports its window
pub same_window : (c : Settings) (h : List Event) → is_reported c.options.controller ≡ true → window (where_they_must c) h ≡ window c h
same_window c h reported = window_alike c.options.controller (reno (where_they_must c) h).window (reno c h).window (reported_window c h) reported

same_ssthresh : (c : Settings) (h : List Event) → is_reported c.options.controller ≡ true → ssthresh (where_they_must c) h ≡ ssthresh c h
same_ssthresh c h reported = threshold_alike c.options.controller (reno (where_they_must c) h).ssthresh (reno c h).ssthresh reported

pub same_totals : (c : Settings) (h : List Event) → is_reported c.options.controller ≡ true → Formed c h → free c h ≡ [] → totals (where_they_must c) h ≡ totals c h
same_totals c h reported formed none =
    let owes_same : owed (where_they_must c) h ≡ owed c h = owed_may_be_named c h formed ∙ nameable_alone c h none in
    rw (same_window c h reported, same_ssthresh c h reported, same_bytes c h formed none, (same c h formed none).estimate, owes_same) refl

-- ---- a Lost line, where losses by number must be declared

open_if : (covered lost owes gone : Bool) → (not covered && not (owes || lost) && not false && not gone) ≡ (not covered && not lost && not owes && not gone)
open_if true lost owes gone = refl
open_if false true true gone = refl
open_if false true false gone = refl
open_if false false true gone = refl
open_if false false false gone = refl

or_none : (b n : Bool) → (b || (false && n)) ≡ b
or_none true n = refl
or_none false n = refl

-- it names what was owed, so that the same packets are open behind it
lost_leaves_open : (c : Settings) (time : ℕ) (space : Space) (ranges : List (ℕ × ℕ)) (h : List Event) → IsRun (where_they_must c) (Lost time space ranges ∷ h)
    → Agrees h (is_open (where_they_must c) (Lost time space ranges ∷ h)) (is_open (where_they_must c) h)
lost_leaves_open c time space ranges h run p has =
    let m = where_they_must c in
    let e = Lost time space ranges in
    let named : declares_lost p.space p.number e ≡ is_owed m h p =
    names_taken m h time space ranges (tolerated_run_of m (Lost time space ranges ∷ h) run) p has ∙ (ap (λ b. is_owed m h p || (b && declares_lost p.space p.number e)) (none_free_by m (sampled m h) h p refl)
    ∙ or_none (is_owed m h p) (declares_lost p.space p.number e)) in
    let lost : is_declared_lost (e ∷ h) p ≡ (is_owed m h p || is_declared_lost h p) = lost_after e h p has ∙ ap (λ b. b || is_declared_lost h p) named in
    ap (λ b. not (is_acknowledged h p) && not b && not false && not (is_discarded h p.space)) lost
    ∙ open_if (is_acknowledged h p) (is_declared_lost h p) (is_owed m h p) (is_discarded h p.space)

not_set : (time : ℕ) (space : Space) (ranges : List (ℕ × ℕ)) (h : List Event) → last_set (Lost time space ranges ∷ h) ≡ last_set h
not_set time space ranges h =
    let e = Lost time space ranges in
    let none : sets_timer (e ∷ h) ≡ false = ap is_some_packet (newly-quiet e h refl) in
    last_set_after e h ∙ ap (λ (b : Bool). if b then Some time else last_set h) none

-- and the deadline is the same
pub lost_leaves_deadline : (c : Settings) (time : ℕ) (space : Space) (ranges : List (ℕ × ℕ)) (h : List Event) → IsRun (where_they_must c) (Lost time space ranges ∷ h)
    → deadline (where_they_must c) (Lost time space ranges ∷ h) ≡ deadline (where_they_must c) h
lost_leaves_deadline c time space ranges h run =
    let m = where_they_must c in
    let e = Lost time space ranges in
    ap (λ r. deadline_by c h r (is_open m (e ∷ h)) (pto_count m (e ∷ h)) (last_set (e ∷ h))) (rtt-quiet m e h refl (must_lose c e h))
    ∙ (ap (λ n. deadline_by c h (rtt m h) (is_open m (e ∷ h)) n (last_set (e ∷ h))) (pto_count-quiet m e h refl)
    ∙ (ap (deadline_by c h (rtt m h) (is_open m (e ∷ h)) (pto_count m h)) (not_set time space ranges h)
    ∙ by_packets c h (rtt m h) (is_open m (e ∷ h)) (is_open m h) (pto_count m h) (last_set h) (lost_leaves_open c time space ranges h run)))
