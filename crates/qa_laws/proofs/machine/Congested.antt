-- What persistent congestion makes of the estimate of the round-trip time.
use Rattle.std.proofs.Common.{◌≡◌, ◌∙◌, ℕ, List, [], ◌∷◌, Bool, true, false, ◌&&◌, Option, Some, None, refl, sym, ap}
use Rattle.std.specs.Prelude.{if◌then◌else◌}
use Rattle.qa_base.specs.declared.event.Event.{Event}
use Rattle.qa_base.specs.machine.Detection.{is_after, is_end}
use Rattle.qa_base.specs.machine.Estimates.{rtt, with_sample_of}
use Rattle.qa_base.specs.machine.Loss.{is_persistent}
use Rattle.qa_base.specs.machine.Packets.{Packet}
use Rattle.qa_base.specs.machine.Rtt.{Estimate, after_congestion, first_sample, refreshed, reset, start, with_sample, with_sample_by}
use Rattle.qa_base.specs.values.Settings.{Settings}
use Rattle.qa_base.proofs.machine.Quiet.{no_congestion}
use Rattle.qa_laws.specs.machine.Congested.{NeverPersistent, samples_alone}

-- without it, it is that of the samples
pub by_samples_alone : (c : Settings) (h : List Event) → NeverPersistent c h → rtt c h ≡ samples_alone c h
by_samples_alone c [] none = refl
by_samples_alone c (e ∷ h) none =
    no_congestion c (with_sample_of c (e ∷ h) (rtt c h)) (is_persistent c (e ∷ h)) none.1
    ∙ ap (with_sample_of c (e ∷ h)) (by_samples_alone c h none.0)

reset_if : (initial_rtt : ℕ) (resets refreshes : Bool) (r : Estimate) → resets ≡ true
    → (if resets then reset initial_rtt r else (if refreshes then refreshed r else r)) ≡ reset initial_rtt r
reset_if initial_rtt true refreshes r is = refl
reset_if initial_rtt false refreshes r is = cc

-- with it, where the header says so, it is reset
reset_is : (c : Settings) (e : Event) (h : List Event) → c.options.reset_rtt ≡ true → is_persistent c (e ∷ h) ≡ true
    → rtt c (e ∷ h) ≡ reset c.initial_rtt (with_sample_of c (e ∷ h) (rtt c h))
reset_is c e h resets is =
    let own = with_sample_of c (e ∷ h) (rtt c h) in
    ap (λ b. after_congestion c b own) is ∙ reset_if c.initial_rtt c.options.reset_rtt c.options.refresh_min_rtt own resets

pub begins_again : (c : Settings) (e : Event) (h : List Event) → c.options.reset_rtt ≡ true → is_persistent c (e ∷ h) ≡ true
    → rtt c (e ∷ h) ≡ record (start c.initial_rtt) { latest_rtt = (rtt c (e ∷ h)).latest_rtt }
begins_again c e h resets is =
    let there = reset_is c e h resets is in
    there ∙ ap (λ (n : ℕ). record (start c.initial_rtt) { latest_rtt = n }) (sym (ap (λ (r : Estimate). r.latest_rtt) there))

changed_latest : (initial_rtt : ℕ) (resets refreshes : Bool) (r : Estimate)
    → (let on : Estimate = if resets then reset initial_rtt r else (if refreshes then refreshed r else r) in on.latest_rtt ≡ r.latest_rtt)
changed_latest initial_rtt true refreshes r = refl
changed_latest initial_rtt false true r = refl
changed_latest initial_rtt false false r = refl

after_latest : (c : Settings) (b : Bool) (r : Estimate) → (after_congestion c b r).latest_rtt ≡ r.latest_rtt
after_latest c true r = changed_latest c.initial_rtt c.options.reset_rtt c.options.refresh_min_rtt r
after_latest c false r = refl

-- the latest RTT stays in any case
pub latest_stays : (c : Settings) (e : Event) (h : List Event) → (rtt c (e ∷ h)).latest_rtt ≡ (with_sample_of c (e ∷ h) (rtt c h)).latest_rtt
latest_stays c e h = after_latest c (is_persistent c (e ∷ h)) (with_sample_of c (e ∷ h) (rtt c h))

unsampled : (c : Settings) (e : Event) (h : List Event) → c.options.reset_rtt ≡ true → is_persistent c (e ∷ h) ≡ true → (rtt c (e ∷ h)).first_rtt_sample ≡ None
unsampled c e h resets is = ap (λ (r : Estimate). r.first_rtt_sample) (reset_is c e h resets is)

-- the next sample is a first one
pub sampled_first : (c : Settings) (e : Event) (h : List Event) → c.options.reset_rtt ≡ true → is_persistent c (e ∷ h) ≡ true
    → (less_delay : Bool) (latest_rtt ack_delay now : ℕ) → with_sample less_delay (rtt c (e ∷ h)) latest_rtt ack_delay now ≡ first_sample latest_rtt now
sampled_first c e h resets is less_delay latest_rtt ack_delay now =
    ap (λ (first : Option ℕ). with_sample_by first less_delay (rtt c (e ∷ h)) latest_rtt ack_delay now) (unsampled c e h resets is)

not_after : (first : Option ℕ) (p : Packet) (eliciting : Bool) → first ≡ None → (eliciting && is_after first p) ≡ false
not_after None p true none = refl
not_after None p false none = refl
not_after (Some time) p eliciting none = cc

-- and no packet is an end of persistent congestion
pub no_end : (c : Settings) (e : Event) (h : List Event) → c.options.reset_rtt ≡ true → is_persistent c (e ∷ h) ≡ true → (p : Packet) → is_end (rtt c (e ∷ h)) p ≡ false
no_end c e h resets is p = not_after (rtt c (e ∷ h)).first_rtt_sample p p.eliciting (unsampled c e h resets is)
