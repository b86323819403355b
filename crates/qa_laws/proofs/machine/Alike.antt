-- What alike headers have in common: all that a history makes, where losses are looked for as of the same times.
use Rattle.qa_base.proofs.machine.Quiet.{same_sum}
use Rattle.qa_base.specs.declared.space.LossByNumber.{LossByNumber}
use Rattle.qa_base.specs.declared.space.ThresholdCounts.{ThresholdCounts}
use Rattle.std.proofs.Common.{◌≡◌, ◌∙◌, ◌+◌, ◌*◌, ◌^◌, ◌&&◌, ◌||◌, not, ℕ, List, [], ◌∷◌, ◌++◌, Bool, true, Option, Some, None, refl, sym, ap, ap₂, fold, count_by, map, min, option_map, is_none, Contains, inl, inr, ◌⊎◌}
use Rattle.std.specs.List.{list_any, AllByRecursion}
use Rattle.std.specs.Option.{option_or}
use Rattle.std.specs.Prelude.{if◌then◌else◌, nat_lt, nat_le}
use Rattle.qa_base.specs.declared.event.Event.{Event}
use Rattle.qa_base.specs.declared.event.Event.TheVariants.{Sent, Lost, Timer}
use Rattle.qa_base.specs.declared.header.Version.{Version}
use Rattle.qa_base.specs.declared.space.TimerKind.TheVariants.{Loss, Pto}
use Rattle.qa_base.specs.declared.space.Permission.TheVariants.{Recovery}
use Rattle.qa_base.specs.declared.space.Space.{Space}
use Rattle.qa_base.specs.declared.space.Space.TheVariants.{Initial, Handshake, App}
use Rattle.qa_base.specs.machine.Breaches.{is_loss_owed, is_loss_not_owed, numbers, is_other_loss_set, is_over, is_past_recovery, is_timer_not_set, is_other, is_timer_other}
use Rattle.qa_base.specs.machine.Detection.{are_ends, detection_by, distance_below, is_at, is_found, is_free_by, is_left, is_old, is_owed_by, is_past_threshold, is_unsettled, looks_at, may_be_spared, old_at}
use Rattle.qa_base.specs.machine.Estimates.{found_by, rtt, sampled, with_sample_of}
use Rattle.qa_base.specs.machine.Handshake.{is_confirmed, is_validated, has_keys}
use Rattle.qa_base.specs.machine.Permission.{is_recovery_packet, recovery_spent}
use Rattle.qa_base.specs.machine.Loss.{bytes_in_flight, declared, is_free, is_open, is_owed, is_persistent, nameable, owed, flight_size, is_nameable}
use Rattle.qa_base.specs.machine.Moments.{before_last, detection_of, moments, since}
use Rattle.qa_base.specs.machine.Numbers.{names_between}
use Rattle.qa_base.specs.machine.Packets.{Packet, packets, packets_of, is_of, is_discarded, is_some_packet, newly_acknowledged, largest_acknowledged, least_of, is_below_largest}
use Rattle.qa_base.specs.machine.Reno.{Control, congestion_events, persistent_congestions, grows, is_app_limited, moves_of_last, moves, moved, start, reno, enters, is_entry, event_mark}
use Rattle.qa_base.specs.machine.Rtt.{Estimate, after_congestion, loss_delay, pto_base}
use Rattle.qa_base.specs.machine.State.{totals}
use Rattle.qa_base.specs.machine.Timer.{pto_count, earlier, awaits_loss, loss_due, earliest_loss, awaits_acknowledgment, last_eliciting, pto_due, earliest_pto, last_set, anti_deadlock, deadline, packet_deadline, is_same_due, set_since}
use Rattle.qa_base.specs.machine.Window.{acknowledged_bytes, acknowledged_since_collapse, changes_window, reported_window, ssthresh, ssthresh_by, window, window_by}
use Rattle.qa_base.specs.values.Events.{declares_lost, time_of, is_in_flight_by}
use Rattle.qa_base.specs.values.Settings.{Settings, early, granularity, is_may, per_microsecond}
use Rattle.qa_base.proofs.machine.Collapses.{since_collapse_after}
use Rattle.qa_base.proofs.machine.Declared.{declared_is, owed_is}
use Rattle.qa_laws.specs.machine.Alike.{AreAlike}
use Rattle.qa_base.proofs.history.Pairs.{of_each, part_is, same_part}

-- ---- alike headers

-- what they may differ by
pub record Tolerances : Type 0 where
  pub version : Version
  pub timer_late : Option ℕ
  pub window_overshoot : Bool
  pub packet_threshold : ℕ
  pub timer_early_us : ℕ
  pub loss_by_number : LossByNumber
  pub threshold_counts : ThresholdCounts
  pub report_slack_us : ℕ
  pub report_slack_bytes : ℕ

abbrev pub tolerances_of : Settings → Tolerances
tolerances_of c = record {
  version = c.version;
  timer_late = c.options.timer_late;
  window_overshoot = c.options.window_overshoot;
  packet_threshold = c.options.packet_threshold;
  timer_early_us = c.options.timer_early_us;
  loss_by_number = c.options.loss_by_number;
  threshold_counts = c.options.threshold_counts;
  report_slack_us = c.options.report_slack_us;
  report_slack_bytes = c.options.report_slack_bytes;
}

-- the header with these
abbrev pub like : Settings → Tolerances → Settings
like c t = record {
  role = c.role;
  unit = c.unit;
  max_datagram_size = c.max_datagram_size;
  max_ack_delay = c.max_ack_delay;
  initial_rtt = c.initial_rtt;
  initial_window = c.initial_window;
  version = t.version;
  options = record {
    timer_late = t.timer_late;
    refresh_min_rtt = c.options.refresh_min_rtt;
    report_slack_us = t.report_slack_us;
    report_slack_bytes = t.report_slack_bytes;
    controller = c.options.controller;
    window_overshoot = t.window_overshoot;
    sample_eliciting_only = c.options.sample_eliciting_only;
    packet_threshold = t.packet_threshold;
    timer_early_us = t.timer_early_us;
    loss_by_number = t.loss_by_number;
    threshold_counts = t.threshold_counts;
    reset_rtt = c.options.reset_rtt;
    latest_rtt_less_delay = c.options.latest_rtt_less_delay;
    time_threshold_eighths = c.options.time_threshold_eighths;
    recovery_by_order = c.options.recovery_by_order;
  };
}

pub like_is : (c d : Settings) → AreAlike c d → like c (tolerances_of d) ≡ d
like_is c d a = rw (
  sym a.role,
  sym a.unit,
  sym a.max_datagram_size,
  sym a.max_ack_delay,
  sym a.initial_rtt,
  sym a.initial_window,
  sym a.refresh_min_rtt,
  sym a.controller,
  sym a.sample_eliciting_only,
  sym a.reset_rtt,
  sym a.latest_rtt_less_delay,
  sym a.time_threshold_eighths,
  sym a.recovery_by_order,
) refl

-- behind each event of the history losses are looked for in the same place, as of the same time
abbrev pub Detects : Settings → Tolerances → List Event → Type 0
Detects c t [] = Unit {0}
Detects c t (e ∷ h) = Detects c t h × (detection_by (like c t) (sampled c (e ∷ h)) (e ∷ h) ≡ detection_by c (sampled c (e ∷ h)) (e ∷ h))

-- so it is where timers may be equally early
same_early : (c : Settings) (t : Tolerances) → t.timer_early_us ≡ c.options.timer_early_us → early (like c t) ≡ early c
same_early c t same = ap (λ us. per_microsecond c.unit * min us 1000000000) same

equally_early : (c : Settings) (t : Tolerances) (r : Estimate) (h : List Event) → t.timer_early_us ≡ c.options.timer_early_us → detection_by (like c t) r h ≡ detection_by c r h
equally_early c t r [] same = refl
equally_early c t r (Timer time Loss space ∷ h) same = ap (λ tolerance. Some (space, looks_at tolerance time (old_at c r h space))) (same_early c t same)
equally_early c t r (Timer time Pto space ∷ h) same = refl
equally_early c t r (_ ∷ h) same = refl

pub detects_if_equally_early : (c : Settings) (t : Tolerances) (h : List Event) → t.timer_early_us ≡ c.options.timer_early_us → Detects c t h
detects_if_equally_early c t [] same = tt
detects_if_equally_early c t (e ∷ h) same = (detects_if_equally_early c t h same, equally_early c t (sampled c (e ∷ h)) (e ∷ h) same)

pub detects_at : (c : Settings) (t : Tolerances) (h : List Event) → Detects c t h → detection_by (like c t) (sampled c h) h ≡ detection_by c (sampled c h) h
detects_at c t [] detects = refl
detects_at c t (e ∷ h) detects = detects.1

-- the event finds the same packets lost, and names the same of those that are free, by the samples of the header
pub record AgreesAt (c : Settings) (t : Tolerances) (e : Event) (h : List Event) : Type 0 where
  pub owes : (p : Packet) → Contains (packets (e ∷ h)) p → is_owed_by (like c t) (sampled c (e ∷ h)) (e ∷ h) p ≡ is_owed_by c (sampled c (e ∷ h)) (e ∷ h) p
  pub names : (p : Packet) → Contains (packets h) p
      → (is_free_by (like c t) (sampled c h) h p && declares_lost p.space p.number e) ≡ (is_free_by c (sampled c h) h p && declares_lost p.space p.number e)

-- so does each event of the history
abbrev pub Agree : Settings → Tolerances → List Event → Type 0
Agree c t [] = Unit {0}
Agree c t (e ∷ h) = Agree c t h × AgreesAt c t e h

-- ---- thresholds

-- losses by number are asked for alike, and counted alike
abbrev pub AsksAlike : Settings → Tolerances → Type 0
AsksAlike c t = (t.loss_by_number ≡ c.options.loss_by_number) × (t.threshold_counts ≡ c.options.threshold_counts)

-- so they are, and the thresholds are the same, or what lies behind by number is not owed
abbrev pub OwesAlike : Settings → Tolerances → Type 0
OwesAlike c t = AsksAlike c t × ((t.packet_threshold ≡ c.options.packet_threshold) ⊎ (is_may c.options.loss_by_number ≡ true))

-- and in any case the same
abbrev pub SameLosses : Settings → Tolerances → Type 0
SameLosses c t = AsksAlike c t × (t.packet_threshold ≡ c.options.packet_threshold)

past_alike : (c : Settings) (t : Tolerances) → OwesAlike c t → (r : Estimate) (h : List Event) (now : ℕ) (most : Option ℕ) (p : Packet) → is_past_threshold (like c t) r h now most p ≡ is_past_threshold c r h now most p
past_alike c t alike r h now None p = refl
past_alike c t (asked, inl same) r h now (Some m) p =
    ap₂ (λ l k. nat_lt p.number m && ((not (is_may l) && nat_le k (distance_below t.threshold_counts h p.space p.number m)) || is_old c r now p)) asked.0 same
    ∙ ap (λ k. nat_lt p.number m && ((not (is_may c.options.loss_by_number) && nat_le c.options.packet_threshold (distance_below k h p.space p.number m)) || is_old c r now p)) asked.1
past_alike c t (asked, inr may) r h now (Some m) p =
    ap (λ l. nat_lt p.number m && ((not (is_may l) && nat_le t.packet_threshold (distance_below t.threshold_counts h p.space p.number m)) || is_old c r now p)) asked.0 ∙ rw may refl

pub found_alike : (c : Settings) (t : Tolerances) → OwesAlike c t → (r : Estimate) (h : List Event) (p : Packet) (d : Option (Space × ℕ)) → is_at (is_found (like c t) r h) p d ≡ is_at (is_found c r h) p d
found_alike c t alike r h p None = refl
found_alike c t alike r h p (Some d) =
    ap (λ b. is_of d.0 p && (p.in_flight && is_unsettled h p && b)) (past_alike c t alike r h d.1 (largest_acknowledged h d.0) p)

spared_alike : (c : Settings) (t : Tolerances) → SameLosses c t → (r : Estimate) (h : List Event) (now : ℕ) (most : Option ℕ) (p : Packet)
    → may_be_spared (like c t) r h now most p ≡ may_be_spared c r h now most p
spared_alike c t same r h now None p = refl
spared_alike c t same r h now (Some m) p =
    ap₂ (λ l k. nat_lt p.number m && (is_may l && nat_le k (distance_below t.threshold_counts h p.space p.number m)) && not (is_old c r now p)) same.0.0 same.1
    ∙ ap (λ k. nat_lt p.number m && (is_may c.options.loss_by_number && nat_le c.options.packet_threshold (distance_below k h p.space p.number m)) && not (is_old c r now p)) same.0.1

left_alike : (c : Settings) (t : Tolerances) → SameLosses c t → (r : Estimate) (h : List Event) (p : Packet) (d : Option (Space × ℕ))
    → is_at (is_left (like c t) r h) p d ≡ is_at (is_left c r h) p d
left_alike c t same r h p None = refl
left_alike c t same r h p (Some d) =
    ap (λ b. is_of d.0 p && (p.in_flight && is_unsettled h p && b)) (spared_alike c t same r h d.1 (largest_acknowledged h d.0) p)

pub owes_alike : (c : Settings) (t : Tolerances) → OwesAlike c t → (h : List Event) → Detects c t h → (p : Packet) → is_owed_by (like c t) (sampled c h) h p ≡ is_owed_by c (sampled c h) h p
owes_alike c t alike h detects p =
    ap (is_at (is_found (like c t) (sampled c h) h) p) (detects_at c t h detects) ∙ found_alike c t alike (sampled c h) h p (detection_by c (sampled c h) h)

frees_alike : (c : Settings) (t : Tolerances) → SameLosses c t → (h : List Event) → Detects c t h → (p : Packet)
    → is_free_by (like c t) (sampled c h) h p ≡ is_free_by c (sampled c h) h p
frees_alike c t same h detects p =
    ap (is_at (is_left (like c t) (sampled c h) h) p) (detects_at c t h detects) ∙ left_alike c t same (sampled c h) h p (detection_by c (sampled c h) h)

-- where the thresholds are the same, all agree that detect alike
agree_if : (c : Settings) (t : Tolerances) (h : List Event) → SameLosses c t → Detects c t h → Agree c t h
agree_if c t [] same detects = tt
agree_if c t (e ∷ h) same detects = (
  agree_if c t h same detects.0,
  record {
    owes = λ p has. owes_alike c t (same.0, inl same.1) (e ∷ h) detects p;
    names = λ p has. ap (λ b. b && declares_lost p.space p.number e) (frees_alike c t same h detects.0 p);
  },
)

pub agree_if_equally_early : (c : Settings) (t : Tolerances) (h : List Event) → SameLosses c t → t.timer_early_us ≡ c.options.timer_early_us → Agree c t h
agree_if_equally_early c t h same early = agree_if c t h same (detects_if_equally_early c t h early)

-- ---- the estimate, and what is lost by it

is_owed_by_samples : (c : Settings) (t : Tolerances) (h : List Event) → Agree c t h → sampled (like c t) h ≡ sampled c h → (p : Packet) → Contains (packets h) p → is_owed (like c t) h p ≡ is_owed c h p
is_owed_by_samples c t [] agree same p has = refl
is_owed_by_samples c t (e ∷ h) agree same p has = ap (λ r. is_owed_by (like c t) r (e ∷ h) p) same ∙ agree.1.owes p has

owed_by_samples : (c : Settings) (t : Tolerances) (h : List Event) → Agree c t h → sampled (like c t) h ≡ sampled c h → owed (like c t) h ≡ owed c h
owed_by_samples c t h agree same =
    owed_is (like c t) h
    ∙ same_part (is_owed (like c t) h) (is_owed c h) (packets h) (of_each (λ p. is_owed (like c t) h p ≡ is_owed c h p) (packets h) (is_owed_by_samples c t h agree same))
    ∙ sym (owed_is c h)

same_any : (f g : Packet → Bool) (ps : List Packet) → AllByRecursion (λ p. f p ≡ g p) ps → list_any f ps ≡ list_any g ps
same_any f g [] same = refl
same_any f g (p ∷ ps) same = rw (same.0, same_any f g ps same.1) refl

lost_by_samples : (c : Settings) (t : Tolerances) (e : Event) (h : List Event) → Agree c t (e ∷ h) → sampled (like c t) h ≡ sampled c h → sampled (like c t) (e ∷ h) ≡ sampled c (e ∷ h)
    → declared (like c t) (e ∷ h) ≡ declared c (e ∷ h)
lost_by_samples c t (Lost time space ranges) h agree before now =
    let e = Lost time space ranges in
    let frees : Packet → Bool = λ p. is_free (like c t) h p && declares_lost p.space p.number e in
    let freed : Packet → Bool = λ p. is_free c h p && declares_lost p.space p.number e in
    let names : (p : Packet) → Contains (packets h) p → frees p ≡ freed p =
    λ p has. ap (λ r. is_free_by (like c t) r h p && declares_lost p.space p.number e) before ∙ agree.1.names p has in
    let takes : (p : Packet) → Contains (packets h) p → (is_owed (like c t) h p || frees p) ≡ (is_owed c h p || freed p) =
    λ p has. ap₂ (λ a b. a || b) (is_owed_by_samples c t h agree.0 before p has) (names p has) in
    declared_is (like c t) time space ranges h
    ∙ ap₂ (λ (b : Bool) (ps : List Packet). if b then ps else [])
    (same_any frees freed (packets h) (of_each (λ p. frees p ≡ freed p) (packets h) names))
    (same_part (λ p. is_owed (like c t) h p || frees p) (λ p. is_owed c h p || freed p) (packets h) (of_each (λ p. (is_owed (like c t) h p || frees p) ≡ (is_owed c h p || freed p)) (packets h) takes))
    ∙ sym (declared_is c time space ranges h)
lost_by_samples c t e h agree before now = owed_by_samples c t (e ∷ h) agree now

-- the samples give the same, and the estimate is the same, and so is what is lost by the last event
record SameEstimate (c : Settings) (t : Tolerances) (h : List Event) : Type 0 where
  samples : sampled (like c t) h ≡ sampled c h
  estimate : rtt (like c t) h ≡ rtt c h
  lost : declared (like c t) h ≡ declared c h

same_estimate : (c : Settings) (t : Tolerances) (h : List Event) → Agree c t h → SameEstimate c t h
same_estimate c t [] agree = record { samples = refl; estimate = refl; lost = refl }
same_estimate c t (e ∷ h) agree =
    let before = same_estimate c t h agree.0 in
    let own : with_sample_of (like c t) (e ∷ h) (rtt (like c t) h) ≡ with_sample_of c (e ∷ h) (rtt c h) = ap (with_sample_of c (e ∷ h)) before.estimate in
    let samples : sampled (like c t) (e ∷ h) ≡ sampled c (e ∷ h) = ap₂ (found_by e) before.samples own in
    let lost = lost_by_samples c t e h agree before.samples samples in
    let persists = ap₂ (λ r ps. list_any (λ p. list_any (are_ends c r (e ∷ h) p) ps) ps) samples lost in
    record { samples = samples; estimate = ap₂ (after_congestion c) persists own; lost = lost }

pub same_rtt : (c : Settings) (t : Tolerances) (h : List Event) → Agree c t h → rtt (like c t) h ≡ rtt c h
same_rtt c t h agree = (same_estimate c t h agree).estimate

pub same_sampled : (c : Settings) (t : Tolerances) (h : List Event) → Agree c t h → sampled (like c t) h ≡ sampled c h
same_sampled c t h agree = (same_estimate c t h agree).samples

same_declared : (c : Settings) (t : Tolerances) (h : List Event) → Agree c t h → declared (like c t) h ≡ declared c h
same_declared c t h agree = (same_estimate c t h agree).lost

pub same_owed : (c : Settings) (t : Tolerances) (h : List Event) → Agree c t h → owed (like c t) h ≡ owed c h
same_owed c t h agree = owed_by_samples c t h agree (same_sampled c t h agree)

pub same_is_owed : (c : Settings) (t : Tolerances) (h : List Event) → Agree c t h → (p : Packet) → Contains (packets h) p → is_owed (like c t) h p ≡ is_owed c h p
same_is_owed c t h agree p has = is_owed_by_samples c t h agree (same_sampled c t h agree) p has

is_free_alike : (c : Settings) (t : Tolerances) (h : List Event) → SameLosses c t → Detects c t h → (p : Packet) → is_free (like c t) h p ≡ is_free c h p
is_free_alike c t h same detects p =
    ap (λ r. is_free_by (like c t) r h p) (same_sampled c t h (agree_if c t h same detects)) ∙ frees_alike c t same h detects p

pub same_nameable : (c : Settings) (t : Tolerances) (h : List Event) → SameLosses c t → Detects c t h → nameable (like c t) h ≡ nameable c h
same_nameable c t h same detects =
    same_part (is_nameable (like c t) h) (is_nameable c h) (packets h) (of_each (λ p. is_nameable (like c t) h p ≡ is_nameable c h p) (packets h)
    (λ p has. ap₂ (λ a b. a || b) (same_is_owed c t h (agree_if c t h same detects) p has) (is_free_alike c t h same detects p)))

same_persistent : (c : Settings) (t : Tolerances) (h : List Event) → Agree c t h → is_persistent (like c t) h ≡ is_persistent c h
same_persistent c t h agree = ap₂ (λ r ps. list_any (λ p. list_any (are_ends c r h p) ps) ps) (same_sampled c t h agree) (same_declared c t h agree)

same_open : (c : Settings) (t : Tolerances) (h : List Event) → Agree c t h → (p : Packet) → Contains (packets h) p → is_open (like c t) h p ≡ is_open c h p
same_open c t h agree p has = ap (λ is. is_unsettled h p && not is && not (is_discarded h p.space)) (same_is_owed c t h agree p has)

pub same_bytes : (c : Settings) (t : Tolerances) (h : List Event) → Agree c t h → bytes_in_flight (like c t) h ≡ bytes_in_flight c h
same_bytes c t h agree =
    same_sum (flight_size (like c t) h) (flight_size c h) (packets h) (of_each (λ p. flight_size (like c t) h p ≡ flight_size c h p) (packets h)
    (λ p has. ap (λ here. if p.in_flight && here then p.size else 0) (same_open c t h agree p has)))

-- ---- the window

same_moves_of_last : (c : Settings) (t : Tolerances) (h : List Event) → Agree c t h → moves_of_last (like c t) h ≡ moves_of_last c h
same_moves_of_last c t [] agree = refl
same_moves_of_last c t (e ∷ h) agree =
    ap₂ (λ ps persistent. congestion_events c (event_mark c (detection_of (e ∷ h))) ps ++ persistent_congestions persistent ++ (if is_app_limited e then [] else grows c (newly_acknowledged (e ∷ h))))
    (same_declared c t (e ∷ h) agree) (same_persistent c t (e ∷ h) agree)

same_moves : (c : Settings) (t : Tolerances) (h : List Event) → Agree c t h → moves (like c t) h ≡ moves c h
same_moves c t [] agree = refl
same_moves c t (e ∷ h) agree = ap₂ (λ some more. some ++ more) (same_moves c t h agree.0) (same_moves_of_last c t (e ∷ h) agree)

same_reno : (c : Settings) (t : Tolerances) (h : List Event) → Agree c t h → reno (like c t) h ≡ reno c h
same_reno c t h agree = ap (fold (moved c.max_datagram_size) (start c.initial_window)) (same_moves c t h agree)

pub same_window : (c : Settings) (t : Tolerances) (h : List Event) → Agree c t h → window (like c t) h ≡ window c h
same_window c t h agree = ap (λ (r : Control). window_by c.options.controller r.window (reported_window c h)) (same_reno c t h agree)

same_ssthresh : (c : Settings) (t : Tolerances) (h : List Event) → Agree c t h → ssthresh (like c t) h ≡ ssthresh c h
same_ssthresh c t h agree = ap (λ (r : Control). ssthresh_by c.options.controller r.ssthresh) (same_reno c t h agree)

pub same_collapse : (c : Settings) (t : Tolerances) (h : List Event) → Agree c t h → acknowledged_since_collapse (like c t) h ≡ acknowledged_since_collapse c h
same_collapse c t [] agree = refl
same_collapse c t (e ∷ h) agree =
    since_collapse_after (like c t) e h
    ∙ ap₂ (λ persistent before. if persistent then Some (acknowledged_bytes (detection_of (e ∷ h)))
    else (if changes_window c (e ∷ h) then None else option_map (λ n. acknowledged_bytes (e ∷ h) + n) before))
    (same_persistent c t (e ∷ h) agree) (same_collapse c t h agree.0)
    ∙ sym (since_collapse_after c e h)

-- ---- entries into recovery

-- two tests say the same of each moment
abbrev SameAt : (List Event → Bool) → (List Event → Bool) → List Event → Type 0
SameAt test other [] = Unit {0}
SameAt test other (e ∷ h) = (test (e ∷ h) ≡ other (e ∷ h)) × SameAt test other h

any_moment : (test other : List Event → Bool) (h : List Event) → SameAt test other h → list_any test (moments h) ≡ list_any other (moments h)
any_moment test other [] same = refl
any_moment test other (e ∷ h) same = ap₂ (λ here rest. here || rest) same.0 (any_moment test other h same.1)

since_moment : (test other : List Event → Bool) (h : List Event) → SameAt test other h → since test h ≡ since other h
since_moment test other [] same = refl
since_moment test other (e ∷ h) same = ap₂ (λ here rest. if here then [] else (e ∷ h) ∷ rest) same.0 (since_moment test other h same.1)

reno_before : (c : Settings) (t : Tolerances) (e : Event) (h : List Event) → Agree c t (e ∷ h) → reno (like c t) (before_last (detection_of (e ∷ h))) ≡ reno c (before_last (detection_of (e ∷ h)))
reno_before c t (Lost time space ranges) [] agree = refl
reno_before c t (Lost time space ranges) (d ∷ h) agree = same_reno c t h agree.0.0
reno_before c t e h agree = same_reno c t h agree.0

same_entries : (c : Settings) (t : Tolerances) (h : List Event) → Agree c t h → SameAt (is_entry (like c t)) (is_entry c) h
same_entries c t [] agree = tt
same_entries c t (e ∷ h) agree = (
  ap₂ (λ (k : Control) ms. enters k.recovery_start_time ms) (reno_before c t e h agree) (same_moves_of_last c t (e ∷ h) agree),
  same_entries c t h agree.0,
)

same_recovery : (c : Settings) (t : Tolerances) (h : List Event) → Agree c t h → recovery_spent (like c t) h ≡ recovery_spent c h
same_recovery c t h agree =
    ap₂ (λ any after. if any then Some (count_by is_recovery_packet after) else None)
    (any_moment (is_entry (like c t)) (is_entry c) h (same_entries c t h agree)) (since_moment (is_entry (like c t)) (is_entry c) h (same_entries c t h agree))

-- ---- the timer

same_awaits_loss : (c : Settings) (t : Tolerances) (h : List Event) → Agree c t h → (p : Packet) → Contains (packets h) p → awaits_loss (like c t) h p ≡ awaits_loss c h p
same_awaits_loss c t h agree p has = ap (λ here. p.in_flight && here && is_below_largest p.number (largest_acknowledged h p.space)) (same_open c t h agree p has)

same_loss_due : (c : Settings) (t : Tolerances) (h : List Event) → Agree c t h → (s : Space) → loss_due (like c t) h s ≡ loss_due c h s
same_loss_due c t h agree s =
    ap₂ (λ r awaiting. option_map (λ sent. record { kind = Loss; space = s; time = sent + loss_delay c r }) (least_of (map (λ p. p.time) awaiting)))
    (same_rtt c t h agree) (same_part (awaits_loss (like c t) h) (awaits_loss c h) (packets_of h s) (of_each (λ p. awaits_loss (like c t) h p ≡ awaits_loss c h p) (packets_of h s)
    (λ p has. same_awaits_loss c t h agree p (part_is (is_of s) (packets h) p has).0)))

same_earliest_loss : (c : Settings) (t : Tolerances) (h : List Event) → Agree c t h → earliest_loss (like c t) h ≡ earliest_loss c h
same_earliest_loss c t h agree =
    ap₂ earlier (same_loss_due c t h agree Initial) (ap₂ earlier (same_loss_due c t h agree Handshake) (same_loss_due c t h agree App))

same_awaits : (c : Settings) (t : Tolerances) (h : List Event) → Agree c t h → (p : Packet) → Contains (packets h) p → awaits_acknowledgment (like c t) h p ≡ awaits_acknowledgment c h p
same_awaits c t h agree p has = ap (λ here. p.eliciting && here) (same_open c t h agree p has)

same_pto_due : (c : Settings) (t : Tolerances) (h : List Event) → Agree c t h → (delay : ℕ) (s : Space) → pto_due (like c t) h delay s ≡ pto_due c h delay s
same_pto_due c t h agree delay s =
    ap₂ (λ r some. if some
    then option_map (λ sent. record { kind = Pto; space = s; time = sent + (pto_base (granularity c) r + delay) * 2 ^ pto_count c h }) (last_eliciting h s)
    else None)
    (same_rtt c t h agree) (same_any (awaits_acknowledgment (like c t) h) (awaits_acknowledgment c h) (packets_of h s) (of_each (λ p. awaits_acknowledgment (like c t) h p ≡ awaits_acknowledgment c h p) (packets_of h s)
    (λ p has. same_awaits c t h agree p (part_is (is_of s) (packets h) p has).0)))

same_earliest_pto : (c : Settings) (t : Tolerances) (h : List Event) → Agree c t h → earliest_pto (like c t) h ≡ earliest_pto c h
same_earliest_pto c t h agree =
    ap₂ earlier (same_pto_due c t h agree 0 Initial)
    (ap₂ earlier (same_pto_due c t h agree 0 Handshake)
    (ap (λ due. if is_confirmed h then due else None) (same_pto_due c t h agree c.max_ack_delay App)))

same_anti_deadlock : (c : Settings) (t : Tolerances) (h : List Event) → Agree c t h → anti_deadlock (like c t) h ≡ anti_deadlock c h
same_anti_deadlock c t h agree = ap (λ r. if is_validated c h then None
    else option_map (λ set. record { kind = Pto; space = if has_keys h then Handshake else Initial; time = set + pto_base (granularity c) r * 2 ^ pto_count c h }) (last_set h)
    ) (same_rtt c t h agree)

pub same_packet_deadline : (c : Settings) (t : Tolerances) (h : List Event) → Agree c t h → packet_deadline (like c t) h ≡ packet_deadline c h
same_packet_deadline c t h agree = ap₂ (λ loss pto. option_or loss pto) (same_earliest_loss c t h agree) (same_earliest_pto c t h agree)

pub same_deadline : (c : Settings) (t : Tolerances) (h : List Event) → Agree c t h → deadline (like c t) h ≡ deadline c h
same_deadline c t h agree =
    ap₂ (λ loss rest. option_or loss rest) (same_earliest_loss c t h agree)
    (ap₂ (λ pto anti. option_or pto anti) (same_earliest_pto c t h agree) (same_anti_deadlock c t h agree))

pub same_since : (c : Settings) (t : Tolerances) (h : List Event) → Agree c t h → set_since (like c t) h ≡ set_since c h
same_since c t [] agree = refl
same_since c t (e ∷ h) agree =
    ap₂ (λ due later. if is_same_due due later then set_since (like c t) h else time_of e) (same_deadline c t h agree.0) (same_deadline c t (e ∷ h) agree)
    ∙ ap (λ began. if is_same_due (deadline c h) (deadline c (e ∷ h)) then began else time_of e) (same_since c t h agree.0)

pub same_totals : (c : Settings) (t : Tolerances) (h : List Event) → Agree c t h → totals (like c t) h ≡ totals c h
same_totals c t h agree = rw (same_window c t h agree, same_ssthresh c t h agree, same_bytes c t h agree, same_rtt c t h agree, same_owed c t h agree) refl

-- ---- rules that forbid the same

pub same_loss_owed : (c : Settings) (t : Tolerances) (h : List Event) → Agree c t h → (e : Event) → is_loss_owed (like c t) h e ≡ is_loss_owed c h e
same_loss_owed c t h agree (Lost time space ranges) = refl
same_loss_owed c t h agree _ = ap is_some_packet (same_owed c t h agree)

pub same_loss_not_owed : (c : Settings) (t : Tolerances) (h : List Event) → nameable (like c t) h ≡ nameable c h → (e : Event) → is_loss_not_owed (like c t) h e ≡ is_loss_not_owed c h e
same_loss_not_owed c t h same (Lost time space ranges) = ap (λ ps. not (list_any (is_of space) ps)) same
same_loss_not_owed c t h same _ = refl

pub same_loss_set : (c : Settings) (t : Tolerances) (h : List Event) → Agree c t h → nameable (like c t) h ≡ nameable c h → (e : Event) → is_other_loss_set (like c t) h e ≡ is_other_loss_set c h e
same_loss_set c t h agree same (Lost time space ranges) = ap₂ (λ least most. not (names_between ranges (numbers least) (numbers most))) (same_owed c t h agree) same
same_loss_set c t h agree same _ = refl

pub same_past_recovery : (c : Settings) (t : Tolerances) (h : List Event) → Agree c t h → (e : Event) → is_past_recovery (like c t) h e ≡ is_past_recovery c h e
same_past_recovery c t h agree (Sent packet) = ap (λ spent. is_in_flight_by Recovery packet && is_over 1 1 spent) (same_recovery c t h agree)
same_past_recovery c t h agree _ = refl

pub same_not_set : (c : Settings) (t : Tolerances) (h : List Event) → Agree c t h → (e : Event) → is_timer_not_set (like c t) h e ≡ is_timer_not_set c h e
same_not_set c t h agree (Timer time kind space) = ap is_none (same_deadline c t h agree)
same_not_set c t h agree _ = refl

pub same_other : (c : Settings) (t : Tolerances) (h : List Event) → Agree c t h → (e : Event) → is_timer_other (like c t) h e ≡ is_timer_other c h e
same_other c t h agree (Timer time kind space) = ap (is_other kind space) (same_deadline c t h agree)
same_other c t h agree _ = refl
