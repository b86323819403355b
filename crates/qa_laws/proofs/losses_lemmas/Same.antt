-- What is the same where losses by number may be declared and where they must, at the places where nothing is free.
use Rattle.std.proofs.Common.{◌≡◌, ◌∙◌, ◌+◌, ℕ, List, [], ◌∷◌, Bool, false, Option, Some, None, option_map, refl, sym, ap, ap₂}
use Rattle.std.specs.List.{list_any}
use Rattle.std.specs.Prelude.{if◌then◌else◌}
use Rattle.qa_base.specs.declared.event.Event.{Event}
use Rattle.qa_base.specs.declared.event.Event.TheVariants.{Lost}
use Rattle.qa_base.specs.machine.Detection.{are_ends}
use Rattle.qa_base.specs.machine.Estimates.{found_by, rtt, sampled, with_sample_of}
use Rattle.qa_base.specs.machine.Permission.{is_recovery_packet, recovery_spent}
use Rattle.qa_base.specs.machine.Loss.{declared, free, is_persistent}
use Rattle.qa_base.specs.machine.Moments.{before_last, detection_of}
use Rattle.qa_base.specs.machine.Packets.{Packet}
use Rattle.qa_base.specs.machine.Reno.{event_mark, is_entry, reno}
use Rattle.qa_base.specs.machine.Rtt.{after_congestion}
use Rattle.qa_base.specs.machine.Window.{acknowledged_bytes, acknowledged_since_collapse, changes_window}
use Rattle.qa_base.specs.values.Settings.{Settings}
use Rattle.qa_base.proofs.machine.Collapses.{since_collapse_after}
use Rattle.qa_base.proofs.machine.Steps.{recovery_spent_after}
use Rattle.qa_laws.specs.machine.Alike.{where_they_must}
use Rattle.qa_laws.specs.machine.Conduct.{is_entered_by}
use Rattle.qa_laws.proofs.machine.ConductOfWindows.{entry_by_losses}
use Rattle.qa_laws.proofs.losses_lemmas.Owing.{may_lose, must_lose, nameable_alone, owed_by_samples}
use Rattle.qa_laws.proofs.losses_lemmas.Recovering.{begun, recovery_is}

-- the estimate, when recovery began, the recovery packets since, and the bytes that were acknowledged since a collapse
pub record Same (c : Settings) (h : List Event) : Type 0 where
  pub estimate : rtt (where_they_must c) h ≡ rtt c h
  pub samples : sampled (where_they_must c) h ≡ sampled c h
  pub recovery : (reno (where_they_must c) h).recovery_start_time ≡ (reno c h).recovery_start_time
  pub spent : recovery_spent (where_they_must c) h ≡ recovery_spent c h
  pub on_persistent_congestion : acknowledged_since_collapse (where_they_must c) h ≡ acknowledged_since_collapse c h

-- before any event
pub same_at_start : (c : Settings) → Same c []
same_at_start c = record { estimate = refl; samples = refl; recovery = refl; spent = refl; on_persistent_congestion = refl }

-- ---- one more event

pub same_samples : (c : Settings) (e : Event) (h : List Event) → Same c h → sampled (where_they_must c) (e ∷ h) ≡ sampled c (e ∷ h)
same_samples c e h same = ap₂ (found_by e) same.samples (ap (with_sample_of c (e ∷ h)) same.estimate)

same_persistent : (c : Settings) (h : List Event) → sampled (where_they_must c) h ≡ sampled c h → declared (where_they_must c) h ≡ declared c h
    → is_persistent (where_they_must c) h ≡ is_persistent c h
same_persistent c h samples lost = ap₂ (λ r ps. list_any (λ p. list_any (are_ends c r h p) ps) ps) samples lost

-- by which the same is lost
same_by_losses : (c : Settings) (e : Event) (h : List Event) → Same c h → declared (where_they_must c) (e ∷ h) ≡ declared c (e ∷ h) → is_entry (where_they_must c) (e ∷ h) ≡ is_entry c (e ∷ h)
    → Same c (e ∷ h)
same_by_losses c e h same lost entry =
    let samples = same_samples c e h same in
    let persistent = same_persistent c (e ∷ h) samples lost in
    let now = event_mark c (detection_of (e ∷ h)) in
    record {
      estimate = ap₂ (after_congestion c) persistent (ap (with_sample_of c (e ∷ h)) same.estimate);
      samples = samples;
      recovery = recovery_is (where_they_must c) e h
          ∙ (ap₂ (λ (persistent_congestions : Bool) (recovery : Option ℕ). if persistent_congestions then None else recovery) persistent (ap₂ (λ recovery ps. begun c recovery now ps) same.recovery lost)
          ∙ sym (recovery_is c e h));
      spent = recovery_spent_after (where_they_must c) e h
          ∙ (ap₂ (λ (enters : Bool) (spent : Option ℕ). if enters then Some 0 else option_map (λ n. (if is_recovery_packet (e ∷ h) then 1 else 0) + n) spent) entry same.spent
          ∙ sym (recovery_spent_after c e h));
      on_persistent_congestion = since_collapse_after (where_they_must c) e h
          ∙ (ap₂ (λ (persistent_congestions : Bool) (bytes : Option ℕ). if persistent_congestions then Some (acknowledged_bytes (detection_of (e ∷ h)))
          else (if changes_window c (e ∷ h) then None else option_map (λ n. acknowledged_bytes (e ∷ h) + n) bytes)) persistent same.on_persistent_congestion
          ∙ sym (since_collapse_after c e h));
    }

no_entry : (c : Settings) (recovery : Option ℕ) (ps : List Packet) → ps ≡ [] → is_entered_by c recovery ps ≡ false
no_entry c recovery [] none = refl
no_entry c recovery (p ∷ ps) none = cc

same_entry : (c : Settings) (e : Event) (h : List Event) → Same c h → free c h ≡ [] → declared (where_they_must c) (e ∷ h) ≡ declared c (e ∷ h) → is_entry (where_they_must c) (e ∷ h) ≡ is_entry c (e ∷ h)
same_entry c (Lost time space ranges) h same none lost =
    let e = Lost time space ranges in
    let must = entry_by_losses (where_they_must c) (e ∷ h) ∙ no_entry (where_they_must c) (reno (where_they_must c) (before_last h)).recovery_start_time (declared (where_they_must c) (e ∷ h)) (must_lose c e h) in
    let may = entry_by_losses c (e ∷ h) ∙ no_entry c (reno c (before_last h)).recovery_start_time (declared c (e ∷ h)) (may_lose c e h none) in
    must ∙ sym may
same_entry c e h same none lost = entry_by_losses (where_they_must c) (e ∷ h) ∙ (ap₂ (is_entered_by c) same.recovery lost ∙ sym (entry_by_losses c (e ∷ h)))

-- where nothing was free before it, nor is behind it
pub same_next : (c : Settings) (e : Event) (h : List Event) → Same c h → free c h ≡ [] → free c (e ∷ h) ≡ [] → Same c (e ∷ h)
same_next c e h same before none =
    let lost = must_lose c e h ∙ (owed_by_samples c (e ∷ h) (same_samples c e h same) ∙ (nameable_alone c (e ∷ h) none ∙ sym (may_lose c e h before))) in
    same_by_losses c e h same lost (same_entry c e h same before lost)
