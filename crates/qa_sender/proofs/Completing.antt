-- What a Lost line makes of the connection, whether it completes the detection in front of it or not.
use Rattle.std.proofs.Common.{◌≡◌, ◌∙◌, ◌∷◌, ℕ, List, Bool, true, false, Option, Some, None, option_map, refl, sym, ap, subst}
use Rattle.std.proofs.lemmas.Option.{none-some, same_Some}
use Rattle.std.specs.List.{list_any}
use Rattle.std.specs.Prelude.{if◌then◌else◌}
use Rattle.qa_base.specs.declared.event.Event.{Event}
use Rattle.qa_base.specs.declared.event.Event.TheVariants.{Lost}
use Rattle.qa_base.specs.declared.space.Space.{Space}
use Rattle.qa_base.specs.machine.Estimates.{sampled}
use Rattle.qa_base.specs.machine.Loss.{declared, detection, is_persistent}
use Rattle.qa_base.specs.machine.Packets.{packets}
use Rattle.qa_base.specs.values.Settings.{AreInRange, Settings, is_may}
use Rattle.qa_sender.proofs.connection_lemmas.OneMore.{completed_is, lost_is}
use Rattle.qa_sender.specs.connection.Changes.{completed}
use Rattle.qa_sender.specs.connection.Detecting.{detected_in, search_in, search_of, whole_of}
use Rattle.qa_sender.specs.connection.Known.{HasParts, IsOf, IsProperToleratedRun}
use Rattle.qa_sender.specs.connection.Steps.{last_sent}
use Rattle.qa_sender.specs.declared.connection.connection.Connection.{Connection}
use Rattle.qa_sender.specs.declared.connection.detection.Detection.{Detection}
use Rattle.qa_base.specs.history.Declared.{is_named_free}
use Rattle.qa_sender.proofs.Losses.{completed_detects, completed_spares, nothing_completed}

some_if : (may : Bool) (kept d : Detection) → (if may then Some kept else None) ≡ Some d → kept ≡ d
some_if true kept d is = same_Some kept d is
some_if false kept d none = absurd (none-some d none)

kept_rtt : (c : Settings) (h : List Event) (at : Option (Space × ℕ)) (d : Detection) → whole_of (option_map (search_of c) (option_map (detected_in c h) at)) ≡ Some d → d.rtt ≡ sampled c h
kept_rtt c h None d none = absurd (none-some d none)
kept_rtt c h (Some at) d is = ap (λ (x : Detection). x.rtt) (sym (some_if (is_may c.options.loss_by_number) (detected_in c h at) d is))

-- the detection that a Lost line may complete keeps the estimate by which it looked
pub looked_by : (c : Settings) (h : List Event) (k : Connection) (d : Detection) → IsOf k c h → whole_of (search_in k) ≡ Some d → d.rtt ≡ sampled c h
looked_by c h k d of at = kept_rtt c h (detection c h) d (sym (ap whole_of of.search) ∙ at)

-- it is kept where packets may be spared
kept_whole : (c : Settings) (h : List Event) (k : Connection) (at : Space × ℕ) → IsOf k c h → is_may c.options.loss_by_number ≡ true → detection c h ≡ Some at → whole_of (search_in k) ≡ Some (detected_in c h at)
kept_whole c h k at of may is =
    ap whole_of of.search
    ∙ (ap (λ (d : Option (Space × ℕ)). whole_of (option_map (search_of c) (option_map (detected_in c h) d))) is
    ∙ ap (λ b. if◌then◌else◌ {A = Option Detection} b (Some (detected_in c h at)) None) may)

-- each part is that of the history with the Lost line
pub parts_completed : (c : Settings) (h : List Event) (time : ℕ) (space : Space) (ranges : List (ℕ × ℕ)) (k new : Connection) (completes : Bool) → IsOf k c h → IsProperToleratedRun c (Lost time space ranges ∷ h)
    → completes ≡ list_any (is_named_free c (Lost time space ranges) h) (packets h)
    → (completes ≡ false → new ≡ k)
    → ((d : Detection) → completes ≡ true → whole_of (search_in k) ≡ Some d → new ≡ completed d (last_sent c (declared c (Lost time space ranges ∷ h))) (is_persistent c (Lost time space ranges ∷ h)) k)
    → ((d : Detection) → completes ≡ true → whole_of (search_in k) ≡ Some d → AreInRange k.header)
    → HasParts new c (Lost time space ranges ∷ h)
parts_completed c h time space ranges k new false of run flag still full range =
    rw (still refl) (lost_is c h time space ranges k (nothing_completed c h time space ranges (sym flag)) of.parts)
parts_completed c h time space ranges k new true of run flag still full range =
    let at = completed_detects c h (Lost time space ranges) (detection c h) refl (sym flag) in
    let d = detected_in c h at.0 in
    let there = kept_whole c h k at.0 of (completed_spares c h (Lost time space ranges) (sym flag)) at.1 in
    rw (full d refl there) (completed_is c h time space ranges k d of.parts run (subst AreInRange of.parts.header (range d refl there)) refl refl refl)

-- it is counted as it was
pub events_completed : (c : Settings) (h : List Event) (time : ℕ) (space : Space) (ranges : List (ℕ × ℕ)) (k new : Connection) (completes : Bool) → IsOf k c h
    → completes ≡ list_any (is_named_free c (Lost time space ranges) h) (packets h)
    → (completes ≡ false → new ≡ k)
    → ((d : Detection) → completes ≡ true → whole_of (search_in k) ≡ Some d → new ≡ completed d (last_sent c (declared c (Lost time space ranges ∷ h))) (is_persistent c (Lost time space ranges ∷ h)) k)
    → new.events ≡ k.events
events_completed c h time space ranges k new false of flag still full = ap (λ (x : Connection). x.events) (still refl)
events_completed c h time space ranges k new true of flag still full =
    let at = completed_detects c h (Lost time space ranges) (detection c h) refl (sym flag) in
    ap (λ (x : Connection). x.events) (full (detected_in c h at.0) refl (kept_whole c h k at.0 of (completed_spares c h (Lost time space ranges) (sym flag)) at.1))
