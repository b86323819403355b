-- The packets that are lost by the last event.
use Rattle.std.proofs.Common.{◌≡◌, ◌∙◌, List, [], ◌∷◌, Bool, true, false, ◌&&◌, ◌||◌, not, refl, sym, filter, Contains, subst, inl, inr}
use Rattle.std.proofs.lemmas.Bool.{and_parts, both_ways, false_from_ne_true, not-true, or_cases, or_left, or_right}
use Rattle.std.specs.List.{list_any}
use Rattle.std.specs.Prelude.{if◌then◌else◌}
use Rattle.qa_base.specs.declared.event.Event.{Event}
use Rattle.qa_base.specs.declared.event.Event.TheVariants.{Sent, Lost}
use Rattle.qa_base.specs.machine.Estimates.{sampled}
use Rattle.qa_base.specs.machine.Kept.{is_kept}
use Rattle.qa_base.specs.machine.Loss.{declared, detection, is_free, is_open, is_owed}
use Rattle.qa_base.specs.machine.Packets.{Packet, packets, is_acknowledged, is_declared_lost}
use Rattle.qa_base.specs.machine.Violations.{IsToleratedRun}
use Rattle.qa_base.specs.values.Events.{declares_lost}
use Rattle.qa_base.specs.values.Settings.{Settings, is_may}
use Rattle.qa_base.proofs.machine.Declared.{declared_is, none_free_by, owed_is}
use Rattle.qa_base.proofs.machine.Quiet.{none_passes}
use Rattle.qa_base.specs.history.Declared.{is_lost_now, is_named_free}
use Rattle.qa_base.proofs.history.Changes.{found_unsettled, free_is_flying, free_is_left, owed_was_flying}
use Rattle.qa_base.proofs.history.Closing.{owed_among}
use Rattle.qa_base.proofs.history.Pairs.{part_has, part_is}

if_all : (b : Bool) (test : Packet → Bool) (ps : List Packet) → (if b then filter test ps else []) ≡ filter (λ p. b && test p) ps
if_all true test ps = refl
if_all false test ps = sym (none_passes ps)

-- they are those of which it is so
pub lost_now_part : (c : Settings) (h : List Event) → declared c h ≡ filter (is_lost_now c h) (packets h)
lost_now_part c [] = refl
lost_now_part c (Lost time space ranges ∷ h) =
    let e = Lost time space ranges in
    declared_is c time space ranges h ∙ if_all (list_any (is_named_free c e h) (packets h)) (λ p. is_owed c h p || is_named_free c e h p) (packets h)
lost_now_part c (e ∷ h) = owed_is c (e ∷ h)

-- among the packets sent before it
pub lost_now_among : (c : Settings) (e : Event) (h : List Event) → filter (is_lost_now c (e ∷ h)) (packets h) ≡ declared c (e ∷ h)
lost_now_among c (Sent packet) h = owed_among c (Sent packet) h
lost_now_among c e h = sym (lost_now_part c (e ∷ h))

pub declared_has : (c : Settings) (h : List Event) (p : Packet) → Contains (packets h) p → is_lost_now c h p ≡ true → Contains (declared c h) p
declared_has c h p has is = subst (λ (ps : List Packet). Contains ps p) (sym (lost_now_part c h)) (part_has (is_lost_now c h) (packets h) p has is)

pub declared_from : (c : Settings) (h : List Event) (p : Packet) → Contains (declared c h) p → Contains (packets h) p × (is_lost_now c h p ≡ true)
declared_from c h p has = part_is (is_lost_now c h) (packets h) p (subst (λ (ps : List Packet). Contains ps p) (lost_now_part c h) has)

-- ---- none of them is acknowledged

owed_uncovered : (c : Settings) (h : List Event) (p : Packet) → is_owed c h p ≡ true → is_acknowledged h p ≡ false
owed_uncovered c h p is = not-true (is_acknowledged h p) (and_parts (not (is_acknowledged h p)) (not (is_declared_lost h p)) (found_unsettled c h p (detection c h) is)).0

free_uncovered : (c : Settings) (h : List Event) (p : Packet) → is_free c h p ≡ true → is_acknowledged h p ≡ false
free_uncovered c h p is = not-true (is_acknowledged h p) (and_parts (not (is_acknowledged h p)) (not (is_declared_lost h p)) (free_is_left c h p is).unsettled).0

pub lost_now_uncovered : (c : Settings) (h : List Event) (p : Packet) → is_lost_now c h p ≡ true → is_acknowledged h p ≡ false
lost_now_uncovered c [] p is = refl
lost_now_uncovered c (Lost time space ranges ∷ h) p is =
    let e = Lost time space ranges in
    let taken = (and_parts (list_any (is_named_free c e h) (packets h)) (is_owed c h p || is_named_free c e h p) is).1 in
    elim (or_cases (is_owed c h p) (is_named_free c e h p) taken) [
      | inl owed_then ↦ owed_uncovered c h p owed_then
      | inr named ↦ free_uncovered c h p (and_parts (is_free c h p) (declares_lost p.space p.number e) named).0
    ]
lost_now_uncovered c (e ∷ h) p is = owed_uncovered c (e ∷ h) p is

-- ---- each was open or owed before the event

flying_kept : (c : Settings) (h : List Event) (p : Packet) → (p.in_flight && is_open c h p) ≡ true → is_kept c h p ≡ true
flying_kept c h p is = or_left (is_open c h p) (is_owed c h p) (and_parts p.in_flight (is_open c h p) is).1

pub lost_now_was_kept : (c : Settings) (e : Event) (h : List Event) → IsToleratedRun c (e ∷ h) → (p : Packet) → Contains (packets h) p → is_lost_now c (e ∷ h) p ≡ true → is_kept c h p ≡ true
lost_now_was_kept c (Lost time space ranges) h run p has is =
    let e = Lost time space ranges in
    let taken = (and_parts (list_any (is_named_free c e h) (packets h)) (is_owed c h p || is_named_free c e h p) is).1 in
    elim (or_cases (is_owed c h p) (is_named_free c e h p) taken) [
      | inl owed_then ↦ or_right (is_open c h p) (is_owed c h p) owed_then
      | inr named ↦ flying_kept c h p (free_is_flying c h run.0 p (and_parts (is_free c h p) (declares_lost p.space p.number e) named).0)
    ]
lost_now_was_kept c e h run p has is = flying_kept c h p (owed_was_flying c e h run p has is)

-- so nothing that is of no use is lost by an event of a tolerated run
pub dropped_not_lost : (c : Settings) (e : Event) (h : List Event) → IsToleratedRun c (e ∷ h) → (p : Packet) → Contains (packets h) p → is_kept c h p ≡ false → is_lost_now c (e ∷ h) p ≡ false
dropped_not_lost c e h run p has none = false_from_ne_true (is_lost_now c (e ∷ h) p) (λ is. both_ways (is_kept c h p) none (lost_now_was_kept c e h run p has is))

-- ---- where losses by number must be declared

none_named : (c : Settings) (e : Event) (h : List Event) (ps : List Packet) → is_may c.options.loss_by_number ≡ false → list_any (is_named_free c e h) ps ≡ false
none_named c e h [] must = refl
none_named c e h (p ∷ ps) must = rw (none_free_by c (sampled c h) h p must) (none_named c e h ps must)

-- no more is lost by an event than it finds lost
pub must_lose : (c : Settings) (e : Event) (h : List Event) (p : Packet) → is_may c.options.loss_by_number ≡ false → is_lost_now c (e ∷ h) p ≡ is_owed c (e ∷ h) p
must_lose c (Lost time space ranges) h p must = rw (none_named c (Lost time space ranges) h (packets h) must) refl
must_lose c _ h p must = refl

-- so nothing that is closed is
pub closed_not_lost : (c : Settings) (e : Event) (h : List Event) → IsToleratedRun c (e ∷ h) → (p : Packet) → Contains (packets h) p → is_may c.options.loss_by_number ≡ false → is_open c h p ≡ false
    → is_lost_now c (e ∷ h) p ≡ false
closed_not_lost c e h run p has must shut =
    must_lose c e h p must
    ∙ false_from_ne_true (is_owed c (e ∷ h) p) (λ is. both_ways (is_open c h p) shut (and_parts p.in_flight (is_open c h p) (owed_was_flying c e h run p has is)).1)
