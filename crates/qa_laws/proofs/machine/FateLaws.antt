-- What one more event makes of a packet.
use Rattle.std.proofs.Common.{◌≡◌, List, ◌∷◌, Bool, true, false, ◌&&◌, ◌||◌, not, refl, sym, subst, reverse, ◌++◌, Contains}
use Rattle.std.proofs.lemmas.List.Elements.{Contains-append_left}
use Rattle.std.proofs.lemmas.Bool.{and_parts, and_from, both_ways, false_from_ne_true, not-true}
use Rattle.qa_base.specs.declared.event.Event.{Event}
use Rattle.qa_base.specs.declared.space.Space.{Space}
use Rattle.qa_base.specs.values.Events.{acknowledges, declares_lost}
use Rattle.qa_base.specs.history.Declared.{is_named_free}
use Rattle.qa_laws.specs.machine.Fates.{fate, fate_by, fate_next, is_unacknowledged}
use Rattle.qa_base.specs.machine.Loss.{is_owed, is_free, is_open, detection}
use Rattle.qa_base.specs.history.Oldest.{is_flying, NoneFlies}
use Rattle.qa_base.specs.machine.Packets.{Packet, packets, is_of, is_acknowledged, is_declared_lost, is_discarded}
use Rattle.qa_base.specs.machine.Rules.{IsRun}
use Rattle.qa_base.specs.values.Settings.{Settings}
use Rattle.qa_base.proofs.machine.RunLaws.{tolerated_run_of}
use Rattle.qa_base.proofs.history.Changes.{covered_after, free_is_left, lost_is_taken, found_unsettled}
use Rattle.qa_base.proofs.history.Settled.{open_before}
use Rattle.qa_base.proofs.history.Walks.{turned_has}
use Rattle.qa_base.proofs.history.Pairs.{at_one, of_each}

next_by : (names named was_covered was_lost was_owed covered_now lost_now owed_now : Bool) → covered_now ≡ (names || was_covered) → lost_now ≡ (was_owed || named || was_lost) → (owed_now ≡ true → (not covered_now && not lost_now) ≡ true)
    → (named ≡ true → was_covered ≡ false)
    → fate_by covered_now lost_now owed_now ≡ fate_next names owed_now named (fate_by was_covered was_lost was_owed)
next_by true named was_covered was_lost was_owed covered_now lost_now owed_now covered_is lost_is free apart = rw covered_is refl
next_by false true true was_lost was_owed covered_now lost_now owed_now covered_is lost_is free apart = let no = apart refl in cc
next_by false true false was_lost true covered_now lost_now true covered_is lost_is free apart = let no = rw (covered_is, lost_is) at (free refl) in cc
next_by false true false was_lost false covered_now lost_now true covered_is lost_is free apart = let no = rw (covered_is, lost_is) at (free refl) in cc
next_by false true false was_lost true covered_now lost_now false covered_is lost_is free apart = rw (covered_is, lost_is) refl
next_by false true false was_lost false covered_now lost_now false covered_is lost_is free apart = rw (covered_is, lost_is) refl
next_by false false true was_lost was_owed covered_now lost_now true covered_is lost_is free apart = let no = rw covered_is at (free refl) in cc
next_by false false true was_lost was_owed covered_now lost_now false covered_is lost_is free apart = rw covered_is refl
next_by false false false true true covered_now lost_now true covered_is lost_is free apart = let no = rw (covered_is, lost_is) at (free refl) in cc
next_by false false false true false covered_now lost_now true covered_is lost_is free apart = let no = rw (covered_is, lost_is) at (free refl) in cc
next_by false false false true true covered_now lost_now false covered_is lost_is free apart = rw (covered_is, lost_is) refl
next_by false false false true false covered_now lost_now false covered_is lost_is free apart = rw (covered_is, lost_is) refl
next_by false false false false true covered_now lost_now true covered_is lost_is free apart = let no = rw (covered_is, lost_is) at (free refl) in cc
next_by false false false false true covered_now lost_now false covered_is lost_is free apart = rw (covered_is, lost_is) refl
next_by false false false false false covered_now lost_now true covered_is lost_is free apart = rw (covered_is, lost_is) refl
next_by false false false false false covered_now lost_now false covered_is lost_is free apart = rw (covered_is, lost_is) refl

-- what is free is not covered
free_not_covered : (c : Settings) (e : Event) (h : List Event) (p : Packet) → is_named_free c e h p ≡ true → is_acknowledged h p ≡ false
free_not_covered c e h p is =
    let left = free_is_left c h p (and_parts (is_free c h p) (declares_lost p.space p.number e) is).0 in
    not-true (is_acknowledged h p) (and_parts (not (is_acknowledged h p)) (not (is_declared_lost h p)) left.unsettled).0

-- in a run a packet is covered by an acknowledgment that names it, owed where the event finds it lost, and declared lost where it was owed, or
-- free and named
pub fate_after : (c : Settings) (e : Event) (h : List Event) → IsRun c (e ∷ h) → (p : Packet) → Contains (packets h) p
    → fate c (e ∷ h) p ≡ fate_next (acknowledges p.space p.number e) (is_owed c (e ∷ h) p) (is_named_free c e h p) (fate c h p)
fate_after c e h run p has =
    next_by (acknowledges p.space p.number e) (is_named_free c e h p) (is_acknowledged h p) (is_declared_lost h p) (is_owed c h p) (is_acknowledged (e ∷ h) p) (is_declared_lost (e ∷ h) p) (is_owed c (e ∷ h) p)
    (covered_after e h p has) (lost_is_taken c e h (tolerated_run_of c (e ∷ h) run) p has) (λ found. found_unsettled c (e ∷ h) p (detection c (e ∷ h)) found) (free_not_covered c e h p)

open_by : (covered lost is_due gone : Bool) → (not covered && not lost && not is_due && not gone) ≡ (is_unacknowledged (fate_by covered lost is_due) && not gone)
open_by true lost is_due gone = refl
open_by false true is_due gone = refl
open_by false false true gone = refl
open_by false false false gone = refl

-- a packet is open that is uncovered, unless its space is gone
pub open_is_uncovered : (c : Settings) (h : List Event) (p : Packet) → is_open c h p ≡ (is_unacknowledged (fate c h p) && not (is_discarded h p.space))
open_is_uncovered c h p = open_by (is_acknowledged h p) (is_declared_lost h p) (is_owed c h p) (is_discarded h p.space)

-- ---- a front without a packet that is open and in flight

flying_before : (c : Settings) (e : Event) (h : List Event) → IsRun c (e ∷ h) → (p : Packet) → Contains (packets h) p → is_flying c (e ∷ h) p ≡ true → is_flying c h p ≡ true
flying_before c e h run p has is =
    let parts = and_parts p.in_flight (is_open c (e ∷ h) p) is in
    and_from p.in_flight (is_open c h p) parts.0 (open_before c e h (tolerated_run_of c (e ∷ h) run) p has parts.1)

none_flies_still : (c : Settings) (e : Event) (h : List Event) → IsRun c (e ∷ h) → (s : Space) (p : Packet) → Contains (packets h) p
    → (is_of s p && is_flying c h p) ≡ false → (is_of s p && is_flying c (e ∷ h) p) ≡ false
none_flies_still c e h run s p has none =
    false_from_ne_true (is_of s p && is_flying c (e ∷ h) p) (λ is.
    let parts = and_parts (is_of s p) (is_flying c (e ∷ h) p) is in
    both_ways (is_of s p && is_flying c h p) none (and_from (is_of s p) (is_flying c h p) parts.0 (flying_before c e h run p has parts.1)))

-- in a run there is none in it after one more event
pub none_flies_stays : (c : Settings) (e : Event) (h : List Event) → IsRun c (e ∷ h) → (s : Space) (front rest : List Packet) → reverse (packets h) ≡ front ++ rest
    → NoneFlies c h s front → NoneFlies c (e ∷ h) s front
none_flies_stays c e h run s front rest parts none = of_each (λ p. (is_of s p && is_flying c (e ∷ h) p) ≡ false) front (λ p has.
    none_flies_still c e h run s p (turned_has (packets h) p (subst (λ (ps : List Packet). Contains ps p) (sym parts) (Contains-append_left front rest p has)))
    (at_one (λ q. (is_of s q && is_flying c h q) ≡ false) front p none has))
