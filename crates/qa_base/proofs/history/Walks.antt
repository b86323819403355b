-- Where a detection may begin its walk over the packets, and where it ends.
use Rattle.std.proofs.Common.{◌≡◌, ◌∙◌, ℕ, List, ◌∷◌, ◌++◌, Bool, true, false, ◌&&◌, not, Some, refl, sym, ap, subst, Contains, filter, reverse, take_while}
use Rattle.std.proofs.lemmas.Bool.{and_parts, and_from, or_from, both_ways, false_from_ne_true}
use Rattle.std.proofs.lemmas.List.Elements.{filter-append, Contains-append_left}
use Rattle.std.specs.List.{AllByRecursion}
use Rattle.qa_base.specs.declared.event.Event.{Event}
use Rattle.qa_base.specs.declared.event.Event.TheVariants.{Sent, Discard}
use Rattle.qa_base.specs.declared.space.Space.{Space}
use Rattle.qa_base.specs.values.Events.{discards}
use Rattle.qa_base.specs.machine.Estimates.{sampled}
use Rattle.qa_base.specs.machine.Detection.{is_at, is_found, is_past_threshold, is_unsettled}
use Rattle.qa_base.specs.machine.Loss.{owed, is_owed, detection}
use Rattle.qa_base.specs.history.Oldest.{is_flying, is_asked, NoneFlies}
use Rattle.qa_base.specs.machine.Packets.{Packet, packets, is_of, is_discarded, largest_acknowledged}
use Rattle.qa_base.specs.machine.Violations.{IsToleratedRun}
use Rattle.qa_base.specs.values.Settings.{Settings}
use Rattle.qa_base.proofs.history.ToleratedRuns.{is_space_is}
use Rattle.qa_base.proofs.history.Detection.{asked, owed_is_front, asked_was_flying, space_of_detection}
use Rattle.qa_base.proofs.history.Pairs.{at_one, of_each, none_left, each_turned}

-- ---- the list turned has the same packets

pub turned_has : (ps : List Packet) (p : Packet) → Contains (reverse ps) p → Contains ps p
turned_has ps p has =
    let all : AllByRecursion (Contains ps) (reverse ps) = each_turned (Contains ps) ps (of_each (Contains ps) ps (λ q is. is)) in
    at_one (Contains ps) (reverse ps) p all has

none_asked : (c : Settings) (e : Event) (h : List Event) → IsToleratedRun c (e ∷ h) → (s : Space) (now : ℕ) → detection c (e ∷ h) ≡ Some (s, now)
    → (front rest : List Packet) → reverse (packets h) ≡ front ++ rest → NoneFlies c h s front → AllByRecursion (λ p. is_asked (e ∷ h) s p ≡ false) front
none_asked c e h run s now at front rest parts none = of_each (λ p. is_asked (e ∷ h) s p ≡ false) front (λ p has.
    let inside : Contains (packets h) p = turned_has (packets h) p (subst (λ (ps : List Packet). Contains ps p) (sym parts) (Contains-append_left front rest p has)) in
    let still : (is_of s p && is_flying c h p) ≡ false = at_one (λ q. (is_of s q && is_flying c h q) ≡ false) front p none has in
    false_from_ne_true (is_asked (e ∷ h) s p) (λ is.
    both_ways (is_of s p && is_flying c h p) still
    (and_from (is_of s p) (is_flying c h p) (and_parts (is_of s p) (p.in_flight && is_unsettled (e ∷ h) p) is).0 (asked_was_flying c e h run s now at p inside is))))

asked_of_rest : (e : Event) (h : List Event) (s : Space) (front rest : List Packet) → reverse (packets (e ∷ h)) ≡ front ++ rest
    → AllByRecursion (λ p. is_asked (e ∷ h) s p ≡ false) front → asked (e ∷ h) s ≡ filter (is_asked (e ∷ h) s) rest
asked_of_rest e h s front rest parts none =
    ap (filter (is_asked (e ∷ h) s)) parts
    ∙ (filter-append (is_asked (e ∷ h) s) front rest ∙ ap (λ ps. ps ++ filter (is_asked (e ∷ h) s) rest) (none_left (is_asked (e ∷ h) s) front none))

same_packets : (c : Settings) (e : Event) (h : List Event) (d : Space × ℕ) → detection c (e ∷ h) ≡ Some d → packets (e ∷ h) ≡ packets h
same_packets c (Sent packet) h d at = cc
same_packets c _ h d at = refl

-- in a tolerated run, where no packet of a front is of the space, open and in flight before the event, the walk may begin behind that front
pub owed_of_rest : (c : Settings) (e : Event) (h : List Event) → IsToleratedRun c (e ∷ h) → (s : Space) (now : ℕ) → detection c (e ∷ h) ≡ Some (s, now)
    → (front rest : List Packet) → reverse (packets h) ≡ front ++ rest → NoneFlies c h s front
    → reverse (owed c (e ∷ h)) ≡ take_while (is_past_threshold c (sampled c (e ∷ h)) (e ∷ h) now (largest_acknowledged (e ∷ h) s)) (filter (is_asked (e ∷ h) s) rest)
owed_of_rest c e h run s now at front rest parts none =
    let late = is_past_threshold c (sampled c (e ∷ h)) (e ∷ h) now (largest_acknowledged (e ∷ h) s) in
    let all : reverse (packets (e ∷ h)) ≡ front ++ rest = ap reverse (same_packets c e h (s, now) at) ∙ parts in
    owed_is_front c (e ∷ h) run s now at
    ∙ ap (take_while late) (asked_of_rest e h s front rest all (none_asked c e h run s now at front rest parts none))

-- ---- where it ends

and_true : (a : Bool) → (a && true) ≡ a
and_true true = refl
and_true false = refl

flies_if : (flies unsettled late gone : Bool) → gone ≡ false
    → (flies && (unsettled && not (flies && unsettled && late) && not gone)) ≡ ((flies && unsettled) && not late)
flies_if true true late gone is = rw is (and_true (not late))
flies_if true false late gone is = refl
flies_if false unsettled late gone is = refl

not_discarded : (c : Settings) (e : Event) (h : List Event) (s : Space) (d : Space × ℕ) → detection c (e ∷ h) ≡ Some d → discards s e ≡ false
not_discarded c (Discard time space) h s d at = cc
not_discarded c _ h s d at = refl

-- in a tolerated run, after a detection in a space, a packet of it is open and in flight that was asked of and is not late
pub flies_after : (c : Settings) (e : Event) (h : List Event) → IsToleratedRun c (e ∷ h) → (s : Space) (now : ℕ) → detection c (e ∷ h) ≡ Some (s, now)
    → (p : Packet) → is_of s p ≡ true → is_flying c (e ∷ h) p ≡ (is_asked (e ∷ h) s p && not (is_past_threshold c (sampled c (e ∷ h)) (e ∷ h) now (largest_acknowledged (e ∷ h) s) p))
flies_after c e h run s now at p of_space =
    let g = e ∷ h in
    let late = is_past_threshold c (sampled c g) g now (largest_acknowledged g s) p in
    let found : is_owed c g p ≡ (p.in_flight && is_unsettled g p && late) =
    ap (is_at (is_found c (sampled c g) g) p) at ∙ ap (λ b. b && is_found c (sampled c g) g now s p) of_space in
    let there : is_discarded g p.space ≡ false = subst (λ (t : Space). is_discarded g t ≡ false) (is_space_is s p.space of_space)
    (or_from (discards s e) (is_discarded h s) (not_discarded c e h s (s, now) at) (space_of_detection c e h run s now at)) in
    ap (λ b. p.in_flight && (is_unsettled g p && not b && not (is_discarded g p.space))) found
    ∙ (flies_if p.in_flight (is_unsettled g p) late (is_discarded g p.space) there
    ∙ ap (λ b. (b && (p.in_flight && is_unsettled g p)) && not late) (sym of_space))
