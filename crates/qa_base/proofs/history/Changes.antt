-- What one more event makes of a packet.
use Rattle.std.proofs.Common.{◌≡◌, ◌∙◌, ◌<◌, ◌-◌, ℕ, List, [], ◌∷◌, length, Bool, true, false, ◌&&◌, ◌||◌, not, Option, Some, None, refl, sym, ap, subst, Contains, inl, inr}
use Rattle.std.proofs.lemmas.Bool.{and_parts, and_from, and_right, or_cases, both_ways, false_from_ne_true, lt-ltb, eqb-true}
use Rattle.std.specs.List.{list_all}
use Rattle.std.specs.Prelude.{nat_le, nat_lt, nat_eq}
use Rattle.qa_base.specs.declared.event.Event.{Event}
use Rattle.qa_base.specs.declared.event.Event.TheVariants.{Ack, Lost, Discard}
use Rattle.qa_base.specs.declared.space.Space.{Space}
use Rattle.qa_base.specs.machine.Breaches.{numbers}
use Rattle.qa_base.specs.values.Events.{is_space, is_named, acknowledges, declares_lost}
use Rattle.qa_base.specs.machine.Estimates.{sampled}
use Rattle.qa_base.specs.machine.Detection.{is_at, is_far_below, is_found, is_left, is_old, is_unsettled, may_be_spared}
use Rattle.qa_base.specs.machine.Loss.{owed, is_owed, is_free, nameable, is_nameable, is_open, detection}
use Rattle.qa_base.specs.machine.Numbers.{is_in, has_all}
use Rattle.qa_base.specs.history.Declared.{is_named_free}
use Rattle.qa_base.specs.history.Oldest.{is_flying}
use Rattle.qa_base.specs.machine.Packets.{Packet, packets, is_of, is_some_packet, is_followed_by, is_acknowledged, is_declared_lost, is_discarded, is_newly_acknowledged, largest_acknowledged}
use Rattle.qa_base.specs.machine.Detection.{is_past_threshold}
use Rattle.qa_base.specs.machine.Rtt.{Estimate}
use Rattle.qa_base.specs.machine.Violations.{IsToleratedRun}
use Rattle.qa_base.specs.values.Settings.{Settings, is_may}
use Rattle.qa_base.proofs.history.ToleratedRuns.{is_space_same, is_space_is, same_number}
use Rattle.qa_base.proofs.machine.WindowBound.{placed}
use Rattle.qa_base.proofs.history.Detection.{asked_was_flying, space_of_detection}
use Rattle.qa_base.proofs.history.Pairs.{at_one, has_first, has_later}
use Rattle.qa_base.proofs.machine.Ranges.{has_all_names}
use Rattle.qa_base.proofs.machine.RunLaws.{form_holds}
use Rattle.qa_base.proofs.history.Settled.{opens_from, owed_has, nameable_is, nameable_space, names_all, owed_is_named, has_some}

-- ---- what one more event makes of a packet

followed : (test : Event → Bool) (e : Event) (h : List Event) (p : Packet) (more : Bool) → test e ≡ more → nat_lt p.place (length h) ≡ true
    → is_followed_by test (e ∷ h) p ≡ (more || is_followed_by test h p)
followed test e h p true is below = rw (is, below) refl
followed test e h p false is below = rw is refl

within : (h : List Event) (p : Packet) → Contains (packets h) p → nat_lt p.place (length h) ≡ true
within h p has = lt-ltb p.place (length h) (at_one (λ q. q.place < length h) (packets h) p (placed h) has)

-- it is covered where the event acknowledges its number, or it was before
pub covered_after : (e : Event) (h : List Event) (p : Packet) → Contains (packets h) p → is_acknowledged (e ∷ h) p ≡ (acknowledges p.space p.number e || is_acknowledged h p)
covered_after e h p has = followed (acknowledges p.space p.number) e h p (acknowledges p.space p.number e) refl (within h p has)

-- it is declared lost where the event declares its number so, or it was before
pub lost_after : (e : Event) (h : List Event) (p : Packet) → Contains (packets h) p → is_declared_lost (e ∷ h) p ≡ (declares_lost p.space p.number e || is_declared_lost h p)
lost_after e h p has = followed (declares_lost p.space p.number) e h p (declares_lost p.space p.number e) refl (within h p has)

-- ---- a Lost line

pub same_tests : (a b : Bool) → (a ≡ true → b ≡ true) → (b ≡ true → a ≡ true) → a ≡ b
same_tests true b there back = sym (there refl)
same_tests false true there back = absurd (both_ways false refl (back refl))
same_tests false false there back = refl

pub one_of_numbers : (ps : List Packet) (n : ℕ) → is_in (numbers ps) n ≡ true → (p : Packet) × Contains ps p × (p.number ≡ n)
one_of_numbers [] n is = cc
one_of_numbers (p ∷ ps) n is = elim (or_cases (nat_eq p.number n) (is_in (numbers ps) n) is) [
  | inl here ↦ (p, has_first p ps, eqb-true p.number n here)
  | inr behind ↦ (let one = one_of_numbers ps n behind in (one.0, has_later p one.0 ps one.1, one.2))
]

same_spaces : (s t u : Space) → s ≡ u → t ≡ u → is_space s t ≡ true
same_spaces s t u is_s is_t = rw (is_s, is_t) (is_space_same u)

pub named_is_nameable : (c : Settings) (h : List Event) (time : ℕ) (space : Space) (ranges : List (ℕ × ℕ)) → IsToleratedRun c (Lost time space ranges ∷ h)
    → (p : Packet) → Contains (packets h) p → declares_lost p.space p.number (Lost time space ranges) ≡ true → is_nameable c h p ≡ true
named_is_nameable c h time space ranges run p has named =
    let parts = and_parts (is_space p.space space) (is_named ranges p.number) named in
    let between = names_all c h time space ranges run in
    let all = (and_parts (has_all (numbers (nameable c h)) ranges) (list_all (is_named ranges) (numbers (owed c h))) between).0 in
    let one = one_of_numbers (nameable c h) p.number (has_all_names (numbers (nameable c h)) ranges all p.number parts.1) in
    let q = one.0 in
    let may_q = nameable_is c h q one.1 in
    let of_q : q.space ≡ space = nameable_space c h time space ranges run q may_q.1 in
    let same : is_of p.space q ≡ true = same_spaces p.space q.space space (is_space_is p.space space parts.0) of_q in
    let is : q ≡ p = sym (same_number c h run.0 p q has may_q.0 same one.2) in
    subst (λ (x : Packet). is_nameable c h x ≡ true) is may_q.1

named_by : (owed_then free_then named : Bool) → (named ≡ true → (owed_then || free_then) ≡ true) → (owed_then ≡ true → named ≡ true) → named ≡ (owed_then || (free_then && named))
named_by true free_then true may must = refl
named_by true free_then false may must = let no = must refl in cc
named_by false true named may must = refl
named_by false false true may must = let no = may refl in cc
named_by false false false may must = refl

-- in a tolerated run a Lost line names the packets that are owed and some of those that are free, of all that were sent
pub names_taken : (c : Settings) (h : List Event) (time : ℕ) (space : Space) (ranges : List (ℕ × ℕ)) → IsToleratedRun c (Lost time space ranges ∷ h)
    → (p : Packet) → Contains (packets h) p → declares_lost p.space p.number (Lost time space ranges) ≡ (is_owed c h p || is_named_free c (Lost time space ranges) h p)
names_taken c h time space ranges run p has =
    named_by (is_owed c h p) (is_free c h p) (declares_lost p.space p.number (Lost time space ranges))
    (named_is_nameable c h time space ranges run p has) (owed_is_named c h time space ranges run p has)

and_none : (a : Bool) → (a && false) ≡ false
and_none true = refl
and_none false = refl

-- ---- what was open before

-- in a tolerated run the event declares a packet lost that is not owed exactly where that is free and named
pub named_if_free : (c : Settings) (e : Event) (h : List Event) → IsToleratedRun c (e ∷ h) → (p : Packet) → Contains (packets h) p → is_owed c h p ≡ false
    → declares_lost p.space p.number e ≡ is_named_free c e h p
named_if_free c (Lost time space ranges) h run p has not_owed =
    names_taken c h time space ranges run p has ∙ ap (λ (b : Bool). b || is_named_free c (Lost time space ranges) h p) not_owed
named_if_free c _ h run p has not_owed = sym (and_none (is_free c h p))

spared_by : (below may far old : Bool) → (below && (may && far) && not old) ≡ true → (below && ((not may && far) || old)) ≡ false
spared_by true true true true is = cc
spared_by true true true false is = refl
spared_by true true false old is = cc
spared_by true false far old is = cc
spared_by false may far old is = refl

-- what may be spared is past no threshold
pub spared_is_young : (c : Settings) (r : Estimate) (h : List Event) (now : ℕ) (most : Option ℕ) (p : Packet) → may_be_spared c r h now most p ≡ true → is_past_threshold c r h now most p ≡ false
spared_is_young c r h now None p is = refl
spared_is_young c r h now (Some m) p is =
    spared_by (nat_lt p.number m) (is_may c.options.loss_by_number) (is_far_below c h m p) (is_old c r now p) is

-- what is free is of the space of a detection, in flight, unsettled and not owed
pub record IsLeft (c : Settings) (h : List Event) (p : Packet) : Type 0 where
  pub now : ℕ
  pub at : ◌≡◌ {A = Option (Space × ℕ)} (detection c h) (Some (p.space, now))
  pub in_flight : p.in_flight ≡ true
  pub unsettled : is_unsettled h p ≡ true
  pub spared : may_be_spared c (sampled c h) h now (largest_acknowledged h p.space) p ≡ true

left_by : (c : Settings) (h : List Event) (p : Packet) (d : Option (Space × ℕ)) → detection c h ≡ d → is_at (is_left c (sampled c h) h) p d ≡ true → IsLeft c h p
left_by c h p None at is = cc
left_by c h p (Some (s, now)) at is =
    let parts = and_parts (is_of s p) (is_left c (sampled c h) h now s p) is in
    let of_s : s ≡ p.space = is_space_is s p.space parts.0 in
    let more = and_parts (p.in_flight && is_unsettled h p) (may_be_spared c (sampled c h) h now (largest_acknowledged h s) p) parts.1 in
    let flies = and_parts p.in_flight (is_unsettled h p) more.0 in
    record {
      now = now;
      at = at ∙ ap (λ (t : Space). Some (t, now)) of_s;
      in_flight = flies.0;
      unsettled = flies.1;
      spared = subst (λ (t : Space). may_be_spared c (sampled c h) h now (largest_acknowledged h t) p ≡ true) of_s more.1;
    }

pub free_is_left : (c : Settings) (h : List Event) (p : Packet) → is_free c h p ≡ true → IsLeft c h p
free_is_left c h p is = left_by c h p (detection c h) refl is

left_not_found : (c : Settings) (h : List Event) (p : Packet) (left : IsLeft c h p) → is_at (is_found c (sampled c h) h) p (Some (p.space, left.now)) ≡ false
left_not_found c h p left =
    let young = spared_is_young c (sampled c h) h left.now (largest_acknowledged h p.space) p left.spared in
    and_right (is_of p.space p) (is_found c (sampled c h) h left.now p.space p)
    (and_right (p.in_flight && is_unsettled h p) (is_past_threshold c (sampled c h) h left.now (largest_acknowledged h p.space) p) young)

pub free_not_owed : (c : Settings) (h : List Event) (p : Packet) → is_free c h p ≡ true → is_owed c h p ≡ false
free_not_owed c h p is =
    let left = free_is_left c h p is in
    ap (is_at (is_found c (sampled c h) h) p) left.at ∙ left_not_found c h p left

-- a detection discards nothing
not_discarded : (c : Settings) (e : Event) (h : List Event) (s : Space) (now : ℕ) → detection c (e ∷ h) ≡ Some (s, now) → is_discarded h s ≡ false → is_discarded (e ∷ h) s ≡ false
not_discarded c (Discard time space) h s now at there = cc
not_discarded c _ h s now at there = there

-- in a tolerated run what is free is open and in flight
pub free_is_flying : (c : Settings) (h : List Event) → IsToleratedRun c h → (p : Packet) → is_free c h p ≡ true → is_flying c h p ≡ true
free_is_flying c [] run p is = let left = free_is_left c [] p is in let none = left.at in cc
free_is_flying c (e ∷ h) run p is =
    let left = free_is_left c (e ∷ h) p is in
    and_from p.in_flight (is_open c (e ∷ h) p) left.in_flight (opens_from c (e ∷ h) p (record {
      unsettled = left.unsettled;
      free = free_not_owed c (e ∷ h) p is;
      there = not_discarded c e h p.space left.now left.at (space_of_detection c e h run p.space left.now left.at);
    }))

-- so what a Lost line names of it was open
pub named_was_open : (c : Settings) (e : Event) (h : List Event) → IsToleratedRun c (e ∷ h) → (p : Packet) → is_named_free c e h p ≡ true → is_open c h p ≡ true
named_was_open c e h run p is =
    let parts = and_parts (is_free c h p) (declares_lost p.space p.number e) is in
    (and_parts p.in_flight (is_open c h p) (free_is_flying c h run.0 p parts.0)).1

-- where nothing is owed no packet is
pub not_owed_now : (c : Settings) (e : Event) (h : List Event) (p : Packet) → Contains (packets h) p → is_some_packet (owed c h) ≡ false → is_owed c h p ≡ false
not_owed_now c e h p has none = false_from_ne_true (is_owed c h p) (λ is. both_ways (is_some_packet (owed c h)) none (has_some (owed c h) p (owed_has c h p has is)))

or_same : (a b l : Bool) → a ≡ b → (a || l) ≡ (b || l)
or_same a b l is = ap (λ x. x || l) is

neither : (owed_then free_then : Bool) → owed_then ≡ false → false ≡ (owed_then || (free_then && false))
neither owed_then true none = rw none refl
neither owed_then false none = rw none refl

-- in a tolerated run the packets that are declared lost are those that were, those that were owed before the last event, and those that were free
-- and that it names
pub lost_is_taken : (c : Settings) (e : Event) (h : List Event) → IsToleratedRun c (e ∷ h) → (p : Packet) → Contains (packets h) p
    → is_declared_lost (e ∷ h) p ≡ (is_owed c h p || is_named_free c e h p || is_declared_lost h p)
lost_is_taken c (Lost time space ranges) h run p has =
    let e = Lost time space ranges in
    lost_after e h p has ∙ or_same (declares_lost p.space p.number e) (is_owed c h p || is_named_free c e h p) (is_declared_lost h p) (names_taken c h time space ranges run p has)
lost_is_taken c e h run p has =
    lost_after e h p has ∙ or_same (declares_lost p.space p.number e) (is_owed c h p || is_named_free c e h p) (is_declared_lost h p)
    (neither (is_owed c h p) (is_free c h p) (not_owed_now c e h p has (form_holds c h e run.1).loss_owed))

found_was_flying : (c : Settings) (e : Event) (h : List Event) → IsToleratedRun c (e ∷ h) → (p : Packet) → Contains (packets h) p
    → (d : Option (Space × ℕ)) → detection c (e ∷ h) ≡ d → is_at (is_found c (sampled c (e ∷ h)) (e ∷ h)) p d ≡ true → is_flying c h p ≡ true
found_was_flying c e h run p has None at is = cc
found_was_flying c e h run p has (Some (s, now)) at is =
    let parts = and_parts (is_of s p) (is_found c (sampled c (e ∷ h)) (e ∷ h) now s p) is in
    let more = and_parts (p.in_flight && is_unsettled (e ∷ h) p) (is_past_threshold c (sampled c (e ∷ h)) (e ∷ h) now (largest_acknowledged (e ∷ h) s) p) parts.1 in
    asked_was_flying c e h run s now at p has (and_from (is_of s p) (p.in_flight && is_unsettled (e ∷ h) p) parts.0 more.0)

-- in a tolerated run whatever an event finds lost was open and in flight
pub owed_was_flying : (c : Settings) (e : Event) (h : List Event) → IsToleratedRun c (e ∷ h) → (p : Packet) → Contains (packets h) p → is_owed c (e ∷ h) p ≡ true → is_flying c h p ≡ true
owed_was_flying c e h run p has is = found_was_flying c e h run p has (detection c (e ∷ h)) refl is

-- in a tolerated run whatever an event newly acknowledges was open
pub newly_was_open : (c : Settings) (e : Event) (h : List Event) → IsToleratedRun c (e ∷ h) → (p : Packet) → Contains (packets h) p → is_newly_acknowledged e h p ≡ true → is_open c h p ≡ true
newly_was_open c (Ack ack) h run p has is =
    let holds = form_holds c h (Ack ack) run.1 in
    let parts = and_parts (acknowledges p.space p.number (Ack ack) && not (is_acknowledged h p)) (not (is_declared_lost h p)) is in
    let more = and_parts (acknowledges p.space p.number (Ack ack)) (not (is_acknowledged h p)) parts.0 in
    let of_space = (and_parts (is_space p.space ack.space) (is_named ack.ranges p.number) more.0).0 in
    opens_from c h p (record {
      unsettled = and_from (not (is_acknowledged h p)) (not (is_declared_lost h p)) more.1 parts.1;
      free = false_from_ne_true (is_owed c h p) (λ owed_then. both_ways (is_some_packet (owed c h)) holds.loss_owed (has_some (owed c h) p (owed_has c h p has owed_then)));
      there = rw (is_space_is p.space ack.space of_space) holds.space_gone;
    })
newly_was_open c _ h run p has is = cc

-- ---- what is found lost is unsettled

pub found_unsettled : (c : Settings) (h : List Event) (p : Packet) (d : Option (Space × ℕ)) → is_at (is_found c (sampled c h) h) p d ≡ true → is_unsettled h p ≡ true
found_unsettled c h p None is = cc
found_unsettled c h p (Some (s, now)) is =
    let parts = and_parts (is_of s p) (is_found c (sampled c h) h now s p) is in
    let more = and_parts (p.in_flight && is_unsettled h p) (is_past_threshold c (sampled c h) h now (largest_acknowledged h s) p) parts.1 in
    (and_parts p.in_flight (is_unsettled h p) more.0).1
