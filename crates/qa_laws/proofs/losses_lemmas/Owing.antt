-- What is owed where losses by number must be declared is what a Lost line may name where they may.
use Rattle.std.proofs.Common.{◌≡◌, ◌∙◌, ℕ, List, [], ◌∷◌, Bool, true, false, ◌&&◌, ◌||◌, not, Option, Some, None, refl, sym, ap, arith, Contains, inl, inr, ◌⊎◌, subst}
use Rattle.std.proofs.lemmas.Bool.{false_from_ne_true}
use Rattle.std.specs.Prelude.{nat_lt}
use Rattle.qa_base.specs.declared.event.Event.{Event}
use Rattle.qa_base.specs.declared.event.Event.TheVariants.{Sent, Ack, Lost, Timer, Discard, Confirmed, Keys, Metrics}
use Rattle.qa_base.specs.declared.space.Space.{Space}
use Rattle.qa_base.specs.declared.space.TimerKind.TheVariants.{Loss, Pto}
use Rattle.qa_base.specs.machine.Detection.{detection_by, is_at, is_far_below, is_found, is_left, is_old, is_owed_by, is_past_threshold, is_unsettled, may_be_spared}
use Rattle.qa_base.specs.machine.Estimates.{sampled}
use Rattle.qa_base.specs.machine.Loss.{declared, free, is_free, is_nameable, is_owed, nameable, owed}
use Rattle.qa_base.specs.machine.Packets.{Packet, packets, is_of, largest_acknowledged}
use Rattle.qa_base.specs.machine.Rtt.{Estimate}
use Rattle.qa_base.specs.values.Events.{declares_lost}
use Rattle.qa_base.specs.values.Settings.{Settings, is_may}
use Rattle.qa_base.proofs.machine.Declared.{free_is, must_declared_by, owed_is, same_filter}
use Rattle.qa_laws.specs.machine.Alike.{where_they_must}
use Rattle.qa_base.specs.history.Declared.{is_named_free, named_free}
use Rattle.qa_laws.proofs.machine.Free.{unnamed_lose_nothing}
use Rattle.qa_base.proofs.history.Pairs.{has_first, none_left, of_each, part_has, part_is, same_part}

-- ---- what is free

has_none : (ps : List Packet) (p : Packet) → Contains ps p → ps ≡ [] → ⊥
has_none [] p (k, within, is) none = omega arith
has_none (q ∷ ps) p has none = cc

-- some packet is free
pub record SomeFree (c : Settings) (h : List Event) : Type 0 where
  pub packet : Packet
  pub sent : Contains (packets h) packet
  pub is : is_free c h packet ≡ true

some_or_none : (ps : List Packet) → (ps ≡ []) ⊎ ((p : Packet) × Contains ps p)
some_or_none [] = inl refl
some_or_none (p ∷ ps) = inr (p, has_first p ps)

pub free_part : (c : Settings) (h : List Event) (p : Packet) → Contains (free c h) p → Contains (packets h) p × (is_free c h p ≡ true)
free_part c h p has = part_is (is_free c h) (packets h) p (subst (λ (ps : List Packet). Contains ps p) (free_is c h) has)

pub free_has : (c : Settings) (h : List Event) (p : Packet) → Contains (packets h) p → is_free c h p ≡ true → Contains (free c h) p
free_has c h p has is = subst (λ (ps : List Packet). Contains ps p) (sym (free_is c h)) (part_has (is_free c h) (packets h) p has is)

-- or none is
pub decide : (c : Settings) (h : List Event) → (free c h ≡ []) ⊎ SomeFree c h
decide c h = elim (some_or_none (free c h)) [
  | inl none ↦ inl none
  | inr some ↦ (let is = free_part c h some.0 some.1 in inr (record { packet = some.0; sent = is.0; is = is.1 }))
]

pub not_free : (c : Settings) (h : List Event) → free c h ≡ [] → (p : Packet) → Contains (packets h) p → is_free c h p ≡ false
not_free c h none p has = false_from_ne_true (is_free c h p) (λ is. has_none (free c h) p (free_has c h p has is) none)

-- ---- what a detection finds

-- the packets past the threshold are those that are found and those that are left to the sender
either : (of_space asked below may far old : Bool)
    → (of_space && (asked && (below && ((not false && far) || old))))
    ≡ ((of_space && (asked && (below && ((not may && far) || old)))) || (of_space && (asked && (below && (may && far) && not old))))
either false asked below may far old = refl
either true false below may far old = refl
either true true false may far old = refl
either true true true true true true = refl
either true true true true true false = refl
either true true true true false true = refl
either true true true true false false = refl
either true true true false true old = refl
either true true true false false true = refl
either true true true false false false = refl

neither : (a b : Bool) → (a && (b && false)) ≡ ((a && (b && false)) || (a && (b && false)))
neither true true = refl
neither true false = refl
neither false b = refl

found_by : (c : Settings) (r : Estimate) (h : List Event) (p : Packet) (s : Space) (now : ℕ) (most : Option ℕ)
    → (is_of s p && (p.in_flight && is_unsettled h p && is_past_threshold (where_they_must c) r h now most p))
    ≡ ((is_of s p && (p.in_flight && is_unsettled h p && is_past_threshold c r h now most p)) || (is_of s p && (p.in_flight && is_unsettled h p && may_be_spared c r h now most p)))
found_by c r h p s now None = neither (is_of s p) (p.in_flight && is_unsettled h p)
found_by c r h p s now (Some m) =
    either (is_of s p) (p.in_flight && is_unsettled h p) (nat_lt p.number m) (is_may c.options.loss_by_number) (is_far_below c h m p) (is_old c r now p)

found_both : (c : Settings) (r : Estimate) (h : List Event) (p : Packet) (d : Option (Space × ℕ)) → is_at (is_found (where_they_must c) r h) p d ≡ (is_at (is_found c r h) p d || is_at (is_left c r h) p d)
found_both c r h p None = refl
found_both c r h p (Some (s, now)) = found_by c r h p s now (largest_acknowledged h s)

same_detection : (c : Settings) (r : Estimate) (h : List Event) → detection_by (where_they_must c) r h ≡ detection_by c r h
same_detection c r [] = refl
same_detection c r (Sent packet ∷ h) = refl
same_detection c r (Ack ack ∷ h) = refl
same_detection c r (Lost time space ranges ∷ h) = refl
same_detection c r (Timer time Loss space ∷ h) = refl
same_detection c r (Timer time Pto space ∷ h) = refl
same_detection c r (Discard time space ∷ h) = refl
same_detection c r (Confirmed time ∷ h) = refl
same_detection c r (Keys time ∷ h) = refl
same_detection c r (Metrics time values ∷ h) = refl

-- by the same samples
pub owes_by_samples : (c : Settings) (h : List Event) → sampled (where_they_must c) h ≡ sampled c h → (p : Packet) → is_owed (where_they_must c) h p ≡ is_nameable c h p
owes_by_samples c h same p =
    ap (λ r. is_owed_by (where_they_must c) r h p) same
    ∙ (ap (is_at (is_found (where_they_must c) (sampled c h) h) p) (same_detection c (sampled c h) h)
    ∙ found_both c (sampled c h) h p (detection_by c (sampled c h) h))

-- ---- what is lost by an event

pub owed_by_samples : (c : Settings) (h : List Event) → sampled (where_they_must c) h ≡ sampled c h → owed (where_they_must c) h ≡ nameable c h
owed_by_samples c h same =
    owed_is (where_they_must c) h ∙ same_filter (is_owed (where_they_must c) h) (is_nameable c h) (packets h) (owes_by_samples c h same)

or_none : (a b : Bool) → b ≡ false → (a || b) ≡ a
or_none true b none = refl
or_none false b none = none

-- where nothing is free, a Lost line may name what is owed
pub owed_alone : (c : Settings) (h : List Event) → free c h ≡ [] → (p : Packet) → Contains (packets h) p → is_nameable c h p ≡ is_owed c h p
owed_alone c h none p has = or_none (is_owed c h p) (is_free c h p) (not_free c h none p has)

pub nameable_alone : (c : Settings) (h : List Event) → free c h ≡ [] → nameable c h ≡ owed c h
nameable_alone c h none =
    same_part (is_nameable c h) (is_owed c h) (packets h) (of_each (λ p. is_nameable c h p ≡ is_owed c h p) (packets h) (owed_alone c h none)) ∙ sym (owed_is c h)

pub must_lose : (c : Settings) (e : Event) (h : List Event) → declared (where_they_must c) (e ∷ h) ≡ owed (where_they_must c) (e ∷ h)
must_lose c e h = must_declared_by (where_they_must c) (sampled (where_they_must c) (e ∷ h)) e h refl

none_named : (c : Settings) (e : Event) (h : List Event) → free c h ≡ [] → named_free c e h ≡ []
none_named c e h none =
    none_left (is_named_free c e h) (packets h) (of_each (λ p. is_named_free c e h p ≡ false) (packets h) (λ p has. ap (λ b. b && declares_lost p.space p.number e) (not_free c h none p has)))

-- where nothing was free before it, what it finds lost
pub may_lose : (c : Settings) (e : Event) (h : List Event) → free c h ≡ [] → declared c (e ∷ h) ≡ owed c (e ∷ h)
may_lose c (Lost time space ranges) h none = unnamed_lose_nothing c (Lost time space ranges) h refl (none_named c (Lost time space ranges) h none)
may_lose c e h none = refl
