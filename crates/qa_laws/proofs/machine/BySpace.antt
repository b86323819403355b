-- Sums that are kept by space.
use Rattle.std.proofs.Common.{◌≡◌, ◌∙◌, ◌+◌, ℕ, List, [], ◌∷◌, Bool, true, false, ◌&&◌, ◌||◌, not, Option, Some, None, refl, sym, ap, subst, arith, filter, sum_by, zero-add}
use Rattle.std.proofs.lemmas.Bool.{both_ways, lt-ltb, and_parts}
use Rattle.std.proofs.lemmas.List.Sums.{sum_by-cons}
use Rattle.std.specs.List.{AllByRecursion, list_any}
use Rattle.std.specs.Prelude.{nat_lt, if◌then◌else◌}
use Rattle.qa_base.specs.declared.event.Event.{Event}
use Rattle.qa_base.specs.declared.event.Ack.{Ack as Acknowledgment}
use Rattle.qa_base.specs.declared.event.Event.TheVariants.{Ack}
use Rattle.qa_base.specs.declared.space.Space.{Space}
use Rattle.qa_base.specs.declared.space.Space.TheVariants.{Initial, Handshake, App}
use Rattle.qa_base.specs.values.Events.{is_space, is_named, acknowledges}
use Rattle.qa_base.specs.machine.Estimates.{sampled}
use Rattle.qa_base.specs.machine.Detection.{all_at, is_at, is_found, is_past_threshold, is_unsettled}
use Rattle.qa_base.specs.machine.Loss.{is_open, bytes_in_flight, owed, detection}
use Rattle.qa_base.specs.machine.Packets.{Packet, packets, packets_of, is_of, is_discarded, is_acknowledged, is_declared_lost, is_newly_acknowledged, newly_acknowledged, largest_acknowledged}
use Rattle.qa_base.specs.values.Settings.{Settings}
use Rattle.qa_base.specs.history.Sums.{counted, open_sum, bytes, bytes_of, asks_of}
use Rattle.qa_base.specs.machine.Timer.{awaits_acknowledgment}
use Rattle.qa_base.proofs.history.Closing.{bytes_in_flight_is}
use Rattle.qa_base.proofs.history.ToleratedRuns.{is_space_is, is_space_same}
use Rattle.qa_base.proofs.history.Pairs.{of_each, each_weaker, part_is}
use Rattle.qa_base.proofs.machine.Quiet.{same_sum}
use Rattle.qa_base.proofs.history.Settled.{opens_is, owed_is}
use Rattle.qa_base.specs.history.Parts.{AreOf}
use Rattle.qa_base.specs.history.Sums.{within_space}

-- ---- is there a probe timeout

any_if : (eliciting : Packet → Bool) (p : Packet) (ps : List Packet) (of_space : Bool)
    → list_any eliciting (if of_space then p ∷ ps else ps) ≡ ((of_space && eliciting p) || list_any eliciting ps)
any_if eliciting p ps true = refl
any_if eliciting p ps false = refl

awaits_step : (of_space eliciting is_opened rest : Bool) (n : ℕ) → rest ≡ nat_lt 0 n
    → ((of_space && (eliciting && is_opened)) || rest) ≡ nat_lt 0 ((if is_opened then (if of_space && eliciting then 1 else 0) else 0) + n)
awaits_step true true true rest n is = sym (lt-ltb 0 (1 + n) (omega arith))
awaits_step true true false rest n is = is ∙ ap (nat_lt 0) (sym (zero-add n))
awaits_step true false true rest n is = is ∙ ap (nat_lt 0) (sym (zero-add n))
awaits_step true false false rest n is = is ∙ ap (nat_lt 0) (sym (zero-add n))
awaits_step false true true rest n is = is ∙ ap (nat_lt 0) (sym (zero-add n))
awaits_step false true false rest n is = is ∙ ap (nat_lt 0) (sym (zero-add n))
awaits_step false false true rest n is = is ∙ ap (nat_lt 0) (sym (zero-add n))
awaits_step false false false rest n is = is ∙ ap (nat_lt 0) (sym (zero-add n))

awaits_in : (c : Settings) (h : List Event) (s : Space) (ps : List Packet)
    → list_any (awaits_acknowledgment c h) (filter (is_of s) ps) ≡ nat_lt 0 (sum_by (counted (is_open c h) (asks_of s)) ps)
awaits_in c h s [] = refl
awaits_in c h s (p ∷ ps) =
    any_if (awaits_acknowledgment c h) p (filter (is_of s) ps) (is_of s p)
    ∙ (awaits_step (is_of s p) p.eliciting (is_open c h p) (list_any (awaits_acknowledgment c h) (filter (is_of s) ps)) (sum_by (counted (is_open c h) (asks_of s)) ps) (awaits_in c h s ps)
    ∙ ap (nat_lt 0) (sym (sum_by-cons (counted (is_open c h) (asks_of s)) p ps)))

-- some packet of the space awaits an acknowledgment exactly where their count is not 0
pub awaits_is : (c : Settings) (h : List Event) (s : Space) → list_any (awaits_acknowledgment c h) (packets_of h s) ≡ nat_lt 0 (open_sum (asks_of s) c h)
awaits_is c h s = awaits_in c h s (packets h)

-- ---- bytes in flight by space

sum_of_three : (f a b d : Packet → ℕ) (ps : List Packet) → ((p : Packet) → f p ≡ a p + b p + d p) → sum_by f ps ≡ sum_by a ps + sum_by b ps + sum_by d ps
sum_of_three f a b d [] each = refl
sum_of_three f a b d (p ∷ ps) each =
    let rest = sum_of_three f a b d ps each in
    let here = each p in
    let with_f = sum_by-cons f p ps in
    let with_a = sum_by-cons a p ps in
    let with_b = sum_by-cons b p ps in
    let with_d = sum_by-cons d p ps in
    omega (arith, rest, here, with_f, with_a, with_b, with_d)

by_space : (s : Space) (open_now : Bool) (n : ℕ) → (if open_now then n else 0)
    ≡ (if open_now then (if is_space Initial s then n else 0) else 0) + (if open_now then (if is_space Handshake s then n else 0) else 0) + (if open_now then (if is_space App s then n else 0) else 0)
by_space Initial true n = omega arith
by_space Handshake true n = omega arith
by_space App true n = omega arith
by_space s false n = refl

-- the bytes in flight are those of the three spaces
pub bytes_by_space : (c : Settings) (h : List Event)
    → bytes_in_flight c h ≡ open_sum (bytes_of Initial) c h + open_sum (bytes_of Handshake) c h + open_sum (bytes_of App) c h
bytes_by_space c h =
    bytes_in_flight_is c h
    ∙ sum_of_three (counted (is_open c h) bytes) (counted (is_open c h) (bytes_of Initial)) (counted (is_open c h) (bytes_of Handshake)) (counted (is_open c h) (bytes_of App)) (packets h)
    (λ p. by_space p.space (is_open c h p) (bytes p))

-- ---- a space that is gone

sum_of_none : (f : Packet → ℕ) (ps : List Packet) → AllByRecursion (λ p. f p ≡ 0) ps → sum_by f ps ≡ 0
sum_of_none f [] none = refl
sum_of_none f (p ∷ ps) none = let rest = sum_of_none f ps none.1 in let here = none.0 in let all = sum_by-cons f p ps in omega (arith, rest, here, all)

gone_if : (s : Space) (weight : Packet → ℕ) (c : Settings) (h : List Event) (p : Packet) (opened of_space : Bool) → is_open c h p ≡ opened → is_of s p ≡ of_space
    → is_discarded h s ≡ true → (if opened then (if of_space then weight p else 0) else 0) ≡ 0
gone_if s weight c h p true true is_opened of_s gone =
    let o = opens_is c h p is_opened in
    let there : is_discarded h s ≡ false = rw (is_space_is s p.space of_s) o.there in absurd (both_ways (is_discarded h s) there gone)
gone_if s weight c h p true false is_opened of_s gone = refl
gone_if s weight c h p false of_space is_opened of_s gone = refl

-- nothing of it is open
pub gone_is_empty : (s : Space) (weight : Packet → ℕ) (c : Settings) (h : List Event) → is_discarded h s ≡ true → open_sum (within_space s weight) c h ≡ 0
gone_is_empty s weight c h gone =
    sum_of_none (counted (is_open c h) (within_space s weight)) (packets h)
    (of_each (λ p. counted (is_open c h) (within_space s weight) p ≡ 0) (packets h) (λ p has. gone_if s weight c h p (is_open c h p) (is_of s p) refl refl gone))

-- ---- what an event closes is of its space

part_are_of : (s : Space) (test : Packet → Bool) (ps : List Packet) → ((p : Packet) → test p ≡ true → is_of s p ≡ true) → AreOf s (filter test ps)
part_are_of s test ps each = of_each (λ p. is_of s p ≡ true) (filter test ps) (λ p has. each p (part_is test ps p has).1)

-- what a detection finds is of its space
pub owed_are_of : (c : Settings) (h : List Event) (s : Space) (now : ℕ) → detection c h ≡ Some (s, now) → AreOf s (owed c h)
owed_are_of c h s now at =
    let found : owed c h ≡ filter (is_found c (sampled c h) h now s) (packets_of h s) = ap (all_at (is_found c (sampled c h) h) h) at in
    subst (λ (ps : List Packet). AreOf s ps) (sym found)
    (of_each (λ p. is_of s p ≡ true) (filter (is_found c (sampled c h) h now s) (packets_of h s)) (λ p has.
    (part_is (is_of s) (packets h) p (part_is (is_found c (sampled c h) h now s) (packets_of h s) p has).0).1))

space_back : (s t : Space) → is_space s t ≡ true → is_space t s ≡ true
space_back s t same = rw (is_space_is s t same) (is_space_same t)

-- what an acknowledgment newly acknowledges is of its space
pub newly_are_of : (h : List Event) (ack : Acknowledgment) → AreOf ack.space (newly_acknowledged (Ack ack ∷ h))
newly_are_of h ack =
    let e = Ack ack in
    part_are_of ack.space (is_newly_acknowledged e h) (packets h) (λ p is.
    let parts = and_parts (acknowledges p.space p.number e && not (is_acknowledged h p)) (not (is_declared_lost h p)) is in
    let named = (and_parts (acknowledges p.space p.number e) (not (is_acknowledged h p)) parts.0).0 in
    space_back p.space ack.space (and_parts (is_space p.space ack.space) (is_named ack.ranges p.number) named).0)

-- of packets of one space the bytes are those of that space
pub bytes_of_space : (s : Space) (ps : List Packet) → AreOf s ps → sum_by (bytes_of s) ps ≡ sum_by bytes ps
bytes_of_space s ps of = same_sum (bytes_of s) bytes ps (each_weaker (λ p. is_of s p ≡ true) (λ p. bytes_of s p ≡ bytes p) (λ p is. ap (λ b. if b then bytes p else 0) is) ps of)

other_space : (s t : Space) (p : Packet) → is_space s t ≡ false → is_of t p ≡ true → is_of s p ≡ false
other_space s t p apart is = rw (← is_space_is t p.space is) apart

-- and of another none
pub bytes_of_other : (s t : Space) (ps : List Packet) → is_space s t ≡ false → AreOf t ps → sum_by (bytes_of s) ps ≡ 0
bytes_of_other s t ps apart of =
    sum_of_none (bytes_of s) ps (each_weaker (λ p. is_of t p ≡ true) (λ p. bytes_of s p ≡ 0) (λ p is. ap (λ b. if b then bytes p else 0) (other_space s t p apart is)) ps of)

found_in_flight : (c : Settings) (h : List Event) (p : Packet) (d : Option (Space × ℕ)) → is_at (is_found c (sampled c h) h) p d ≡ true → p.in_flight ≡ true
found_in_flight c h p None is = cc
found_in_flight c h p (Some (s, now)) is =
    let parts = and_parts (is_of s p) (is_found c (sampled c h) h now s p) is in
    let more = and_parts (p.in_flight && is_unsettled h p) (is_past_threshold c (sampled c h) h now (largest_acknowledged h s) p) parts.1 in
    (and_parts p.in_flight (is_unsettled h p) more.0).0

-- what is found lost is in flight
pub owed_bytes : (c : Settings) (h : List Event) → sum_by bytes (owed c h) ≡ sum_by (λ p. p.size) (owed c h)
owed_bytes c h =
    same_sum bytes (λ p. p.size) (owed c h) (of_each (λ p. bytes p ≡ p.size) (owed c h) (λ p has.
    ap (λ b. if b then p.size else 0) (found_in_flight c h p (detection c h) (owed_is c h p has).1)))
