-- What one more event closes, and what it takes from a sum over the open packets.
use Rattle.std.proofs.Common.{◌≡◌, ◌∙◌, ◌+◌, ℕ, List, [], ◌∷◌, length, Bool, true, false, ◌&&◌, ◌||◌, not, Option, Some, None, refl, sym, ap, arith, Contains, filter, sum_by, zero-add, add-zero}
use Rattle.std.proofs.lemmas.Bool.{and_parts, and_right, or_left, or_right, or_from, not-true, both_ways, false_from_ne_true}
use Rattle.std.proofs.lemmas.List.Sums.{sum_by-cons}
use Rattle.std.specs.List.{AllByRecursion}
use Rattle.std.specs.Prelude.{if◌then◌else◌}
use Rattle.qa_base.specs.declared.event.Event.{Event}
use Rattle.qa_base.specs.declared.event.SentPacket.{SentPacket}
use Rattle.qa_base.specs.declared.event.Event.TheVariants.{Sent, Ack, Lost, Timer, Discard, Confirmed, Keys, Metrics}
use Rattle.qa_base.specs.declared.space.Space.{Space}
use Rattle.qa_base.specs.values.Events.{acknowledges, discards}
use Rattle.qa_base.specs.machine.Estimates.{sampled}
use Rattle.qa_base.specs.machine.Detection.{all_at, is_at, is_found, is_unsettled}
use Rattle.qa_base.specs.machine.Loss.{owed, is_owed, is_free, is_open, flight_size, bytes_in_flight, detection}
use Rattle.qa_base.specs.machine.Packets.{Packet, packets, packet_of, is_of, is_acknowledged, is_declared_lost, is_discarded, is_newly_acknowledged, newly_acknowledged, packet_at}
use Rattle.qa_base.specs.machine.Violations.{IsToleratedRun}
use Rattle.qa_base.specs.values.Settings.{Settings}
use Rattle.qa_base.specs.history.Declared.{is_named_free, named_free}
use Rattle.qa_base.specs.history.Sums.{counted, open_sum, is_discarded_by, discarded, bytes}
use Rattle.qa_base.proofs.history.Pairs.{of_each, same_part, part_of_part, none_left}
use Rattle.qa_base.proofs.machine.Quiet.{same_sum, not_followed}
use Rattle.qa_base.proofs.machine.RunLaws.{form_holds}
use Rattle.qa_base.proofs.history.Settled.{opens_is, open_before, covered_settles}
use Rattle.qa_base.proofs.history.Changes.{covered_after, lost_after, named_if_free, named_was_open, owed_was_flying, newly_was_open, found_unsettled}

-- ---- which packets an event closes

-- the packet was open before the event, and the event closes it
abbrev pub is_closed_by : Settings → Event → List Event → Packet → Bool
is_closed_by c e before p = is_open c before p && not (is_open c (e ∷ before) p)

abbrev closed_by : Settings → Event → List Event → List Packet
closed_by c e before = filter (is_closed_by c e before) (packets before)

by_tests : (names named found discards_it was_covered was_lost was_gone covered_now lost_now : Bool) → covered_now ≡ (names || was_covered) → lost_now ≡ (named || was_lost) → was_covered ≡ false → was_lost ≡ false → was_gone ≡ false
    → not (not covered_now && not lost_now && not found && not (discards_it || was_gone)) ≡ ((names && not was_covered && not was_lost) || found || (discards_it && true) || named)
by_tests true named found discards_it was_covered was_lost was_gone covered_now lost_now covered_is lost_is not_covered not_lost not_gone = rw (covered_is, not_covered, not_lost) refl
by_tests false true found discards_it was_covered was_lost was_gone covered_now lost_now covered_is lost_is not_covered not_lost not_gone =
    rw (covered_is, lost_is, not_covered) (sym (or_right (found || (discards_it && true)) true refl))
by_tests false false true discards_it was_covered was_lost was_gone covered_now lost_now covered_is lost_is not_covered not_lost not_gone = rw (covered_is, lost_is, not_covered, not_lost) refl
by_tests false false false true was_covered was_lost was_gone covered_now lost_now covered_is lost_is not_covered not_lost not_gone = rw (covered_is, lost_is, not_covered, not_lost) refl
by_tests false false false false was_covered was_lost was_gone covered_now lost_now covered_is lost_is not_covered not_lost not_gone = rw (covered_is, lost_is, not_covered, not_lost, not_gone) refl

closes_if : (c : Settings) (e : Event) (h : List Event) → IsToleratedRun c (e ∷ h) → (p : Packet) → Contains (packets h) p → (was : Bool) → is_open c h p ≡ was
    → (was && not (is_open c (e ∷ h) p)) ≡ (is_newly_acknowledged e h p || is_owed c (e ∷ h) p || (discards p.space e && was) || is_named_free c e h p)
closes_if c e h run p has true is =
    let o = opens_is c h p is in
    let covered_not = not-true (is_acknowledged h p) (and_parts (not (is_acknowledged h p)) (not (is_declared_lost h p)) o.unsettled).0 in
    let lost_not = not-true (is_declared_lost h p) (and_parts (not (is_acknowledged h p)) (not (is_declared_lost h p)) o.unsettled).1 in
    let lost_is = lost_after e h p has ∙ ap (λ (b : Bool). b || is_declared_lost h p) (named_if_free c e h run p has o.free) in
    by_tests (acknowledges p.space p.number e) (is_named_free c e h p) (is_owed c (e ∷ h) p) (discards p.space e)
    (is_acknowledged h p) (is_declared_lost h p) (is_discarded h p.space) (is_acknowledged (e ∷ h) p) (is_declared_lost (e ∷ h) p)
    (covered_after e h p has) lost_is covered_not lost_not o.there
closes_if c e h run p has false is =
    let not_newly = false_from_ne_true (is_newly_acknowledged e h p) (λ newly. both_ways (is_open c h p) is (newly_was_open c e h run p has newly)) in
    let not_owed = false_from_ne_true (is_owed c (e ∷ h) p) (λ found. both_ways (is_open c h p) is (and_parts p.in_flight (is_open c h p) (owed_was_flying c e h run p has found)).1) in
    let not_named = false_from_ne_true (is_named_free c e h p) (λ named. both_ways (is_open c h p) is (named_was_open c e h run p named)) in
    sym (or_from (is_newly_acknowledged e h p || is_owed c (e ∷ h) p || (discards p.space e && false)) (is_named_free c e h p)
    (or_from (is_newly_acknowledged e h p || is_owed c (e ∷ h) p) (discards p.space e && false)
    (or_from (is_newly_acknowledged e h p) (is_owed c (e ∷ h) p) not_newly not_owed) (and_right (discards p.space e) false refl)) not_named)

-- in a tolerated run an event closes the open packets that it newly acknowledges, that it finds lost, whose space it discards, and that were free
-- and that it names, and no others
pub closes_is : (c : Settings) (e : Event) (h : List Event) → IsToleratedRun c (e ∷ h) → (p : Packet) → Contains (packets h) p
    → is_closed_by c e h p ≡ (is_newly_acknowledged e h p || is_owed c (e ∷ h) p || is_discarded_by c e h p || is_named_free c e h p)
closes_is c e h run p has = closes_if c e h run p has (is_open c h p) refl

-- ---- sums

split_step : (n : ℕ) (was is : Bool) (rest_was rest_is closed : ℕ) → (is ≡ true → was ≡ true) → rest_was ≡ rest_is + closed
    → (if was then n else 0) + rest_was ≡ ((if is then n else 0) + rest_is) + (if was && not is then n + closed else closed)
split_step n true true rest_was rest_is closed stays rest = omega (arith, rest)
split_step n true false rest_was rest_is closed stays rest = omega (arith, rest)
split_step n false true rest_was rest_is closed stays rest = let no = stays refl in cc
split_step n false false rest_was rest_is closed stays rest = omega (arith, rest)

sum_if : (weight : Packet → ℕ) (p : Packet) (ps : List Packet) (keep : Bool) → sum_by weight (if keep then p ∷ ps else ps) ≡ (if keep then weight p + sum_by weight ps else sum_by weight ps)
sum_if weight p ps true = sum_by-cons weight p ps
sum_if weight p ps false = refl

-- where whatever passes the second test passes the first, the sum by the first is that by the second and the weights of those that pass only the first
pub sum_splits : (weight : Packet → ℕ) (was is : Packet → Bool) (ps : List Packet) → AllByRecursion (λ p. is p ≡ true → was p ≡ true) ps
    → sum_by (counted was weight) ps ≡ sum_by (counted is weight) ps + sum_by weight (filter (λ p. was p && not (is p)) ps)
sum_splits weight was is [] all = refl
sum_splits weight was is (p ∷ ps) all =
    let only : Packet → Bool = λ q. was q && not (is q) in
    sum_by-cons (counted was weight) p ps
    ∙ (split_step (weight p) (was p) (is p) (sum_by (counted was weight) ps) (sum_by (counted is weight) ps) (sum_by weight (filter only ps)) all.0 (sum_splits weight was is ps all.1)
    ∙ sym (ap (λ n. n + sum_by weight (filter only (p ∷ ps))) (sum_by-cons (counted is weight) p ps)
    ∙ ap (λ n. (counted is weight p + sum_by (counted is weight) ps) + n) (sum_if weight p (filter only ps) (only p))))

-- a sum over what passes either of two tests that no packet passes both
or_step : (n : ℕ) (f g : Bool) (either left right : ℕ) → (f ≡ true → g ≡ false) → either ≡ left + right
    → (if f || g then n + either else either) ≡ (if f then n + left else left) + (if g then n + right else right)
or_step n true true either left right apart rest = let no = apart refl in cc
or_step n true false either left right apart rest = omega (arith, rest)
or_step n false true either left right apart rest = omega (arith, rest)
or_step n false false either left right apart rest = rest

pub sum_of_either : (weight : Packet → ℕ) (f g : Packet → Bool) (ps : List Packet) → AllByRecursion (λ p. f p ≡ true → g p ≡ false) ps
    → sum_by weight (filter (λ p. f p || g p) ps) ≡ sum_by weight (filter f ps) + sum_by weight (filter g ps)
sum_of_either weight f g [] apart = refl
sum_of_either weight f g (p ∷ ps) apart =
    let fg : Packet → Bool = λ q. f q || g q in
    sum_if weight p (filter fg ps) (fg p)
    ∙ (or_step (weight p) (f p) (g p) (sum_by weight (filter fg ps)) (sum_by weight (filter f ps)) (sum_by weight (filter g ps)) apart.0 (sum_of_either weight f g ps apart.1)
    ∙ sym (ap (λ n. n + sum_by weight (filter g (p ∷ ps))) (sum_if weight p (filter f ps) (f p))
    ∙ ap (λ n. (if f p then weight p + sum_by weight (filter f ps) else sum_by weight (filter f ps)) + n) (sum_if weight p (filter g ps) (g p))))

-- ---- sums over the open packets

found_part : (c : Settings) (h : List Event) (d : Option (Space × ℕ)) → filter (λ p. is_at (is_found c (sampled c h) h) p d) (packets h) ≡ all_at (is_found c (sampled c h) h) h d
found_part c h None = none_left (λ p. false) (packets h) (of_each (λ p. false ≡ false) (packets h) (λ p has. refl))
found_part c h (Some (s, now)) = part_of_part (is_of s) (is_found c (sampled c h) h now s) (packets h)

-- what an event finds lost stands among the packets sent before it
pub owed_among : (c : Settings) (e : Event) (h : List Event) → filter (is_owed c (e ∷ h)) (packets h) ≡ owed c (e ∷ h)
owed_among c (Sent packet) h = none_left (λ p. false) (packets h) (of_each (λ p. false ≡ false) (packets h) (λ p has. refl))
owed_among c (Ack ack) h = found_part c (Ack ack ∷ h) (detection c (Ack ack ∷ h))
owed_among c (Lost time space ranges) h = found_part c (Lost time space ranges ∷ h) None
owed_among c (Timer time kind space) h = found_part c (Timer time kind space ∷ h) (detection c (Timer time kind space ∷ h))
owed_among c (Discard time space) h = found_part c (Discard time space ∷ h) None
owed_among c (Confirmed time) h = found_part c (Confirmed time ∷ h) None
owed_among c (Keys time) h = found_part c (Keys time ∷ h) None
owed_among c (Metrics time values) h = found_part c (Metrics time values ∷ h) None

newly_not_owed : (c : Settings) (e : Event) (h : List Event) (p : Packet) → Contains (packets h) p → is_newly_acknowledged e h p ≡ true → is_owed c (e ∷ h) p ≡ false
newly_not_owed c e h p has newly =
    let parts = and_parts (acknowledges p.space p.number e && not (is_acknowledged h p)) (not (is_declared_lost h p)) newly in
    let named = (and_parts (acknowledges p.space p.number e) (not (is_acknowledged h p)) parts.0).0 in
    let covered : is_acknowledged (e ∷ h) p ≡ true = covered_after e h p has ∙ or_left (acknowledges p.space p.number e) (is_acknowledged h p) named in
    false_from_ne_true (is_owed c (e ∷ h) p) (λ found. both_ways (is_unsettled (e ∷ h) p) (covered_settles (e ∷ h) p covered) (found_unsettled c (e ∷ h) p (detection c (e ∷ h)) found))

not_both_discarded : (c : Settings) (e : Event) (h : List Event) (p : Packet) → (is_newly_acknowledged e h p || is_owed c (e ∷ h) p) ≡ true → is_discarded_by c e h p ≡ false
not_both_discarded c (Discard time space) h p either = cc
not_both_discarded c _ h p either = refl

-- an event that names what is free is a Lost line, which does nothing else to it
not_both_named : (c : Settings) (e : Event) (h : List Event) (p : Packet) → (is_newly_acknowledged e h p || is_owed c (e ∷ h) p || is_discarded_by c e h p) ≡ true → is_named_free c e h p ≡ false
not_both_named c (Lost time space ranges) h p either = cc
not_both_named c _ h p either = and_right (is_free c h p) false refl

-- the weights of what an event closes
closed_sum : (weight : Packet → ℕ) (c : Settings) (e : Event) (h : List Event) → IsToleratedRun c (e ∷ h)
    → sum_by weight (closed_by c e h) ≡ sum_by weight (newly_acknowledged (e ∷ h)) + sum_by weight (owed c (e ∷ h)) + sum_by weight (discarded c e h) + sum_by weight (named_free c e h)
closed_sum weight c e h run =
    let newly = is_newly_acknowledged e h in
    let found = is_owed c (e ∷ h) in
    let gone = is_discarded_by c e h in
    let named = is_named_free c e h in
    let ps = packets h in
    ap (sum_by weight) (same_part (is_closed_by c e h) (λ p. newly p || found p || gone p || named p) ps
    (of_each (λ p. is_closed_by c e h p ≡ (newly p || found p || gone p || named p)) ps (λ p has. closes_is c e h run p has)))
    ∙ (sum_of_either weight (λ p. newly p || found p || gone p) named ps (of_each (λ p. (newly p || found p || gone p) ≡ true → named p ≡ false) ps (λ p has either. not_both_named c e h p either))
    ∙ ap (λ n. n + sum_by weight (filter named ps))
    (sum_of_either weight (λ p. newly p || found p) gone ps (of_each (λ p. (newly p || found p) ≡ true → gone p ≡ false) ps (λ p has either. not_both_discarded c e h p either))
    ∙ ap (λ n. n + sum_by weight (filter gone ps))
    (sum_of_either weight newly found ps (of_each (λ p. newly p ≡ true → found p ≡ false) ps (λ p has is. newly_not_owed c e h p has is))
    ∙ ap (λ qs. sum_by weight (filter newly ps) + sum_by weight qs) (owed_among c e h))))

-- a packet is open that was just sent, unless its space is gone
pub sent_is_open : (c : Settings) (h : List Event) (packet : SentPacket) (p : Packet)
    → p.place ≡ length h → p.space ≡ packet.space → is_discarded h packet.space ≡ false → is_open c (Sent packet ∷ h) p ≡ true
sent_is_open c h packet p place in_space there =
    let not_covered : is_acknowledged h p ≡ false = not_followed _ h p (omega (arith, place)) in
    let not_lost : is_declared_lost h p ≡ false = not_followed _ h p (omega (arith, place)) in
    let still : is_discarded h p.space ≡ false = rw in_space there in
    rw (not_covered, not_lost, still) refl

-- the packet that an event sends is open after it
sum_after : (weight : Packet → ℕ) (c : Settings) (e : Event) (h : List Event) → IsToleratedRun c (e ∷ h)
    → open_sum weight c (e ∷ h) ≡ sum_by weight (packet_of (length h) e) + sum_by (counted (is_open c (e ∷ h)) weight) (packets h)
sum_after weight c (Sent packet) h run =
    let e = Sent packet in
    let p = packet_at (length h) packet in
    let holds = form_holds c h e run.1 in
    let open_now : is_open c (e ∷ h) p ≡ true = sent_is_open c h packet p refl refl holds.space_gone in
    let here : counted (is_open c (e ∷ h)) weight p ≡ weight p = ap (λ b. if b then weight p else 0) open_now in
    let alone : sum_by weight (p ∷ []) ≡ weight p = sum_by-cons weight p [] ∙ add-zero (weight p) in
    sum_by-cons (counted (is_open c (e ∷ h)) weight) p (packets h)
    ∙ ap (λ n. n + sum_by (counted (is_open c (e ∷ h)) weight) (packets h)) (here ∙ sym alone)
sum_after weight c e h run = sym (zero-add _)

-- in a tolerated run one more event adds the packet that it sends to a sum over the open packets, and takes off those that it newly
-- acknowledges, that it finds lost, whose space it discards, and that were free and that it names
pub open_sum_after : (weight : Packet → ℕ) (c : Settings) (e : Event) (h : List Event) → IsToleratedRun c (e ∷ h)
    → open_sum weight c (e ∷ h) + (sum_by weight (newly_acknowledged (e ∷ h)) + sum_by weight (owed c (e ∷ h)) + sum_by weight (discarded c e h) + sum_by weight (named_free c e h))
    ≡ open_sum weight c h + sum_by weight (packet_of (length h) e)
open_sum_after weight c e h run =
    let after = sum_after weight c e h run in
    let closed = closed_sum weight c e h run in
    let splits = sum_splits weight (is_open c h) (is_open c (e ∷ h)) (packets h) (of_each (λ p. is_open c (e ∷ h) p ≡ true → is_open c h p ≡ true) (packets h) (λ p has is. open_before c e h run p has is)) in
    omega (arith, after, closed, splits)

-- ---- bytes in flight, and the count of packets that ask for an acknowledgment

flight_if : (open_now in_flight : Bool) (size : ℕ) → (if in_flight && open_now then size else 0) ≡ (if open_now then (if in_flight then size else 0) else 0)
flight_if true true size = refl
flight_if true false size = refl
flight_if false true size = refl
flight_if false false size = refl

pub bytes_in_flight_is : (c : Settings) (h : List Event) → bytes_in_flight c h ≡ open_sum bytes c h
bytes_in_flight_is c h =
    same_sum (flight_size c h) (counted (is_open c h) bytes) (packets h)
    (of_each (λ p. flight_size c h p ≡ counted (is_open c h) bytes p) (packets h) (λ p has. flight_if (is_open c h p) p.in_flight p.size))
