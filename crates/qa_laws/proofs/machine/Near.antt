-- In a run, where losses by number must be declared, a packet that is open and in flight lies less than the packet threshold below the
-- largest acknowledged number.
use Rattle.std.proofs.Common.{◌≡◌, ◌∙◌, ◌<◌, ◌≤◌, ℕ, List, [], ◌∷◌, length, count_by, Bool, true, false, ◌&&◌, ◌||◌, not, Option, Some, None, refl, sym, ap, arith, subst, Contains, inl, inr, ◌⊎◌}
use Rattle.std.proofs.lemmas.Bool.{and_parts, and_from, both_ways, le-leb, le-ltb, leb-false, leb-true, lt-ltb, ltb-true, not-true, not_from_false, or_cases, or_left}
use Rattle.std.specs.List.{AllByRecursion}
use Rattle.std.specs.Prelude.{nat_lt, nat_le, if◌then◌else◌}
use Rattle.qa_base.specs.declared.event.Event.{Event}
use Rattle.qa_base.specs.declared.event.Event.TheVariants.{Sent, Ack}
use Rattle.qa_base.specs.declared.space.Space.{Space}
use Rattle.qa_base.specs.declared.space.ThresholdCounts.{ThresholdCounts}
use Rattle.qa_base.specs.declared.space.ThresholdCounts.TheVariants.{Numbers, Packets}
use Rattle.std.proofs.lemmas.Bool.Decides.{nat_tests}
use Rattle.std.proofs.lemmas.List.Sums.{sum_by-cons}
use Rattle.qa_base.proofs.history.Thresholds.{distance_rises}
use Rattle.qa_base.specs.machine.Detection.{count_between, distance_below, is_at, is_far_below, is_found, is_old, is_past_threshold, is_unsettled, may_be_spared}
use Rattle.qa_base.specs.machine.Estimates.{sampled}
use Rattle.qa_base.specs.machine.Loss.{detection, is_free, is_open, is_owed}
use Rattle.qa_base.specs.machine.Order.{IsLower, NumbersFall}
use Rattle.qa_base.specs.machine.Packets.{packet_at, is_of, packets_of}
use Rattle.qa_base.specs.machine.Packets.{Packet, acknowledges_new, greatest, greatest_in, is_acknowledged, is_declared_lost, is_followed_by, is_newly_acknowledged, is_of, largest_acknowledged, newly_acknowledged, packets, packet_at}
use Rattle.qa_base.specs.machine.Rtt.{Estimate}
use Rattle.qa_base.specs.machine.Rules.{IsRun}
use Rattle.qa_base.specs.values.Events.{acknowledges, declares_lost, is_named, is_space}
use Rattle.qa_base.specs.values.Settings.{Settings, is_may}
use Rattle.qa_base.proofs.machine.Quiet.{not_followed}
use Rattle.qa_base.proofs.machine.RunLaws.{numbers_fall, tolerated_run_of}
use Rattle.qa_format.specs.format.Proper.{IsProperEvent}
use Rattle.qa_base.specs.history.Declared.{is_named_free}
use Rattle.qa_base.specs.history.Oldest.{is_flying}
use Rattle.qa_base.proofs.history.Changes.{covered_after, free_is_left, lost_is_taken}
use Rattle.qa_laws.proofs.machine.ConductOfLosses.{Acknowledged, largest_is_acknowledged}
use Rattle.qa_base.proofs.history.ToleratedRuns.{is_space_is, is_space_same}
use Rattle.qa_base.proofs.history.Pairs.{at_one, first_or_rest, part_has}
use Rattle.qa_base.proofs.history.Settled.{has_some, largest_after, open_before, opens_is, raised, settled_parts}

-- ---- the packets of a history and the one that its last event sent

-- the event sent this packet, which nothing follows
pub record IsSentBy (e : Event) (h : List Event) (p : Packet) : Type 0 where
  pub all : packets (e ∷ h) ≡ p ∷ packets h
  pub place : length h ≤ p.place

sent_or_before : (e : Event) (h : List Event) (p : Packet) → Contains (packets (e ∷ h)) p → IsSentBy e h p ⊎ Contains (packets h) p
sent_or_before (Sent packet) h p has =
    let q = packet_at (length h) packet in
    elim (first_or_rest q p (packets h) has) [
      | inl same ↦ inl (record { all = ap (λ k. k ∷ packets h) same; place = (let at = ap (λ (k : Packet). k.place) same in omega (arith, at)) })
      | inr behind ↦ inr behind
    ]
sent_or_before _ h p has = inr has

never_follows : (test : Event → Bool) (e : Event) (h : List Event) (p : Packet) → length h ≤ p.place → is_followed_by test (e ∷ h) p ≡ false
never_follows test e h p place = rw (le-ltb p.place (length h) place, not_followed test h p place) (and_never (test e))
  where
    and_never : (b : Bool) → ((b && false) || false) ≡ false
    and_never true = refl
    and_never false = refl

-- ---- no settled number is above the largest acknowledged one

abbrev IsAtMost : ℕ → Option ℕ → Type 0
IsAtMost n None = ⊥
IsAtMost n (Some m) = n ≤ m

at_most_raised : (here : List ℕ) (most : Option ℕ) (n : ℕ) → IsAtMost n most → IsAtMost n (raised here most)
at_most_raised [] most n le = le
at_most_raised (k ∷ ks) None n le = absurd le
at_most_raised (k ∷ ks) (Some m) n le = omega (arith, le)

at_most_stays : (e : Event) (h : List Event) (s : Space) (n : ℕ) → IsAtMost n (largest_acknowledged h s) → IsAtMost n (largest_acknowledged (e ∷ h) s)
at_most_stays e h s n le = rw (largest_after e h s) (at_most_raised (greatest_in s e) (largest_acknowledged h s) n le)

named_at_most : (ranges : List (ℕ × ℕ)) (n : ℕ) → is_named ranges n ≡ true → n ≤ greatest ranges
named_at_most [] n is = cc
named_at_most (range ∷ ranges) n is = elim (or_cases (nat_le range.0 n && nat_le n range.1) (is_named ranges n) is) [
  | inl here ↦ (let le = leb-true n range.1 (and_parts (nat_le range.0 n) (nat_le n range.1) here).1 in omega (arith, le))
  | inr later ↦ (let le = named_at_most ranges n later in omega (arith, le))
]

raised_by : (here : Bool) (n k : ℕ) (most : Option ℕ) → here ≡ true → n ≤ k → IsAtMost n (raised (if here then k ∷ [] else []) most)
raised_by true n k most is le = omega (arith, le)
raised_by false n k most is le = cc

acknowledged_at_most : (e : Event) (h : List Event) (q : Packet) → acknowledges q.space q.number e ≡ true → IsAtMost q.number (largest_acknowledged (e ∷ h) q.space)
acknowledged_at_most (Ack ack) h q is =
    let both = and_parts (is_space q.space ack.space) (is_named ack.ranges q.number) is in
    rw (largest_after (Ack ack) h q.space)
    (raised_by (is_space q.space ack.space) q.number (greatest ack.ranges) (largest_acknowledged h q.space) both.0 (named_at_most ack.ranges q.number both.1))
acknowledged_at_most _ h q is = cc

past_at_most : (c : Settings) (r : Estimate) (h : List Event) (now : ℕ) (most : Option ℕ) (q : Packet) → is_past_threshold c r h now most q ≡ true → IsAtMost q.number most
past_at_most c r h now None q is = cc
past_at_most c r h now (Some m) q is =
    let less = ltb-true q.number m (and_parts (nat_lt q.number m) ((not (is_may c.options.loss_by_number) && is_far_below c h m q) || is_old c r now q) is).0 in
    omega (arith, less)

found_at_most : (c : Settings) (h : List Event) (q : Packet) (d : Option (Space × ℕ)) → is_at (is_found c (sampled c h) h) q d ≡ true → IsAtMost q.number (largest_acknowledged h q.space)
found_at_most c h q None is = cc
found_at_most c h q (Some (s, now)) is =
    let r = sampled c h in
    let both = and_parts (is_of s q) (is_found c r h now s q) is in
    let past = and_parts (q.in_flight && is_unsettled h q) (is_past_threshold c r h now (largest_acknowledged h s) q) both.1 in
    subst (λ (t : Space). IsAtMost q.number (largest_acknowledged h t)) (is_space_is s q.space both.0) (past_at_most c r h now (largest_acknowledged h s) q past.1)

spared_at_most : (c : Settings) (r : Estimate) (h : List Event) (now : ℕ) (most : Option ℕ) (q : Packet) → may_be_spared c r h now most q ≡ true → IsAtMost q.number most
spared_at_most c r h now None q is = cc
spared_at_most c r h now (Some m) q is =
    let by_number = is_may c.options.loss_by_number && is_far_below c h m q in
    let young = and_parts (nat_lt q.number m && by_number) (not (is_old c r now q)) is in
    let less = ltb-true q.number m (and_parts (nat_lt q.number m) by_number young.0).0 in
    omega (arith, less)

free_at_most : (c : Settings) (h : List Event) (q : Packet) → is_free c h q ≡ true → IsAtMost q.number (largest_acknowledged h q.space)
free_at_most c h q is =
    let left = free_is_left c h q is in
    spared_at_most c (sampled c h) h left.now (largest_acknowledged h q.space) q left.spared

taken_at_most : (c : Settings) (e : Event) (h : List Event) (q : Packet) → (is_owed c h q || is_named_free c e h q) ≡ true → IsAtMost q.number (largest_acknowledged h q.space)
taken_at_most c e h q is = elim (or_cases (is_owed c h q) (is_named_free c e h q) is) [
  | inl owed_then ↦ found_at_most c h q (detection c h) owed_then
  | inr named ↦ free_at_most c h q (and_parts (is_free c h q) (declares_lost q.space q.number e) named).0
]

or_other : (a b : Bool) → (a || b) ≡ true → b ≡ false → a ≡ true
or_other true b is none = refl
or_other false true is none = cc
or_other false false is none = cc

settled_if : (c : Settings) (e : Event) (h : List Event) → IsRun c (e ∷ h) → (q : Packet) → Contains (packets h) q → (was : Bool) → is_unsettled h q ≡ was
    → is_unsettled (e ∷ h) q ≡ false → (is_unsettled h q ≡ false → IsAtMost q.number (largest_acknowledged h q.space)) → IsAtMost q.number (largest_acknowledged (e ∷ h) q.space)
settled_if c e h run q has false was settled before = at_most_stays e h q.space q.number (before was)
settled_if c e h run q has true was settled before =
    let neither = and_parts (not (is_acknowledged h q)) (not (is_declared_lost h q)) was in
    elim (settled_parts (e ∷ h) q settled) [
      | inl covered ↦ acknowledged_at_most e h q
          (or_other (acknowledges q.space q.number e) (is_acknowledged h q) (sym (covered_after e h q has) ∙ covered) (not-true (is_acknowledged h q) neither.0))
      | inr lost ↦ at_most_stays e h q.space q.number (taken_at_most c e h q
          (or_other (is_owed c h q || is_named_free c e h q) (is_declared_lost h q) (sym (lost_is_taken c e h (tolerated_run_of c (e ∷ h) run) q has) ∙ lost) (not-true (is_declared_lost h q) neither.1)))
    ]

new_unsettled : (e : Event) (h : List Event) (q : Packet) → length h ≤ q.place → is_unsettled (e ∷ h) q ≡ true
new_unsettled e h q place = rw (never_follows (acknowledges q.space q.number) e h q place, never_follows (declares_lost q.space q.number) e h q place) refl

-- in a run the number of a packet that is acknowledged or declared lost is at most the largest acknowledged one
pub settled_at_most : (c : Settings) (h : List Event) → IsRun c h → (q : Packet) → Contains (packets h) q → is_unsettled h q ≡ false → IsAtMost q.number (largest_acknowledged h q.space)
settled_at_most c [] run q (k, within, is) settled = absurd (omega (arith, within))
settled_at_most c (e ∷ h) run q has settled = elim (sent_or_before e h q has) [
  | inl sent ↦ absurd (both_ways (is_unsettled (e ∷ h) q) settled (new_unsettled e h q sent.place))
  | inr before ↦ settled_if c e h run q before (is_unsettled h q) refl settled (λ was. settled_at_most c h run.0 q before was)
]

-- ---- how far below the largest acknowledged number

-- past the packet threshold, by which packets must be lost where the header does not let the sender spare them
abbrev pub is_far : Settings → List Event → Packet → Option ℕ → Bool
is_far c h p None = false
is_far c h p (Some m) = nat_lt p.number m && is_far_below c h m p

far_is_past : (c : Settings) (r : Estimate) (h : List Event) (now : ℕ) (most : Option ℕ) (p : Packet) → is_may c.options.loss_by_number ≡ false → is_far c h p most ≡ true → is_past_threshold c r h now most p ≡ true
far_is_past c r h now None p must is = cc
far_is_past c r h now (Some m) p must is =
    let both = and_parts (nat_lt p.number m) (is_far_below c h m p) is in
    and_from (nat_lt p.number m) ((not (is_may c.options.loss_by_number) && is_far_below c h m p) || is_old c r now p) both.0
    (or_left (not (is_may c.options.loss_by_number) && is_far_below c h m p) (is_old c r now p)
    (and_from (not (is_may c.options.loss_by_number)) (is_far_below c h m p) (not_from_false (is_may c.options.loss_by_number) must) both.1))

far_from_more : (c : Settings) (h : List Event) (p : Packet) (m : ℕ) (most : Option ℕ) → is_far c h p (Some m) ≡ true → IsAtMost m most → is_far c h p most ≡ true
far_from_more c h p m None is le = absurd le
far_from_more c h p m (Some k) is le =
    let counts = c.options.threshold_counts in
    let both = and_parts (nat_lt p.number m) (is_far_below c h m p) is in
    let less = ltb-true p.number m both.0 in
    let far = leb-true c.options.packet_threshold (distance_below counts h p.space p.number m) both.1 in
    let more = distance_rises counts h p.space p.number m k le in
    and_from (nat_lt p.number k) (is_far_below c h k p) (lt-ltb p.number k (omega (arith, less, le)))
    (le-leb c.options.packet_threshold (distance_below counts h p.space p.number k) (omega (arith, far, more)))

-- ---- an event counts nothing more up to a number that was sent

one_above : (n m top : ℕ) → top < m → ◌≡◌ {A = ℕ} (if nat_lt n m && nat_le m top then 1 else 0) 0
one_above n m top above = grind (arith, nat_tests, above)

count_if : (n top : ℕ) (p : Packet) (ps : List Packet) (b : Bool) → (b ≡ true → top < p.number)
    → count_by (λ (q : Packet). nat_lt n q.number && nat_le q.number top) (if b then p ∷ ps else ps) ≡ count_by (λ (q : Packet). nat_lt n q.number && nat_le q.number top) ps
count_if n top p ps false above = refl
count_if n top p ps true above =
    let a = sum_by-cons (λ (q : Packet). if nat_lt n q.number && nat_le q.number top then 1 else 0) p ps in
    let none = one_above n p.number top (above refl) in
    omega (arith, a, none)

count_stays : (c : Settings) (e : Event) (h : List Event) → IsRun c (e ∷ h) → (q : Packet) → Contains (packets h) q → (s : Space) → q.space ≡ s → (n m : ℕ) → q.number ≡ m
    → count_between (e ∷ h) s n m ≡ count_between h s n m
count_stays c (Sent packet) h run q has s of_space n m number =
    let new = packet_at (length h) packet in
    let falls : NumbersFall (new ∷ packets h) = numbers_fall c (Sent packet ∷ h) (tolerated_run_of c (Sent packet ∷ h) run) in
    count_if n m new (packets_of h s) (is_of s new) (λ same.
    let here : is_of new.space q ≡ true = rw (of_space, sym (is_space_is s new.space same)) (is_space_same s) in
    let lower : q.number < new.number = at_one (IsLower new) (packets h) q falls.0 has here in
    omega (arith, lower, number))
count_stays c _ h run q has s of_space n m number = refl

distance_stays : (counts : ThresholdCounts) (c : Settings) (e : Event) (h : List Event) → IsRun c (e ∷ h) → (q : Packet) → Contains (packets h) q → (s : Space) → q.space ≡ s → (n m : ℕ) → q.number ≡ m
    → distance_below counts (e ∷ h) s n m ≡ distance_below counts h s n m
distance_stays Numbers c e h run q has s of_space n m number = refl
distance_stays Packets c e h run q has s of_space n m number = count_stays c e h run q has s of_space n m number

-- so what is far with it was far without it
far_without : (c : Settings) (e : Event) (h : List Event) → IsRun c (e ∷ h) → (p q : Packet) (m : ℕ) → Contains (packets h) q → q.space ≡ p.space → q.number ≡ m → is_far c (e ∷ h) p (Some m) ≡ is_far c h p (Some m)
far_without c e h run p q m has same number =
    ap (λ d. nat_lt p.number m && nat_le c.options.packet_threshold d) (distance_stays c.options.threshold_counts c e h run q has p.space same p.number m number)

-- ---- an acknowledgment of something new finds what is far

owed_by_ack : (c : Settings) (e : Event) (h : List Event) (q p : Packet) → is_may c.options.loss_by_number ≡ false → acknowledges q.space q.number e ≡ true → acknowledges_new (e ∷ h) ≡ true → p.space ≡ q.space → p.in_flight ≡ true
    → is_unsettled (e ∷ h) p ≡ true → is_far c (e ∷ h) p (largest_acknowledged (e ∷ h) p.space) ≡ true → is_owed c (e ∷ h) p ≡ true
owed_by_ack c (Ack ack) h q p must acks new same flies unsettled far =
    let e = Ack ack in
    let r = sampled c (e ∷ h) in
    let of_space : p.space ≡ ack.space = same ∙ is_space_is q.space ack.space (and_parts (is_space q.space ack.space) (is_named ack.ranges q.number) acks).0 in
    let past : is_past_threshold c r (e ∷ h) ack.time (largest_acknowledged (e ∷ h) ack.space) p ≡ true =
    subst (λ (s : Space). is_past_threshold c r (e ∷ h) ack.time (largest_acknowledged (e ∷ h) s) p ≡ true) of_space (far_is_past c r (e ∷ h) ack.time (largest_acknowledged (e ∷ h) p.space) p must far) in
    let here : is_of ack.space p ≡ true = rw of_space (is_space_same ack.space) in
    ap (λ b. is_at (is_found c r (e ∷ h)) p (if◌then◌else◌ {A = Option (Space × ℕ)} b (Some (ack.space, ack.time)) None)) new
    ∙ and_from (is_of ack.space p) (is_found c r (e ∷ h) ack.time ack.space p) here
    (and_from (p.in_flight && is_unsettled (e ∷ h) p) (is_past_threshold c r (e ∷ h) ack.time (largest_acknowledged (e ∷ h) ack.space) p) (and_from p.in_flight (is_unsettled (e ∷ h) p) flies unsettled) past)
owed_by_ack c _ h q p must acks new same flies unsettled far = cc

-- ---- no packet that is open and in flight is far

far_before : (c : Settings) (e : Event) (h : List Event) (p q : Packet) (m : ℕ) → is_may c.options.loss_by_number ≡ false → IsRun c (e ∷ h) → is_flying c (e ∷ h) p ≡ true → is_far c (e ∷ h) p (largest_acknowledged (e ∷ h) p.space) ≡ true
    → is_far c h p (Some m) ≡ true → Contains (packets h) q → q.space ≡ p.space → q.number ≡ m → is_acknowledged (e ∷ h) q ≡ true → (was : Bool) → is_unsettled h q ≡ was
    → is_far c h p (largest_acknowledged h p.space) ≡ true
far_before c e h p q m must run flying far_now far has same number covered false was =
    far_from_more c h p m (largest_acknowledged h p.space) far
    (subst (λ (n : ℕ). IsAtMost n (largest_acknowledged h p.space)) number (subst (λ (s : Space). IsAtMost q.number (largest_acknowledged h s)) same (settled_at_most c h run.0 q has was)))
far_before c e h p q m must run flying far_now far has same number covered true was =
    let neither = and_parts (not (is_acknowledged h q)) (not (is_declared_lost h q)) was in
    let acks = or_other (acknowledges q.space q.number e) (is_acknowledged h q) (sym (covered_after e h q has) ∙ covered) (not-true (is_acknowledged h q) neither.0) in
    let newly : is_newly_acknowledged e h q ≡ true = and_from (acknowledges q.space q.number e && not (is_acknowledged h q)) (not (is_declared_lost h q))
    (and_from (acknowledges q.space q.number e) (not (is_acknowledged h q)) acks neither.0) neither.1 in
    let new : acknowledges_new (e ∷ h) ≡ true = has_some (newly_acknowledged (e ∷ h)) q (part_has (is_newly_acknowledged e h) (packets h) q has newly) in
    let flies = and_parts p.in_flight (is_open c (e ∷ h) p) flying in
    let opens = opens_is c (e ∷ h) p flies.1 in
    absurd (both_ways (is_owed c (e ∷ h) p) opens.free (owed_by_ack c e h q p must acks new (sym same) flies.0 opens.unsettled far_now))

new_is_near : (c : Settings) (e : Event) (h : List Event) (p q : Packet) (m : ℕ) → IsRun c (e ∷ h) → packets (e ∷ h) ≡ p ∷ packets h → Contains (packets h) q → q.space ≡ p.space → q.number ≡ m
    → is_far c (e ∷ h) p (Some m) ≡ true → ⊥
new_is_near c e h p q m run all has same number far =
    let falls = subst (λ (ps : List Packet). NumbersFall ps) all (numbers_fall c (e ∷ h) (tolerated_run_of c (e ∷ h) run)) in
    let lower : q.number < p.number = at_one (IsLower p) (packets h) q falls.0 has (rw same (is_space_same p.space)) in
    let above = ltb-true p.number m (and_parts (nat_lt p.number m) (is_far_below c (e ∷ h) m p) far).0 in
    omega (arith, lower, above, number)

never_far : (c : Settings) (e : Event) (h : List Event) → is_may c.options.loss_by_number ≡ false → IsRun c (e ∷ h) → (p : Packet) → Contains (packets (e ∷ h)) p → is_flying c (e ∷ h) p ≡ true
    → (Contains (packets h) p → is_far c h p (largest_acknowledged h p.space) ≡ false) → (most : Option ℕ) → largest_acknowledged (e ∷ h) p.space ≡ most
    → ((m : ℕ) → largest_acknowledged (e ∷ h) p.space ≡ Some m → Acknowledged (e ∷ h) p.space m) → (far : Bool) → is_far c (e ∷ h) p most ≡ far → far ≡ false
never_far c e h must run p has flying before most largest covers false far = refl
never_far c e h must run p has flying before None largest covers true far = cc
never_far c e h must run p has flying before (Some m) largest covers true far =
    let one = covers m largest in
    let q = one.0 in
    let far_now : is_far c (e ∷ h) p (largest_acknowledged (e ∷ h) p.space) ≡ true = ap (is_far c (e ∷ h) p) largest ∙ far in
    elim (sent_or_before e h q one.1) [
      | inl new ↦ absurd (both_ways (is_acknowledged (e ∷ h) q) (never_follows (acknowledges q.space q.number) e h q new.place) one.4)
      | inr has_q ↦ elim (sent_or_before e h p has) [
        | inl sent ↦ absurd (new_is_near c e h p q m run sent.all has_q one.2 one.3 far)
        | inr has_p ↦ absurd (both_ways (is_far c h p (largest_acknowledged h p.space)) (before has_p)
            (far_before c e h p q m must run flying far_now (sym (far_without c e h run p q m has_q one.2 one.3) ∙ far) has_q one.2 one.3 one.4 (is_unsettled h q) refl))
      ]
    ]

flying_before : (c : Settings) (e : Event) (h : List Event) → IsRun c (e ∷ h) → (p : Packet) → Contains (packets h) p → is_flying c (e ∷ h) p ≡ true → is_flying c h p ≡ true
flying_before c e h run p has flying =
    let both = and_parts p.in_flight (is_open c (e ∷ h) p) flying in
    and_from p.in_flight (is_open c h p) both.0 (open_before c e h (tolerated_run_of c (e ∷ h) run) p has both.1)

-- in a run, where lines can say its events
pub flying_is_near : (c : Settings) (h : List Event) → is_may c.options.loss_by_number ≡ false → IsRun c h → AllByRecursion IsProperEvent h → (p : Packet) → Contains (packets h) p → is_flying c h p ≡ true
    → is_far c h p (largest_acknowledged h p.space) ≡ false
flying_is_near c [] must run proper p has flying = refl
flying_is_near c (e ∷ h) must run proper p has flying =
    never_far c e h must run p has flying (λ was. flying_is_near c h must run.0 proper.1 p was (flying_before c e h run p was flying)) (largest_acknowledged (e ∷ h) p.space) refl
    (λ m most. largest_is_acknowledged c (e ∷ h) run proper p.space m most) (is_far c (e ∷ h) p (largest_acknowledged (e ∷ h) p.space)) refl

near_if : (c : Settings) (h : List Event) (p : Packet) (m : ℕ) (far : Bool) → is_far_below c h m p ≡ far → (nat_lt p.number m && far) ≡ false → p.number < m → distance_below c.options.threshold_counts h p.space p.number m < c.options.packet_threshold
near_if c h p m true is none less = absurd (both_ways (nat_lt p.number m && true) none (and_from (nat_lt p.number m) true (lt-ltb p.number m less) refl))
near_if c h p m false is none less = leb-false c.options.packet_threshold (distance_below c.options.threshold_counts h p.space p.number m) is

-- so it is by the distance
pub flying_below : (c : Settings) (h : List Event) → is_may c.options.loss_by_number ≡ false → IsRun c h → AllByRecursion IsProperEvent h → (p : Packet) → Contains (packets h) p → is_flying c h p ≡ true
    → (m : ℕ) → largest_acknowledged h p.space ≡ Some m → p.number < m → distance_below c.options.threshold_counts h p.space p.number m < c.options.packet_threshold
flying_below c h must run proper p has flying m largest less =
    near_if c h p m (is_far_below c h m p) refl (sym (ap (is_far c h p) largest) ∙ flying_is_near c h must run proper p has flying) less
