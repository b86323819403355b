-- What a run declares lost was lost.
use Rattle.std.proofs.Common.{◌≡◌, ◌∙◌, ◌-◌, ◌<◌, ◌≤◌, ℕ, max, List, [], ◌∷◌, ◌++◌, length, Bool, true, false, ◌&&◌, ◌||◌, not, Option, Some, None, refl, sym, ap, arith, subst, Contains, inl, inr, ◌⊎◌}
use Rattle.std.proofs.lemmas.Bool.{and_parts, and_from, or_left, or_right, or_cases, not-false, leb-true, leb-false, ltb-true, lt-ltb, le-leb}
use Rattle.std.specs.List.{list_all, AllByRecursion}
use Rattle.std.specs.Prelude.{nat_lt, nat_le, if◌then◌else◌}
use Rattle.qa_base.specs.declared.event.Event.{Event}
use Rattle.qa_base.specs.declared.event.Ack.{Ack as Acknowledgment}
use Rattle.qa_base.specs.declared.event.Event.TheVariants.{Ack, Lost}
use Rattle.qa_base.specs.declared.space.Space.{Space}
use Rattle.qa_base.specs.machine.Breaches.{numbers}
use Rattle.qa_laws.specs.machine.Conduct.{IsLostRightly}
use Rattle.qa_base.specs.values.Events.{is_space, is_named, acknowledges, has_ranges}
use Rattle.qa_base.specs.machine.Estimates.{sampled}
use Rattle.qa_base.specs.machine.Detection.{distance_below, is_at, is_found, is_old, is_past_threshold, is_unsettled, may_be_spared}
use Rattle.qa_base.specs.machine.Loss.{owed, is_owed, is_free, nameable, is_nameable, detection}
use Rattle.qa_base.specs.machine.Numbers.{has_all}
use Rattle.qa_base.specs.machine.Packets.{Packet, packet_of, packets, packets_of, is_of, is_acknowledged, greatest, greatest_in, largest_acknowledged}
use Rattle.qa_format.specs.format.Proper.{IsRange, IsProperEvent}
use Rattle.qa_base.specs.machine.Rules.{IsRun}
use Rattle.qa_base.specs.values.Settings.{Settings, is_may}
use Rattle.qa_base.specs.machine.Rtt.{loss_delay}
use Rattle.qa_base.proofs.history.Changes.{free_is_left, one_of_numbers}
use Rattle.qa_base.proofs.history.ToleratedRuns.{in_order, is_space_same, is_space_is}
use Rattle.qa_base.proofs.machine.WindowBound.{placed}
use Rattle.qa_base.proofs.history.Pairs.{at_one, has_later, part_is, two_of}
use Rattle.qa_base.proofs.machine.Ranges.{has_all_names}
use Rattle.qa_base.proofs.machine.RunLaws.{all_hold, old_is_after_loss_delay, tolerated_run_of}
use Rattle.qa_base.proofs.history.Settled.{raised, largest_after, covered_stays, nameable_is, nameable_space, names_all}
use Rattle.qa_base.specs.history.Sequence.{WasSentBefore}

-- ---- the largest acknowledged number is that of an acknowledged packet

greatest_first : (range : ℕ × ℕ) (ranges : List (ℕ × ℕ)) (b : Bool) → nat_le (greatest ranges) range.1 ≡ b → range.0 ≤ range.1
    → is_named ranges (greatest ranges) ≡ true → is_named (range ∷ ranges) (greatest (range ∷ ranges)) ≡ true
greatest_first range ranges true below order named =
    let le = leb-true (greatest ranges) range.1 below in
    let is : max range.1 (greatest ranges) ≡ range.1 = omega (arith, le) in
    subst (λ (k : ℕ). is_named (range ∷ ranges) k ≡ true) (sym is) (or_left (nat_le range.0 range.1 && nat_le range.1 range.1) (is_named ranges range.1)
    (and_from (nat_le range.0 range.1) (nat_le range.1 range.1) (le-leb range.0 range.1 order) (le-leb range.1 range.1 (omega arith))))
greatest_first range ranges false below order named =
    let gt = leb-false (greatest ranges) range.1 below in
    let is : max range.1 (greatest ranges) ≡ greatest ranges = omega (arith, gt) in
    subst (λ (k : ℕ). is_named (range ∷ ranges) k ≡ true) (sym is) (or_right (nat_le range.0 (greatest ranges) && nat_le (greatest ranges) range.1) (is_named ranges (greatest ranges)) named)

greatest_of_one : (range : ℕ × ℕ) → range.0 ≤ range.1 → is_named (range ∷ []) (greatest (range ∷ [])) ≡ true
greatest_of_one range order =
    let is : max range.1 0 ≡ range.1 = omega arith in
    rw is (or_left (nat_le range.0 range.1 && nat_le range.1 range.1) false
    (and_from (nat_le range.0 range.1) (nat_le range.1 range.1) (le-leb range.0 range.1 order) (le-leb range.1 range.1 (omega arith))))

greatest_is_named : (ranges : List (ℕ × ℕ)) → has_ranges ranges ≡ true → AllByRecursion IsRange ranges → is_named ranges (greatest ranges) ≡ true
greatest_is_named [] some order = cc
greatest_is_named (range ∷ []) some order = greatest_of_one range order.0.0
greatest_is_named (range ∷ other ∷ ranges) some order =
    greatest_first range (other ∷ ranges) (nat_le (greatest (other ∷ ranges)) range.1) refl order.0.0 (greatest_is_named (other ∷ ranges) refl order.1)

-- a packet of the space with this number that is acknowledged
abbrev pub Acknowledged : List Event → Space → ℕ → Type 0
Acknowledged h s n = (q : Packet) × Contains (packets h) q × (q.space ≡ s) × (q.number ≡ n) × (is_acknowledged h q ≡ true)

has_behind : (first ps : List Packet) (q : Packet) → Contains ps q → Contains (first ++ ps) q
has_behind [] ps q has = has
has_behind (p ∷ first) ps q has = has_later p q (first ++ ps) (has_behind first ps q has)

acknowledged_stays : (e : Event) (h : List Event) (s : Space) (n : ℕ) → Acknowledged h s n → Acknowledged (e ∷ h) s n
acknowledged_stays e h s n (q, has, of_space, number, covered) =
    (q, has_behind (packet_of (length h) e) (packets h) q has, of_space, number, covered_stays e h q covered)

acknowledged_now : (c : Settings) (h : List Event) (ack : Acknowledgment)
    → IsRun c (Ack ack ∷ h) → IsProperEvent (Ack ack) → Acknowledged (Ack ack ∷ h) ack.space (greatest ack.ranges)
acknowledged_now c h ack run proper =
    let e = Ack ack in
    let holds = all_hold c h e run.1 in
    let all = not-false (has_all (numbers (packets_of h ack.space)) ack.ranges) holds.ack_unsent in
    let named = greatest_is_named ack.ranges proper.fitting proper.numbers.0 in
    let one = one_of_numbers (packets_of h ack.space) (greatest ack.ranges) (has_all_names (numbers (packets_of h ack.space)) ack.ranges all (greatest ack.ranges) named) in
    let q = one.0 in
    let found = part_is (is_of ack.space) (packets h) q one.1 in
    let of_space : q.space ≡ ack.space = sym (is_space_is ack.space q.space found.1) in
    let below : q.place < length h = at_one (λ p. p.place < length h) (packets h) q (placed h) found.0 in
    let acks : acknowledges q.space q.number e ≡ true = and_from (is_space q.space ack.space) (is_named ack.ranges q.number) (rw of_space (is_space_same ack.space)) (rw one.2 named) in (
      q,
      found.0,
      of_space,
      one.2,
      or_left (acknowledges q.space q.number e && nat_lt q.place (length h)) (is_acknowledged h q)
          (and_from (acknowledges q.space q.number e) (nat_lt q.place (length h)) acks (lt-ltb q.place (length h) below)),
    )

raised_is : (n m : ℕ) (most : Option ℕ) → raised (n ∷ []) most ≡ Some m → (m ≡ n) ⊎ (most ≡ Some m)
raised_is n m None is = let same : ◌≡◌ {A = ℕ} (max n n) m = cc in inl (omega (arith, same))
raised_is n m (Some k) is =
    let same : ◌≡◌ {A = ℕ} (max n k) m = cc in
    elim (first_or (nat_le n k) refl) [
      | inl le ↦ inr (ap Some (omega (arith, same, le)))
      | inr gt ↦ inl (omega (arith, same, gt))
    ]
  where
    first_or : (b : Bool) → nat_le n k ≡ b → (n ≤ k) ⊎ (k < n)
    first_or true le = inl (leb-true n k le)
    first_or false gt = inr (leb-false n k gt)

ack_if : (c : Settings) (h : List Event) (ack : Acknowledgment)
    → IsRun c (Ack ack ∷ h) → IsProperEvent (Ack ack) → (s : Space) (m : ℕ) (here : Bool) → is_space s ack.space ≡ here
    → raised (if here then greatest ack.ranges ∷ [] else []) (largest_acknowledged h s) ≡ Some m
    → ((k : ℕ) → largest_acknowledged h s ≡ Some k → Acknowledged h s k) → Acknowledged (Ack ack ∷ h) s m
ack_if c h ack run proper s m true here is before = elim (raised_is (greatest ack.ranges) m (largest_acknowledged h s) is) [
  | inl now ↦ rw (now, is_space_is s ack.space here) (acknowledged_now c h ack run proper)
  | inr was ↦ acknowledged_stays (Ack ack) h s m (before m was)
]
ack_if c h ack run proper s m false here is before = acknowledged_stays (Ack ack) h s m (before m is)

largest_step : (c : Settings) (e : Event) (h : List Event) → IsRun c (e ∷ h) → IsProperEvent e → (s : Space) (m : ℕ)
    → raised (greatest_in s e) (largest_acknowledged h s) ≡ Some m
    → ((k : ℕ) → largest_acknowledged h s ≡ Some k → Acknowledged h s k) → Acknowledged (e ∷ h) s m
largest_step c (Ack ack) h run proper s m is before =
    ack_if c h ack run proper s m (is_space s ack.space) refl is before
largest_step c e h run proper s m is before = acknowledged_stays e h s m (before m is)

-- in a run the largest acknowledged number is that of a packet that is acknowledged
pub largest_is_acknowledged : (c : Settings) (h : List Event) → IsRun c h → AllByRecursion IsProperEvent h → (s : Space) (m : ℕ) → largest_acknowledged h s ≡ Some m → Acknowledged h s m
largest_is_acknowledged c [] run proper s m is = cc
largest_is_acknowledged c (e ∷ h) run proper s m is =
    largest_step c e h run proper.0 s m (sym (largest_after e h s) ∙ is) (λ k most. largest_is_acknowledged c h run.0 proper.1 s k most)

-- ---- what is found lost

place_of : (c : Settings) (h : List Event) → IsRun c h → (p q : Packet) → Contains (packets h) p → Contains (packets h) q → p.space ≡ q.space → p.number < q.number → p.place < q.place
place_of c h run p q has_p has_q same lower = elim (two_of WasSentBefore (packets h) p q (in_order c h (tolerated_run_of c h run)) has_p has_q) [
  | inl one ↦ absurd (omega (arith, lower, ap (λ (x : Packet). x.number) one))
  | inr (inl before) ↦ (let less = before.number (rw same (is_space_same q.space)) in absurd (omega (arith, less, lower)))
  | inr (inr behind) ↦ behind.place
]

-- below a number, and lower than it by the packet threshold, or old
abbrev IsLate : Settings → List Event → ℕ → Packet → Option ℕ → Type 0
IsLate c h now p None = ⊥
IsLate c h now p (Some m) = (p.number < m) × ((c.options.packet_threshold ≤ distance_below c.options.threshold_counts h p.space p.number m) ⊎ (loss_delay c (sampled c h) ≤ now - p.time))

late_if_found : (c : Settings) (h : List Event) (now : ℕ) (most : Option ℕ) (p : Packet) → is_past_threshold c (sampled c h) h now most p ≡ true → IsLate c h now p most
late_if_found c h now None p is = cc
late_if_found c h now (Some m) p is =
    let distance = distance_below c.options.threshold_counts h p.space p.number m in
    let far = nat_le c.options.packet_threshold distance in
    let both = and_parts (nat_lt p.number m) ((not (is_may c.options.loss_by_number) && far) || is_old c (sampled c h) now p) is in
    let below = ltb-true p.number m both.0 in (
      below,
      elim (or_cases (not (is_may c.options.loss_by_number) && far) (is_old c (sampled c h) now p) both.1) [
        | inl by_number ↦ (let three = leb-true c.options.packet_threshold distance (and_parts (not (is_may c.options.loss_by_number)) far by_number).1 in inl three)
        | inr old ↦ inr ((old_is_after_loss_delay c (sampled c h) now p).0 old)
      ],
    )

late_if_spared : (c : Settings) (h : List Event) (now : ℕ) (most : Option ℕ) (p : Packet) → may_be_spared c (sampled c h) h now most p ≡ true → IsLate c h now p most
late_if_spared c h now None p is = cc
late_if_spared c h now (Some m) p is =
    let distance = distance_below c.options.threshold_counts h p.space p.number m in
    let far = nat_le c.options.packet_threshold distance in
    let young = and_parts (nat_lt p.number m && (is_may c.options.loss_by_number && far)) (not (is_old c (sampled c h) now p)) is in
    let both = and_parts (nat_lt p.number m) (is_may c.options.loss_by_number && far) young.0 in
    let below = ltb-true p.number m both.0 in
    let three = leb-true c.options.packet_threshold distance (and_parts (is_may c.options.loss_by_number) far both.1).1 in
    (below, inl three)

lost_by : (c : Settings) (h : List Event) → IsRun c h → AllByRecursion IsProperEvent h → (p : Packet) → Contains (packets h) p → (s : Space) (now : ℕ)
    → detection c h ≡ Some (s, now) → p.space ≡ s → p.in_flight ≡ true → (most : Option ℕ) → largest_acknowledged h s ≡ most → IsLate c h now p most
    → IsLostRightly c h s p.number
lost_by c h run proper p has s now at of_space flying None largest late = absurd late
lost_by c h run proper p has s now at of_space flying (Some m) largest late =
    let below = late.0 in
    let ack = largest_is_acknowledged c h run proper s m largest in
    let lower : p.number < ack.0.number = omega (arith, below, ack.3) in
    record {
      packet = p;
      sent = has;
      of_space = of_space;
      numbered = refl;
      flying = flying;
      other = ack.0;
      other_sent = ack.1;
      other_of_space = ack.2;
      acknowledged = ack.4;
      earlier = place_of c h run p ack.0 has ack.1 (of_space ∙ sym ack.2) lower;
      lower = lower;
      now = now;
      detected = at;
      late = subst (λ (k : ℕ). (c.options.packet_threshold ≤ distance_below c.options.threshold_counts h p.space p.number k) ⊎ (loss_delay c (sampled c h) ≤ now - p.time)) (sym ack.3) late.1;
    }

found_rightly : (c : Settings) (h : List Event) → IsRun c h → AllByRecursion IsProperEvent h → (p : Packet) → Contains (packets h) p
    → (d : Option (Space × ℕ)) → detection c h ≡ d → is_at (is_found c (sampled c h) h) p d ≡ true → IsLostRightly c h p.space p.number
found_rightly c h run proper p has None at is = cc
found_rightly c h run proper p has (Some (s, now)) at is =
    let parts = and_parts (is_of s p) (is_found c (sampled c h) h now s p) is in
    let more = and_parts (p.in_flight && is_unsettled h p) (is_past_threshold c (sampled c h) h now (largest_acknowledged h s) p) parts.1 in
    let flying = (and_parts p.in_flight (is_unsettled h p) more.0).0 in
    let of_s : p.space ≡ s = sym (is_space_is s p.space parts.0) in
    subst (λ (t : Space). IsLostRightly c h t p.number) (sym of_s)
    (lost_by c h run proper p has s now at of_s flying (largest_acknowledged h s) refl (late_if_found c h now (largest_acknowledged h s) p more.1))

-- what is free is lost where the sender says so
free_rightly : (c : Settings) (h : List Event) → IsRun c h → AllByRecursion IsProperEvent h → (p : Packet) → Contains (packets h) p → is_free c h p ≡ true → IsLostRightly c h p.space p.number
free_rightly c h run proper p has is =
    let left = free_is_left c h p is in
    lost_by c h run proper p has p.space left.now left.at refl left.in_flight (largest_acknowledged h p.space) refl (late_if_spared c h left.now (largest_acknowledged h p.space) p left.spared)

nameable_rightly : (c : Settings) (h : List Event) → IsRun c h → AllByRecursion IsProperEvent h → (p : Packet) → Contains (packets h) p → is_nameable c h p ≡ true → IsLostRightly c h p.space p.number
nameable_rightly c h run proper p has is = elim (or_cases (is_owed c h p) (is_free c h p) is) [
  | inl owed_then ↦ found_rightly c h run proper p has (detection c h) refl owed_then
  | inr free_then ↦ free_rightly c h run proper p has free_then
]

-- in a run each number that a Lost line names is that of a packet that was lost
pub lost_rightly : (c : Settings) (h : List Event) (time : ℕ) (space : Space) (ranges : List (ℕ × ℕ)) → IsRun c (Lost time space ranges ∷ h) → AllByRecursion IsProperEvent h
    → (n : ℕ) → is_named ranges n ≡ true → IsLostRightly c h space n
lost_rightly c h time space ranges run proper n named =
    let between = names_all c h time space ranges (tolerated_run_of c (Lost time space ranges ∷ h) run) in
    let all = (and_parts (has_all (numbers (nameable c h)) ranges) (list_all (is_named ranges) (numbers (owed c h))) between).0 in
    let one = one_of_numbers (nameable c h) n (has_all_names (numbers (nameable c h)) ranges all n named) in
    let p = one.0 in
    let is = nameable_is c h p one.1 in
    subst (λ (k : ℕ). IsLostRightly c h space k) one.2
    (subst (λ (s : Space). IsLostRightly c h s p.number) (nameable_space c h time space ranges (tolerated_run_of c (Lost time space ranges ∷ h) run) p is.1) (nameable_rightly c h run.0 proper p is.0 is.1))
