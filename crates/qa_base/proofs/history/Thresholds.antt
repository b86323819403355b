-- Thresholds falls with the number.
use Rattle.std.proofs.Common.{◌≡◌, ◌≤◌, ◌-◌, ◌+◌, ℕ, List, [], ◌∷◌, Bool, true, false, refl, subst, count_by, ◌||◌, ◌&&◌, not, Option, Some, None, arith, Contains, inl, inr}
use Rattle.std.proofs.lemmas.Bool.{and_parts, and_from, or_cases, or_left, or_right, ltb-true, lt-ltb, leb-true, le-leb}
use Rattle.std.proofs.lemmas.List.Sums.{sum_by-cons}
use Rattle.std.specs.Prelude.{nat_lt, nat_le, if◌then◌else◌}
use Rattle.qa_base.specs.declared.event.Event.{Event}
use Rattle.qa_base.specs.declared.space.Space.{Space}
use Rattle.qa_base.specs.declared.space.ThresholdCounts.{ThresholdCounts}
use Rattle.qa_base.specs.declared.space.ThresholdCounts.TheVariants.{Numbers, Packets}
use Rattle.qa_base.specs.machine.Detection.{distance_below, is_far_below, is_old, is_past_threshold}
use Rattle.qa_base.specs.machine.Packets.{Packet, packets, packets_of, is_of}
use Rattle.qa_base.specs.machine.Rtt.{Estimate, loss_delay}
use Rattle.qa_base.specs.machine.Violations.{IsToleratedRun}
use Rattle.qa_base.specs.values.Settings.{Settings, is_may}
use Rattle.qa_base.proofs.history.ToleratedRuns.{is_space_is, lower_is_earlier}

-- what was sent no later is no less old
pub earlier_is_old : (c : Settings) (r : Estimate) (now : ℕ) (p q : Packet) → q.time ≤ p.time → is_old c r now p ≡ true → is_old c r now q ≡ true
earlier_is_old c r now p q earlier old =
    let waited = leb-true (loss_delay c r) (now - p.time) old in
    le-leb (loss_delay c r) (now - q.time) (omega (arith, earlier, waited))

-- what is counted one way and the other
no_more : (a b : Bool) → (a ≡ true → b ≡ true) → (if a then 1 else 0) ≤ (if b then 1 else 0)
no_more false b weaker = omega arith
no_more true b weaker = let is = weaker refl in rw is (omega arith)

-- ---- how far a number lies below another

-- of more packets no fewer are counted
pub count_weaker : (f g : Packet → Bool) (ps : List Packet) → ((p : Packet) → f p ≡ true → g p ≡ true) → count_by f ps ≤ count_by g ps
count_weaker f g [] weaker = omega arith
count_weaker f g (p ∷ ps) weaker =
    let rest = count_weaker f g ps weaker in
    let a : count_by f (p ∷ ps) ≡ (if f p then 1 else 0) + count_by f ps = sum_by-cons (λ q. if f q then 1 else 0) p ps in
    let b : count_by g (p ∷ ps) ≡ (if g p then 1 else 0) + count_by g ps = sum_by-cons (λ q. if g q then 1 else 0) p ps in
    let here : (if f p then 1 else 0) ≤ (if g p then 1 else 0) = no_more (f p) (g p) (weaker p) in
    omega (arith, a, b, here, rest)

-- a lower number of the space is no nearer
pub distance_falls : (counts : ThresholdCounts) (h : List Event) (s : Space) (number lower largest : ℕ) → lower ≤ number
    → distance_below counts h s number largest ≤ distance_below counts h s lower largest
distance_falls Numbers h s number lower largest low = omega (arith, low)
distance_falls Packets h s number lower largest low =
    count_weaker (λ p. nat_lt number p.number && nat_le p.number largest) (λ p. nat_lt lower p.number && nat_le p.number largest) (packets_of h s) (λ p is.
    let both = and_parts (nat_lt number p.number) (nat_le p.number largest) is in
    let above = ltb-true number p.number both.0 in
    and_from (nat_lt lower p.number) (nat_le p.number largest) (lt-ltb lower p.number (omega (arith, above, low))) both.1)

-- and a higher number is no nearer
pub distance_rises : (counts : ThresholdCounts) (h : List Event) (s : Space) (number largest more : ℕ) → largest ≤ more
    → distance_below counts h s number largest ≤ distance_below counts h s number more
distance_rises Numbers h s number largest more high = omega (arith, high)
distance_rises Packets h s number largest more high =
    count_weaker (λ p. nat_lt number p.number && nat_le p.number largest) (λ p. nat_lt number p.number && nat_le p.number more) (packets_of h s) (λ p is.
    let both = and_parts (nat_lt number p.number) (nat_le p.number largest) is in
    let under = leb-true p.number largest both.1 in
    and_from (nat_lt number p.number) (nat_le p.number more) both.0 (le-leb p.number more (omega (arith, under, high))))

-- of two packets of a space, if the one with the higher number lies below by the threshold, so does the other
pub lower_is_far_below : (c : Settings) (h : List Event) (largest : ℕ) (p q : Packet) → p.space ≡ q.space → q.number ≤ p.number
    → is_far_below c h largest p ≡ true → is_far_below c h largest q ≡ true
lower_is_far_below c h largest p q same lower far =
    let counts = c.options.threshold_counts in
    let three = leb-true c.options.packet_threshold (distance_below counts h p.space p.number largest) far in
    let more : distance_below counts h p.space p.number largest ≤ distance_below counts h p.space q.number largest = distance_falls counts h p.space p.number q.number largest lower in
    let enough : nat_le c.options.packet_threshold (distance_below counts h p.space q.number largest) ≡ true =
    le-leb c.options.packet_threshold (distance_below counts h p.space q.number largest) (omega (arith, three, more)) in
    subst (λ (s : Space). nat_le c.options.packet_threshold (distance_below counts h s q.number largest) ≡ true) same enough

-- ---- the thresholds

-- of two packets of a space, if the one with the higher number, sent no earlier, is late, so is the other
pub earlier_is_past_threshold : (c : Settings) (r : Estimate) (h : List Event) (now : ℕ) (largest : Option ℕ) (p q : Packet) → p.space ≡ q.space → q.number ≤ p.number → q.time ≤ p.time
    → is_past_threshold c r h now largest p ≡ true → is_past_threshold c r h now largest q ≡ true
earlier_is_past_threshold c r h now None p q same lower earlier late = cc
earlier_is_past_threshold c r h now (Some largest) p q same lower earlier late =
    let must = not (is_may c.options.loss_by_number) in
    let both = and_parts (nat_lt p.number largest) ((must && is_far_below c h largest p) || is_old c r now p) late in
    let below = ltb-true p.number largest both.0 in
    and_from (nat_lt q.number largest) ((must && is_far_below c h largest q) || is_old c r now q)
    (lt-ltb q.number largest (omega (arith, below, lower)))
    (elim (or_cases (must && is_far_below c h largest p) (is_old c r now p) both.1) [
      | inl far ↦ (let parts = and_parts must (is_far_below c h largest p) far in
          or_left (must && is_far_below c h largest q) (is_old c r now q)
          (and_from must (is_far_below c h largest q) parts.0 (lower_is_far_below c h largest p q same lower parts.1)))
      | inr old ↦ or_right (must && is_far_below c h largest q) (is_old c r now q) (earlier_is_old c r now p q earlier old)
    ])

-- in a tolerated run, of two packets of one space, if the one with the higher number is late, so is the other
pub lower_is_past_threshold : (c : Settings) (h : List Event) → IsToleratedRun c h → (r : Estimate) (now : ℕ) (largest : Option ℕ) (p q : Packet)
    → Contains (packets h) p → Contains (packets h) q → is_of p.space q ≡ true → q.number ≤ p.number
    → is_past_threshold c r h now largest p ≡ true → is_past_threshold c r h now largest q ≡ true
lower_is_past_threshold c h run r now largest p q has_p has_q same lower late =
    earlier_is_past_threshold c r h now largest p q (is_space_is p.space q.space same) lower (lower_is_earlier c h run p q has_p has_q same lower).0 late
