-- How many packets lie between two numbers, against how many numbers do.
use Rattle.std.proofs.Common.{◌≡◌, ◌+◌, ◌-◌, ◌≤◌, ◌<◌, ℕ, min, Bool, true, ◌&&◌, ◌||◌, not, List, [], ◌∷◌, map, count_by, Option, Some, None, ap, arith, inl, inr}
use Rattle.std.specs.List.{AllByRecursion}
use Rattle.std.specs.Prelude.{nat_eq, nat_le, nat_lt, if◌then◌else◌}
use Rattle.std.proofs.lemmas.Bool.{and_from, and_parts, cases_lt, le-leb, leb-true, eqb-true, or_cases, or_left, or_right}
use Rattle.std.proofs.lemmas.Bool.Decides.{nat_tests}
use Rattle.std.proofs.lemmas.List.Sums.{sum_by-cons}
use Rattle.qa_base.specs.declared.event.Event.{Event}
use Rattle.qa_base.specs.declared.space.Space.{Space}
use Rattle.qa_base.specs.declared.space.ThresholdCounts.TheVariants.{Numbers, Packets}
use Rattle.qa_base.specs.machine.Detection.{count_between, distance_below, is_far_below, is_old, is_past_threshold, may_be_spared}
use Rattle.qa_base.specs.machine.Kept.{numbers_of}
use Rattle.qa_base.specs.machine.Numbers.{is_in}
use Rattle.qa_base.specs.machine.Packets.{Packet, packets_of}
use Rattle.qa_base.specs.machine.Rtt.{Estimate}
use Rattle.qa_base.specs.machine.Rules.{IsRun}
use Rattle.qa_base.specs.machine.Violations.{IsToleratedRun}
use Rattle.qa_base.specs.history.Sequence.{EachTwo}
use Rattle.qa_base.specs.values.Settings.{Settings, is_may}
use Rattle.qa_base.proofs.history.Pairs.{each_weaker}
use Rattle.qa_base.proofs.history.Thresholds.{count_weaker}
use Rattle.qa_base.proofs.history.ToleratedRuns.{IsEarlier, in_order_of}
use Rattle.qa_base.proofs.machine.RunLaws.{tolerated_run_of}
use Rattle.qa_laws.specs.machine.Alike.{counting}

-- ---- of packets whose numbers fall

abbrev between : ℕ → ℕ → Packet → Bool
between n top p = nat_lt n p.number && nat_le p.number top

abbrev one_if : Bool → ℕ
one_if b = if b then 1 else 0

one_more : (n top : ℕ) (p : Packet) (ps : List Packet) → count_by (between n top) (p ∷ ps) ≡ one_if (between n top p) + count_by (between n top) ps
one_more n top p ps = sum_by-cons (λ q. one_if (between n top q)) p ps

abbrev AreBelow : ℕ → List Packet → Type 0
AreBelow bound ps = AllByRecursion (λ p. p.number ≤ bound) ps

all_lower : (p : Packet) (ps : List Packet) → AllByRecursion (IsEarlier p) ps → AreBelow (p.number - 1) ps
all_lower p ps earlier = each_weaker (IsEarlier p) (λ q. q.number ≤ p.number - 1) (λ q before. (let less = before.number in omega (arith, less))) ps earlier

here_or_not : (n top m bound rest : ℕ) → m ≤ bound → rest ≤ min top (m - 1) - n → one_if (nat_lt n m && nat_le m top) + rest ≤ min top bound - n
here_or_not n top m bound rest under few = grind (arith, nat_tests, under, few)

-- there are no more of them than numbers
within : (n top bound : ℕ) (ps : List Packet) → EachTwo IsEarlier ps → AreBelow bound ps → count_by (between n top) ps ≤ min top bound - n
within n top bound [] two below = omega arith
within n top bound (p ∷ ps) two below =
    let rest = within n top (p.number - 1) ps two.1 (all_lower p ps two.0) in
    let a = one_more n top p ps in
    let b = here_or_not n top p.number bound (count_by (between n top) ps) below.0 rest in
    omega (arith, a, b)

no_more_of : (n top : ℕ) (ps : List Packet) → EachTwo IsEarlier ps → count_by (between n top) ps ≤ top - n
no_more_of n top [] two = omega arith
no_more_of n top (p ∷ ps) two =
    let all = within n top p.number (p ∷ ps) two (omega arith, each_weaker (λ q. q.number ≤ p.number - 1) (λ q. q.number ≤ p.number) (λ q low. omega (arith, low)) ps (all_lower p ps two.0)) in
    omega (arith, all)

-- ---- where each number between is there

abbrev HasAll : ℕ → ℕ → List Packet → Type 0
HasAll n top ps = (k : ℕ) → n < k → k ≤ top → is_in (map (λ p. p.number) ps) k ≡ true

later_of : (p : Packet) (ps : List Packet) (k : ℕ) → is_in (map (λ q. q.number) (p ∷ ps)) k ≡ true → (p.number ≡ k → ⊥) → is_in (map (λ q. q.number) ps) k ≡ true
later_of p ps k is other = elim (or_cases (nat_eq p.number k) (is_in (map (λ q. q.number) ps) k) is) [
  | inl here ↦ absurd (other (eqb-true p.number k here))
  | inr later ↦ later
]

not_below : (bound k : ℕ) (ps : List Packet) → AreBelow bound ps → bound < k → is_in (map (λ q. q.number) ps) k ≡ true → ⊥
not_below bound k [] below above is = cc
not_below bound k (p ∷ ps) below above is = elim (or_cases (nat_eq p.number k) (is_in (map (λ q. q.number) ps) k) is) [
  | inl here ↦ (let same = eqb-true p.number k here in let low = below.0 in omega (arith, same, low, above))
  | inr later ↦ not_below bound k ps below.1 above later
]

wider : (n top more : ℕ) (ps : List Packet) → top ≤ more → count_by (between n top) ps ≤ count_by (between n more) ps
wider n top more ps high = count_weaker (between n top) (between n more) ps (λ p is.
    let both = and_parts (nat_lt n p.number) (nat_le p.number top) is in
    let low = leb-true p.number top both.1 in
    and_from (nat_lt n p.number) (nat_le p.number more) both.0 (le-leb p.number more (omega (arith, low, high))))

counted_here : (n top m : ℕ) → n < top → m ≡ top → ◌≡◌ {A = ℕ} (one_if (nat_lt n m && nat_le m top)) 1
counted_here n top m less is = grind (arith, nat_tests, less, is)

-- as many of them are there as numbers
all_of : (n top : ℕ) (ps : List Packet) → EachTwo IsEarlier ps → HasAll n top ps → top - n ≤ count_by (between n top) ps
all_of n top [] two all = elim (cases_lt n top) [
  | inl less ↦ (let is = all top less (omega arith) in cc)
  | inr past ↦ omega (arith, past)
]
all_of n top (p ∷ ps) two all =
    let a = one_more n top p ps in
    elim (cases_lt n top) [
      | inr past ↦ omega (arith, past)
      | inl less ↦ elim (cases_lt top p.number) [
        | inl above ↦ (let rest = all_of n top ps two.1 (λ k low high. later_of p ps k (all k low high) (λ same. omega (arith, same, high, above))) in omega (arith, a, rest))
        | inr under ↦ elim (cases_lt p.number top) [
          | inl lower ↦ absurd (not_below p.number top (p ∷ ps)
              (omega arith, each_weaker (λ q. q.number ≤ p.number - 1) (λ q. q.number ≤ p.number) (λ q low. omega (arith, low)) ps (all_lower p ps two.0)) lower (all top less (omega arith)))
          | inr no_lower ↦ (let same : p.number ≡ top = omega (arith, under, no_lower) in
              let rest = all_of n (top - 1) ps two.1 (λ k low high. later_of p ps k (all k low (omega (arith, high))) (λ is. omega (arith, is, same, high, less))) in
              let more = wider n (top - 1) top ps (omega arith) in
              let here = counted_here n top p.number less same in
              omega (arith, a, rest, more, here, less))
        ]
      ]
    ]

-- ---- of a run

pub no_more : (c : Settings) (h : List Event) → IsRun c h → (s : Space) (number largest : ℕ) → distance_below Packets h s number largest ≤ distance_below Numbers h s number largest
no_more c h run s number largest = no_more_of number largest (packets_of h s) (in_order_of c h s (tolerated_run_of c h run))

pub as_many_in : (c : Settings) (h : List Event) → IsToleratedRun c h → (s : Space) (number largest : ℕ) → ((n : ℕ) → number < n → n ≤ largest → is_in (numbers_of h s) n ≡ true)
    → distance_below Packets h s number largest ≡ distance_below Numbers h s number largest
as_many_in c h run s number largest all =
    let most = no_more_of number largest (packets_of h s) (in_order_of c h s run) in
    let least = all_of number largest (packets_of h s) (in_order_of c h s run) all in
    omega (arith, most, least)

pub as_many : (c : Settings) (h : List Event) → IsRun c h → (s : Space) (number largest : ℕ) → ((n : ℕ) → number < n → n ≤ largest → is_in (numbers_of h s) n ≡ true)
    → distance_below Packets h s number largest ≡ distance_below Numbers h s number largest
as_many c h run = as_many_in c h (tolerated_run_of c h run)

-- ---- the thresholds

far_by_packets : (c : Settings) (h : List Event) → IsRun c h → (largest : ℕ) (p : Packet) → is_far_below (counting c Packets) h largest p ≡ true → is_far_below (counting c Numbers) h largest p ≡ true
far_by_packets c h run largest p far =
    let three = leb-true c.options.packet_threshold (count_between h p.space p.number largest) far in
    let most = no_more c h run p.space p.number largest in
    le-leb c.options.packet_threshold (largest - p.number) (omega (arith, three, most))

pub past_by_packets : (c : Settings) (h : List Event) → IsRun c h → (r : Estimate) (now : ℕ) (largest : Option ℕ) (p : Packet)
    → is_past_threshold (counting c Packets) r h now largest p ≡ true → is_past_threshold (counting c Numbers) r h now largest p ≡ true
past_by_packets c h run r now None p past = cc
past_by_packets c h run r now (Some largest) p past =
    let must = not (is_may c.options.loss_by_number) in
    let by_packets = is_far_below (counting c Packets) h largest p in
    let by_numbers = is_far_below (counting c Numbers) h largest p in
    let old = is_old c r now p in
    let both = and_parts (nat_lt p.number largest) ((must && by_packets) || old) past in
    and_from (nat_lt p.number largest) ((must && by_numbers) || old) both.0 (elim (or_cases (must && by_packets) old both.1) [
      | inl far ↦ (let parts = and_parts must by_packets far in or_left (must && by_numbers) old (and_from must by_numbers parts.0 (far_by_packets c h run largest p parts.1)))
      | inr aged ↦ or_right (must && by_numbers) old aged
    ])

-- d are the settings by which the history is a tolerated run
far_alike : (c d : Settings) (h : List Event) → IsToleratedRun d h → (largest : ℕ) (p : Packet) → ((n : ℕ) → p.number < n → n ≤ largest → is_in (numbers_of h p.space) n ≡ true)
    → is_far_below (counting c Packets) h largest p ≡ is_far_below (counting c Numbers) h largest p
far_alike c d h run largest p all = ap (nat_le c.options.packet_threshold) (as_many_in d h run p.space p.number largest all)

pub past_alike_in : (c d : Settings) (h : List Event) → IsToleratedRun d h → (r : Estimate) (now largest : ℕ) (p : Packet) → ((n : ℕ) → p.number < n → n ≤ largest → is_in (numbers_of h p.space) n ≡ true)
    → is_past_threshold (counting c Packets) r h now (Some largest) p ≡ is_past_threshold (counting c Numbers) r h now (Some largest) p
past_alike_in c d h run r now largest p all = ap (λ b. nat_lt p.number largest && ((not (is_may c.options.loss_by_number) && b) || is_old c r now p)) (far_alike c d h run largest p all)

pub spared_alike_in : (c d : Settings) (h : List Event) → IsToleratedRun d h → (r : Estimate) (now largest : ℕ) (p : Packet) → ((n : ℕ) → p.number < n → n ≤ largest → is_in (numbers_of h p.space) n ≡ true)
    → may_be_spared (counting c Packets) r h now (Some largest) p ≡ may_be_spared (counting c Numbers) r h now (Some largest) p
spared_alike_in c d h run r now largest p all = ap (λ b. nat_lt p.number largest && (is_may c.options.loss_by_number && b) && not (is_old c r now p)) (far_alike c d h run largest p all)

pub past_alike : (c : Settings) (h : List Event) → IsRun c h → (r : Estimate) (now largest : ℕ) (p : Packet) → ((n : ℕ) → p.number < n → n ≤ largest → is_in (numbers_of h p.space) n ≡ true)
    → is_past_threshold (counting c Packets) r h now (Some largest) p ≡ is_past_threshold (counting c Numbers) r h now (Some largest) p
past_alike c h run = past_alike_in c c h (tolerated_run_of c h run)

pub spared_alike : (c : Settings) (h : List Event) → IsRun c h → (r : Estimate) (now largest : ℕ) (p : Packet) → ((n : ℕ) → p.number < n → n ≤ largest → is_in (numbers_of h p.space) n ≡ true)
    → may_be_spared (counting c Packets) r h now (Some largest) p ≡ may_be_spared (counting c Numbers) r h now (Some largest) p
spared_alike c h run = spared_alike_in c c h (tolerated_run_of c h run)
