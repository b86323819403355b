-- Which numbers lie below the largest acknowledged one by the packet threshold: those below an end.
use Rattle.std.proofs.Common.{◌≡◌, ◌∙◌, ℕ, zero, suc, ◌+◌, ◌-◌, ◌≤◌, Bool, true, false, ◌&&◌, List, [], ◌∷◌, Some, refl, sym, ap, arith, inl, inr, nat_le, nat_lt, count_by}
use Rattle.std.specs.Prelude.{if◌then◌else◌}
use Rattle.std.proofs.lemmas.Bool.{cases_Bool, cases_lt, le-leb, leb-true, lt-ltb, ltb-false, ltb-true}
use Rattle.std.proofs.lemmas.Bool.Decides.{nat_tests}
use Rattle.std.proofs.lemmas.List.Sums.{sum_by-cons}
use Rattle.qa_base.specs.declared.event.Event.{Event}
use Rattle.qa_base.specs.declared.space.Space.{Space}
use Rattle.qa_base.specs.declared.space.ThresholdCounts.TheVariants.{Numbers, Packets}
use Rattle.qa_base.specs.machine.Detection.{count_between, distance_below, is_far_below}
use Rattle.qa_base.specs.machine.Packets.{Packet, packets_of}
use Rattle.qa_base.specs.values.Settings.{Settings}
use Rattle.qa_base.proofs.history.Thresholds.{distance_falls}
use Rattle.qa_sender.specs.Thresholds.{end_below, far_end_below, is_far_number}

-- ---- an end of numbers

past_end : (n top : ℕ) (passes : Bool) → nat_lt n top ≡ false → false ≡ (nat_lt n top && passes)
past_end n top passes past = rw past refl

end_here : (n t : ℕ) (passes : Bool) → (n ≤ t → passes ≡ true) → nat_lt n (suc t) ≡ (nat_lt n (suc t) && passes)
end_here n t passes low =
    elim (cases_lt n (suc t)) [
      | inl less ↦ (let is = low (omega (arith, less)) in rw is (grind (arith, nat_tests)))
      | inr past ↦ grind (arith, nat_tests, past)
    ]

end_lower : (n t : ℕ) (passes : Bool) → (n ≡ t → passes ≡ false) → (nat_lt n t && passes) ≡ (nat_lt n (suc t) && passes)
end_lower n t true other =
    elim (cases_lt n t) [
      | inl less ↦ grind (arith, nat_tests, less)
      | inr past ↦ elim (cases_lt t n) [
        | inl above ↦ grind (arith, nat_tests, above)
        | inr same ↦ (let wrong = other (omega (arith, past, same)) in cc)
      ]
    ]
end_lower n t false other = grind (arith, nat_tests)

-- of a test that each number passes below one that does, the end is that of the numbers that pass it
pub below_end : (test : ℕ → Bool) → ((m n : ℕ) → m ≤ n → test n ≡ true → test m ≡ true) → (top n : ℕ)
    → nat_lt n (end_below test top) ≡ (nat_lt n top && test n)
below_end test falls zero n = grind (arith, nat_tests)
below_end test falls (suc t) n =
    elim (cases_Bool (test t)) [
      | inl passes ↦ rw passes (end_here n t (test n) (λ low. falls n t low passes))
      | inr fails ↦ rw fails (below_end test falls t n ∙ end_lower n t (test n) (λ is. ap test is ∙ fails))
    ]

same_end : (m end : ℕ) → nat_lt m end ≡ true → end ≤ suc m → suc m ≡ end
same_end m end above low = let less = ltb-true m end above in omega (arith, less, low)

not_under : (m end : ℕ) → nat_lt m end ≡ false → end ≤ m
not_under m end under = ltb-false m end under

within_top : (end top : ℕ) (passes : Bool) → nat_lt top end ≡ (nat_lt top top && passes) → end ≤ top
within_top end top passes is = elim (cases_lt top end) [
  | inl above ↦ (let inside : nat_lt top end ≡ true = lt-ltb top end above in let outside : nat_lt top top ≡ false = grind (arith, nat_tests) in let wrong : true ≡ false = sym inside ∙ (is ∙ ap (λ b. b && passes) outside) in cc)
  | inr low ↦ low
]

end_from : (test : ℕ → Bool) (end top : ℕ) → ((n : ℕ) → nat_lt n end ≡ (nat_lt n top && test n)) → (m : ℕ) → end ≤ m → m ≤ top → end_below test m ≡ end
end_from test end top is zero low high = omega (arith, low)
end_from test end top is (suc m) low high =
    let inside : nat_lt m top ≡ true = grind (arith, nat_tests, high) in
    let here : nat_lt m end ≡ test m = is m ∙ ap (λ b. b && test m) inside in
    elim (cases_Bool (test m)) [
      | inl passes ↦ (let above : nat_lt m end ≡ true = here ∙ passes in rw passes (same_end m end above low))
      | inr fails ↦ (let under : nat_lt m end ≡ false = here ∙ fails in rw fails (end_from test end top is m (not_under m end under) (omega (arith, high))))
    ]

-- there is no other
pub end_is : (test : ℕ → Bool) (end top : ℕ) → ((n : ℕ) → nat_lt n end ≡ (nat_lt n top && test n)) → end ≡ end_below test top
end_is test end top is = sym (end_from test end top is top (within_top end top (test top) (is top)) (omega arith))

-- ---- the numbers that lie below another by the threshold

far_falls : (c : Settings) (h : List Event) (s : Space) (largest m n : ℕ) → m ≤ n → is_far_number c h s largest n ≡ true → is_far_number c h s largest m ≡ true
far_falls c h s largest m n low far =
    let counts = c.options.threshold_counts in
    let three = leb-true c.options.packet_threshold (distance_below counts h s n largest) far in
    let more = distance_falls counts h s n m largest low in
    le-leb c.options.packet_threshold (distance_below counts h s m largest) (omega (arith, three, more))

-- they are those below the end
pub far_below_end : (c : Settings) (h : List Event) (s : Space) (largest n : ℕ) → nat_lt n (far_end_below c h s (Some largest)) ≡ (nat_lt n largest && is_far_number c h s largest n)
far_below_end c h s largest n = below_end (is_far_number c h s largest) (λ m k low far. far_falls c h s largest m k low far) largest n

-- a packet of the space
pub is_far_packet : (c : Settings) (h : List Event) (s : Space) (largest : ℕ) (p : Packet) → s ≡ p.space → nat_lt p.number (far_end_below c h s (Some largest)) ≡ (nat_lt p.number largest && is_far_below c h largest p)
is_far_packet c h s largest p same =
    far_below_end c h s largest p.number ∙ ap (λ (t : Space). nat_lt p.number largest && nat_le c.options.packet_threshold (distance_below c.options.threshold_counts h t p.number largest)) same

-- ---- by numbers, and by packets

by_numbers : (n top threshold : ℕ) → 1 ≤ threshold → nat_lt n (top + 1 - threshold) ≡ (nat_lt n top && nat_le threshold (top - n))
by_numbers n top threshold some = grind (arith, nat_tests, some)

pub numbers_end : (c : Settings) (h : List Event) (s : Space) (largest : ℕ) → c.options.threshold_counts ≡ Numbers → 1 ≤ c.options.packet_threshold
    → largest + 1 - c.options.packet_threshold ≡ far_end_below c h s (Some largest)
numbers_end c h s largest counts some =
    end_is (is_far_number c h s largest) (largest + 1 - c.options.packet_threshold) largest (λ n. rw counts (by_numbers n largest c.options.packet_threshold some))

none_here : (n m top : ℕ) → top ≤ n → ◌≡◌ {A = ℕ} (if nat_lt n m && nat_le m top then 1 else 0) 0
none_here n m top past = grind (arith, nat_tests, past)

none_past : (ps : List Packet) (n top : ℕ) → top ≤ n → count_by (λ (p : Packet). nat_lt n p.number && nat_le p.number top) ps ≡ 0
none_past [] n top past = refl
none_past (p ∷ ps) n top past =
    let a = sum_by-cons (λ (q : Packet). if nat_lt n q.number && nat_le q.number top then 1 else 0) p ps in
    let here = none_here n p.number top past in
    omega (arith, a, here, none_past ps n top past)

too_few : (threshold count : ℕ) → 1 ≤ threshold → count ≡ 0 → nat_le threshold count ≡ false
too_few threshold count some none = grind (arith, nat_tests, some, none)

by_packets : (ps : List Packet) (n top threshold : ℕ) → 1 ≤ threshold → (let counted = count_by (λ (p : Packet). nat_lt n p.number && nat_le p.number top) ps in nat_le threshold counted ≡ (nat_lt n top && nat_le threshold counted))
by_packets ps n top threshold some =
    elim (cases_lt n top) [
      | inl less ↦ (let is : nat_lt n top ≡ true = grind (arith, nat_tests, less) in rw is refl)
      | inr past ↦ (let is : nat_lt n top ≡ false = grind (arith, nat_tests, past) in rw is (too_few threshold _ some (none_past ps n top past)))
    ]

pub packets_end : (c : Settings) (h : List Event) (s : Space) (largest end : ℕ) → c.options.threshold_counts ≡ Packets → 1 ≤ c.options.packet_threshold
    → ((n : ℕ) → nat_lt n end ≡ nat_le c.options.packet_threshold (count_between h s n largest)) → end ≡ far_end_below c h s (Some largest)
packets_end c h s largest end counts some is =
    end_is (is_far_number c h s largest) end largest (λ n. rw counts (is n ∙ by_packets (packets_of h s) n largest c.options.packet_threshold some))
