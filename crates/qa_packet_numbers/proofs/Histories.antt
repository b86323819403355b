-- Sets that stand for the numbers of the packets that were sent.
use Rattle.std.proofs.Common.{◌≡◌, ℕ, ◌+◌, ◌≤◌, Bool, true, false, ◌&&◌, ◌||◌, not, List, [], ◌∷◌, length, map, filter, Option, Some, None, refl, sym, ◌∙◌, ap, arith, inl, inr, ◌↔◌, IsTrue, nat_eq, nat_le, nat_lt, count_by}
use Rattle.std.specs.List.{AllByRecursion, list_any}
use Rattle.std.proofs.lemmas.Bool.{cases_Bool, and_parts, and_from, or_cases, or_left, or_right, or_from, eqb-true, eq-eqb, ne_eqb, both_ways, false_from_ne_true, le-leb, lt-leb, leb-true, leb-false}
use Rattle.std.proofs.lemmas.List.{length-map}
use Rattle.std.proofs.lemmas.List.Sums.{count_by-le-length, sum_by-cons}
use Rattle.qa_base.specs.declared.event.Event.{Event}
use Rattle.qa_base.specs.declared.event.Event.TheVariants.{Sent, Ack, Lost, Timer, Discard, Confirmed, Keys, Metrics}
use Rattle.qa_base.specs.declared.event.SentPacket.{SentPacket}
use Rattle.qa_base.specs.declared.space.Space.{Space}
use Rattle.qa_base.specs.declared.space.Space.TheVariants.{Initial, Handshake, App}
use Rattle.qa_base.specs.machine.Breaches.{has_at_or_above, numbers}
use Rattle.qa_base.specs.machine.Detection.{count_between}
use Rattle.qa_base.specs.machine.Kept.{numbers_of, runs_of, runs}
use Rattle.qa_base.specs.machine.Numbers.{Names, is_in, has_range}
use Rattle.qa_base.specs.machine.Order.{IsLower, NumbersFall}
use Rattle.qa_base.specs.machine.Packets.{Packet, is_of, packets, packets_of}
use Rattle.qa_base.specs.machine.Violations.{IsToleratedRun}
use Rattle.qa_base.specs.values.Events.{is_named, is_sent, is_space}
use Rattle.qa_base.specs.values.Settings.{Settings}
use Rattle.qa_base.proofs.machine.Ranges.{has_all_names, names_has_all}
use Rattle.qa_base.proofs.machine.RunLaws.{numbers_fall}
use Rattle.qa_packet_numbers.specs.Runs.{AreApart, AreDistinct, HasEach, IsGreatest}
use Rattle.qa_base.specs.values.PerSpace.{with_space}
use Rattle.qa_packet_numbers.specs.Sent.{BySpace, AreSent, AreSentWith, runs_in}
use Rattle.qa_packet_numbers.specs.Counting.{count_in}
use Rattle.qa_packet_numbers.proofs.Counting.{count_cons, one_if}
use Rattle.qa_packet_numbers.proofs.Counts.{counted}

-- ---- no number, and one more

pub names_none : Names [] []
names_none = record { only = λ n named. cc; each = λ n present. cc }

none_in : (sets : BySpace) → sets.initial ≡ [] → sets.handshake ≡ [] → sets.app ≡ [] → (s : Space) → Names (runs_in sets s) (numbers_of [] s)
none_in sets i h a Initial = rw i names_none
none_in sets i h a Handshake = rw h names_none
none_in sets i h a App = rw a names_none

-- before any event no number was sent
pub none_sent : (sets : BySpace) → sets.initial ≡ [] → sets.handshake ≡ [] → sets.app ≡ [] → AreSent sets []
none_sent sets i h a = record { each = none_in sets i h a }

-- a set with one number more has the numbers of a list with it
pub names_more : (old new : List (ℕ × ℕ)) (numbers : List ℕ) (number : ℕ) → Names old numbers → ((n : ℕ) → is_named new n ≡ is_named ((number, number) ∷ old) n) → Names new (number ∷ numbers)
names_more old new numbers number names more = record {
  only = λ n named. elim (or_cases (nat_le number n && nat_le n number) (is_named old n) (sym (more n) ∙ named)) [
    | inl here ↦ (let parts = and_parts (nat_le number n) (nat_le n number) here in
        let low = leb-true number n parts.0 in
        let high = leb-true n number parts.1 in
        or_left (nat_eq number n) (is_in numbers n) (eq-eqb number n (omega arith)))
    | inr before ↦ or_right (nat_eq number n) (is_in numbers n) (names.only n before)
  ];
  each = λ n present. more n ∙ elim (or_cases (nat_eq number n) (is_in numbers n) present) [
    | inl here ↦ (let same = eqb-true number n here in
        or_left (nat_le number n && nat_le n number) (is_named old n) (and_from (nat_le number n) (nat_le n number) (le-leb number n (omega arith)) (le-leb n number (omega arith))))
    | inr before ↦ or_right (nat_le number n && nat_le n number) (is_named old n) (names.each n before)
  ];
}

-- ---- the rule on rising numbers

any_of : (p : ℕ → Bool) (ns : List ℕ) (n : ℕ) → is_in ns n ≡ true → p n ≡ true → list_any p ns ≡ true
any_of p [] n present passes = cc
any_of p (m ∷ ms) n present passes =
    elim (or_cases (nat_eq m n) (is_in ms n) present) [
      | inl here ↦ (let same : m ≡ n = eqb-true m n here in rw same (or_left (p n) (list_any p ms) passes))
      | inr later ↦ or_right (p m) (list_any p ms) (any_of p ms n later passes)
    ]

none_of : (p : ℕ → Bool) (ns : List ℕ) → ((n : ℕ) → is_in ns n ≡ true → p n ≡ false) → list_any p ns ≡ false
none_of p [] fails = refl
none_of p (m ∷ ms) fails =
    or_from (p m) (list_any p ms) (fails m (or_left (nat_eq m m) (is_in ms m) (eq-eqb m m refl)))
    (none_of p ms (λ n later. fails n (or_right (nat_eq m n) (is_in ms n) later)))

any_number : (n : ℕ) (ps : List Packet) → list_any (λ (p : Packet). nat_le n p.number) ps ≡ list_any (λ m. nat_le n m) (map (λ p. p.number) ps)
any_number n [] = refl
any_number n (p ∷ ps) = ap (λ b. nat_le n p.number || b) (any_number n ps)

-- the number is at most the greatest
abbrev pub is_at_most : ℕ → Option ℕ → Bool
is_at_most n None = false
is_at_most n (Some greatest) = nat_le n greatest

at_most_greatest : (runs : List (ℕ × ℕ)) (ns : List ℕ) (greatest : Option ℕ) (n : ℕ) → Names runs ns → IsGreatest runs greatest → is_at_most n greatest ≡ list_any (λ m. nat_le n m) ns
at_most_greatest runs ns None n names is =
    sym (none_of (λ m. nat_le n m) ns (λ m present. absurd (both_ways (is_named runs m) (is m) (names.each m present))))
at_most_greatest runs ns (Some greatest) n names is =
    elim (cases_Bool (nat_le n greatest)) [
      | inl low ↦ low ∙ sym (any_of (λ m. nat_le n m) ns greatest (names.only greatest is.0) low)
      | inr high ↦ high ∙ sym (none_of (λ m. nat_le n m) ns (λ m present. (let most = is.1 m (names.each m present) in let above = leb-false n greatest high in lt-leb n m (omega arith))))
    ]

-- a number is not above all that were sent where it is at most the greatest of the set
pub rises_by_greatest : (sets : BySpace) (h : List Event) (s : Space) (greatest : Option ℕ) (n : ℕ) → AreSent sets h → IsGreatest (runs_in sets s) greatest → is_at_most n greatest ≡ has_at_or_above s n h
rises_by_greatest sets h s greatest n sent is = at_most_greatest (runs_in sets s) (numbers_of h s) greatest n (sent.each s) is ∙ sym (any_number n (packets_of h s))

-- ---- the rule on numbers that were not sent

each_of_range : (runs : List (ℕ × ℕ)) (ns : List ℕ) (range : ℕ × ℕ) → range.0 ≤ range.1 → Names runs ns → HasEach runs range → has_range ns range ≡ true
each_of_range runs ns range order names each =
    (and_parts (has_range ns range) true (names_has_all ns (range ∷ []) (order, tt) (λ n named. elim (or_cases (nat_le range.0 n && nat_le n range.1) false named) [
      | inl here ↦ (let parts = and_parts (nat_le range.0 n) (nat_le n range.1) here in names.only n (each n (leb-true range.0 n parts.0) (leb-true n range.1 parts.1)))
      | inr never ↦ cc
    ]))).0

range_of_each : (runs : List (ℕ × ℕ)) (ns : List ℕ) (range : ℕ × ℕ) → Names runs ns → has_range ns range ≡ true → HasEach runs range
range_of_each runs ns range names has n low high =
    names.each n (has_all_names ns (range ∷ []) (and_from (has_range ns range) true has refl) n (or_left (nat_le range.0 n && nat_le n range.1) false (and_from (nat_le range.0 n) (nat_le n range.1) (le-leb range.0 n low) (le-leb n range.1 high))))

-- the set covers a range where each number of it is one of the list
pub covered_is : (runs : List (ℕ × ℕ)) (ns : List ℕ) (range : ℕ × ℕ) (covers : Bool) → range.0 ≤ range.1 → Names runs ns → (IsTrue covers ↔ HasEach runs range) → covers ≡ has_range ns range
covered_is runs ns range true order names is = sym (each_of_range runs ns range order names (is.0 refl))
covered_is runs ns range false order names is =
    sym (false_from_ne_true (has_range ns range) (λ has. (let wrong : false ≡ true = is.1 (range_of_each runs ns range names has) in cc)))

-- ---- the count of runs

pub is_space_is : (s t : Space) → is_space s t ≡ true → s ≡ t
is_space_is Initial Initial h = refl
is_space_is Handshake Handshake h = refl
is_space_is App App h = refl
is_space_is Initial Handshake h = cc
is_space_is Initial App h = cc
is_space_is Handshake Initial h = cc
is_space_is Handshake App h = cc
is_space_is App Initial h = cc
is_space_is App Handshake h = cc

lower_absent : (s : Space) (p : Packet) (ps : List Packet) → is_of s p ≡ true → AllByRecursion (IsLower p) ps → is_in (map (λ q. q.number) (filter (is_of s) ps)) p.number ≡ false
lower_absent s p [] of lower = refl
lower_absent s p (q ∷ qs) of lower =
    elim (cases_Bool (is_of s q)) [
      | inl also ↦ (let same : is_of p.space q ≡ true = rw (← is_space_is s p.space of) also in
          let less = lower.0 same in
          rw also (or_from (nat_eq q.number p.number) (is_in (map (λ r. r.number) (filter (is_of s) qs)) p.number) (ne_eqb q.number p.number (λ e. omega arith)) (lower_absent s p qs of lower.1)))
      | inr other ↦ rw other (lower_absent s p qs of lower.1)
    ]

distinct_of : (s : Space) (ps : List Packet) → NumbersFall ps → AreDistinct (map (λ p. p.number) (filter (is_of s) ps))
distinct_of s [] falls = tt
distinct_of s (p ∷ ps) falls =
    elim (cases_Bool (is_of s p)) [
      | inl of ↦ rw of (lower_absent s p ps of falls.0, distinct_of s ps falls.1)
      | inr other ↦ rw other (distinct_of s ps falls.1)
    ]

-- in a tolerated run no number of a space was sent twice
pub numbers_distinct : (c : Settings) (h : List Event) (s : Space) → IsToleratedRun c h → AreDistinct (numbers_of h s)
numbers_distinct c h s run = distinct_of s (packets h) (numbers_fall c h run)

-- as many numbers were sent as packets
between_numbers : (ps : List Packet) (n top : ℕ) → count_in (map (λ p. p.number) ps) n top ≡ count_by (λ (p : Packet). nat_lt n p.number && nat_le p.number top) ps
between_numbers [] n top = refl
between_numbers (p ∷ ps) n top =
    count_cons n top p.number (map (λ p. p.number) ps)
    ∙ (ap (λ k. one_if (nat_lt n p.number && nat_le p.number top) + k) (between_numbers ps n top)
    ∙ sym (sum_by-cons (λ (p : Packet). one_if (nat_lt n p.number && nat_le p.number top)) p ps))

pub sent_between : (h : List Event) (s : Space) (n top : ℕ) → count_in (numbers_of h s) n top ≡ count_between h s n top
sent_between h s n top = between_numbers (packets_of h s) n top

-- a set has as many runs as were sent in the space
pub runs_are : (c : Settings) (h : List Event) (s : Space) (sets : BySpace) → IsToleratedRun c h → AreSent sets h → AreApart (runs_in sets s) → length (runs_in sets s) ≡ runs_of h s
runs_are c h s sets run sent apart = counted (runs_in sets s) (numbers_of h s) apart (sent.each s) (numbers_distinct c h s run)

-- there are no more packets than events
abbrev AtMostEvents : List Event → Type 0
AtMostEvents h = length (packets_of h Initial) + length (packets_of h Handshake) + length (packets_of h App) ≤ length h

sent_one_more : (packet : SentPacket) (h : List Event) (s : Space) → AtMostEvents h → AtMostEvents (Sent (record packet { space = s }) ∷ h)
sent_one_more packet h Initial rest = omega arith
sent_one_more packet h Handshake rest = omega arith
sent_one_more packet h App rest = omega arith

-- each event sends one packet at most
sent_at_most : (h : List Event) → AtMostEvents h
sent_at_most [] = omega arith
sent_at_most (Sent packet ∷ h) = sent_one_more packet h packet.space (sent_at_most h)
sent_at_most (Ack ack ∷ h) = (let rest = sent_at_most h in omega arith)
sent_at_most (Lost time space ranges ∷ h) = (let rest = sent_at_most h in omega arith)
sent_at_most (Timer time kind space ∷ h) = (let rest = sent_at_most h in omega arith)
sent_at_most (Discard time space ∷ h) = (let rest = sent_at_most h in omega arith)
sent_at_most (Confirmed time ∷ h) = (let rest = sent_at_most h in omega arith)
sent_at_most (Keys time ∷ h) = (let rest = sent_at_most h in omega arith)
sent_at_most (Metrics time values ∷ h) = (let rest = sent_at_most h in omega arith)

runs_of_at_most : (h : List Event) (s : Space) → runs_of h s ≤ length (packets_of h s)
runs_of_at_most h s = omega (arith, count_by-le-length (λ n. not (is_in (numbers_of h s) (n + 1))) (numbers_of h s), length-map (packets_of h s) (λ p. p.number))

-- there are no more runs than events
pub runs_at_most : (h : List Event) → runs h ≤ length h
runs_at_most h = omega (arith, sent_at_most h, runs_of_at_most h Initial, runs_of_at_most h Handshake, runs_of_at_most h App)

-- ---- one event more

-- an event that sends no packet leaves the numbers as they were
pub numbers_stay : (e : Event) (h : List Event) (s : Space) → is_sent e ≡ false → numbers_of (e ∷ h) s ≡ numbers_of h s
numbers_stay (Sent packet) h s quiet = cc
numbers_stay (Ack ack) h s quiet = refl
numbers_stay (Lost time space ranges) h s quiet = refl
numbers_stay (Timer time kind space) h s quiet = refl
numbers_stay (Discard time space) h s quiet = refl
numbers_stay (Confirmed time) h s quiet = refl
numbers_stay (Keys time) h s quiet = refl
numbers_stay (Metrics time values) h s quiet = refl

pub sent_stay : (sets : BySpace) (e : Event) (h : List Event) → is_sent e ≡ false → AreSent sets h → AreSent sets (e ∷ h)
sent_stay sets e h quiet sent = record { each = λ s. rw (numbers_stay e h s quiet) (sent.each s) }

-- in each space, where the set of one has one number more
each_more : (sets : BySpace) (new : List (ℕ × ℕ)) (number : ℕ) (h : List Event) (packet : SentPacket) (s : Space)
    → ((n : ℕ) → is_named new n ≡ is_named ((number, number) ∷ runs_in sets s) n) → AreSent sets h
    → (t : Space) → Names (runs_in (with_space s sets new) t) (numbers_of (Sent (record packet { space = s; number = number }) ∷ h) t)
each_more sets new number h packet Initial more sent Initial = names_more sets.initial new (numbers_of h Initial) number (sent.each Initial) more
each_more sets new number h packet Initial more sent Handshake = sent.each Handshake
each_more sets new number h packet Initial more sent App = sent.each App
each_more sets new number h packet Handshake more sent Initial = sent.each Initial
each_more sets new number h packet Handshake more sent Handshake = names_more sets.handshake new (numbers_of h Handshake) number (sent.each Handshake) more
each_more sets new number h packet Handshake more sent App = sent.each App
each_more sets new number h packet App more sent Initial = sent.each Initial
each_more sets new number h packet App more sent Handshake = sent.each Handshake
each_more sets new number h packet App more sent App = names_more sets.app new (numbers_of h App) number (sent.each App) more

-- a packet of a space adds its number to the set of that space
pub sent_more : (sets : BySpace) (new : List (ℕ × ℕ)) (number : ℕ) (h : List Event) (s : Space)
    → ((n : ℕ) → is_named new n ≡ is_named ((number, number) ∷ runs_in sets s) n) → AreSent sets h → AreSentWith (with_space s sets new) s number h
sent_more sets new number h s more sent packet = record {
  each = each_more sets new number h packet s more sent;
}

-- a set that is put back as it was
pub with_same : (sets : BySpace) (s : Space) → with_space s sets (runs_in sets s) ≡ sets
with_same sets Initial = refl
with_same sets Handshake = refl
with_same sets App = refl
