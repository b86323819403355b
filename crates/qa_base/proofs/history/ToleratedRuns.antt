-- In which order the packets of a tolerated run stand: later, sent no earlier, and with a higher number in their space.
use Rattle.std.proofs.Common.{◌≡◌, ◌<◌, ◌≤◌, ℕ, List, [], ◌∷◌, length, true, refl, arith, Contains, inl, inr}
use Rattle.std.proofs.lemmas.Bool.{ltb-false}
use Rattle.std.specs.List.{AllByRecursion}
use Rattle.qa_base.specs.declared.event.Event.{Event}
use Rattle.qa_base.specs.declared.event.Event.TheVariants.{Sent}
use Rattle.qa_base.specs.declared.space.Space.{Space}
use Rattle.qa_base.specs.declared.space.Space.TheVariants.{Initial, Handshake, App}
use Rattle.qa_base.specs.values.Events.{time_of, is_space}
use Rattle.qa_base.specs.machine.Order.{IsLower}
use Rattle.qa_base.specs.history.Sequence.{WasSentBefore, EachTwo}
use Rattle.qa_base.specs.machine.Packets.{Packet, packets, packets_of, is_of, packet_at}
use Rattle.qa_base.specs.machine.Violations.{IsToleratedRun}
use Rattle.qa_base.specs.values.Settings.{Settings}
use Rattle.qa_base.proofs.history.Pairs.{of_each, each_weaker, two_of, two_of_part, part_is}
use Rattle.qa_base.proofs.machine.RunLaws.{form_holds, numbers_fall}
use Rattle.qa_base.proofs.machine.WindowBound.{placed}
use Rattle.qa_base.specs.history.Parts.{AreOf}

-- ---- places

-- each packet stands below the end of its history
abbrev AreBelow : ℕ → List Packet → Type 0
AreBelow n ps = AllByRecursion (λ q. q.place < n) ps

-- ---- times

-- each packet was sent by that time
abbrev pub AreBy : ℕ → List Packet → Type 0
AreBy t ps = AllByRecursion (λ q. q.time ≤ t) ps

by_more : (h : List Event) (e : Event) → AreBy (time_of e) (packets h) → AreBy (time_of e) (packets (e ∷ h))
by_more h (Sent packet) by = ((omega arith), by)
by_more h e by = by

later : (s t : ℕ) → s ≤ t → (ps : List Packet) → AreBy s ps → AreBy t ps
later s t le ps by = each_weaker (λ q. q.time ≤ s) (λ q. q.time ≤ t) (λ q l. omega arith) ps by

-- each packet of a tolerated run was sent by the time of the event that comes next
pub are_by : (c : Settings) (e : Event) (h : List Event) → IsToleratedRun c (e ∷ h) → AreBy (time_of e) (packets h)
are_by c e [] run = tt
are_by c e (last ∷ before) run =
    let holds = form_holds c (last ∷ before) e run.1 in
    later (time_of last) (time_of e) (ltb-false (time_of e) (time_of last) holds.time_back) (packets (last ∷ before))
    (by_more before last (are_by c last before run.0))

-- ---- all of it

joined : (p : Packet) (ps : List Packet) → AreBelow p.place ps → AreBy p.time ps → AllByRecursion (IsLower p) ps → AllByRecursion (WasSentBefore p) ps
joined p [] below by lower = tt
joined p (q ∷ ps) below by lower =
    (record { place = below.0; time = by.0; number = lower.0 }, joined p ps below.1 by.1 lower.1)

order_more : (c : Settings) (h : List Event) (e : Event) → IsToleratedRun c (e ∷ h) → EachTwo WasSentBefore (packets h) → EachTwo WasSentBefore (packets (e ∷ h))
order_more c h (Sent packet) run two =
    let e = Sent packet in
    let falls = numbers_fall c (e ∷ h) run in
    let p = packet_at (length h) packet in
    (joined p (packets h) (placed h) (are_by c e h run) falls.0, two)
order_more c h _ run two = two

-- of each two packets of a tolerated run the one that stands behind was sent before the other
pub in_order : (c : Settings) (h : List Event) → IsToleratedRun c h → EachTwo WasSentBefore (packets h)
in_order c [] run = tt
in_order c (e ∷ h) run = order_more c h e run (in_order c h run.0)

-- ---- two packets of one space

pub is_space_same : (s : Space) → is_space s s ≡ true
is_space_same Initial = refl
is_space_same Handshake = refl
is_space_same App = refl

pub is_space_is : (s t : Space) → is_space s t ≡ true → s ≡ t
is_space_is Initial Initial h = refl
is_space_is Handshake Handshake h = refl
is_space_is App App h = refl
is_space_is Initial Handshake h = cc
is_space_is Initial App h = cc
is_space_is Handshake Initial h = cc
is_space_is Handshake App h = cc
is_space_is App Initial h = cc
is_space_is App Handshake h = cc

is_of_back : (p q : Packet) → is_of p.space q ≡ true → is_of q.space p ≡ true
is_of_back p q same = rw (is_space_is p.space q.space same) (is_space_same q.space)

-- the one with the lower number was sent no later, and stands no further on
pub lower_is_earlier : (c : Settings) (h : List Event) → IsToleratedRun c h → (p q : Packet) → Contains (packets h) p → Contains (packets h) q
    → is_of p.space q ≡ true → q.number ≤ p.number → (q.time ≤ p.time) × (q.place ≤ p.place)
lower_is_earlier c h run p q has_p has_q same lower = elim (two_of WasSentBefore (packets h) p q (in_order c h run) has_p has_q) [
  | inl one ↦ rw one ((omega arith), (omega arith))
  | inr (inl before) ↦ (before.time, (omega (arith, before.place)))
  | inr (inr behind) ↦ (let less = behind.number (is_of_back p q same) in absurd (omega (arith, less)))
]

-- two of the same number are one
pub same_number : (c : Settings) (h : List Event) → IsToleratedRun c h → (p q : Packet) → Contains (packets h) p → Contains (packets h) q
    → is_of p.space q ≡ true → q.number ≡ p.number → p ≡ q
same_number c h run p q has_p has_q same number = elim (two_of WasSentBefore (packets h) p q (in_order c h run) has_p has_q) [
  | inl one ↦ one
  | inr (inl before) ↦ (let less = before.number same in absurd (omega (arith, less)))
  | inr (inr behind) ↦ (let less = behind.number (is_of_back p q same) in absurd (omega (arith, less)))
]

-- ---- the packets of one space

-- q was sent before p, of its space
pub record IsEarlier (p q : Packet) : Type 0 where
  pub space : p.space ≡ q.space
  pub place : q.place < p.place
  pub time : q.time ≤ p.time
  pub number : q.number < p.number

pub are_of : (h : List Event) (s : Space) → AreOf s (packets_of h s)
are_of h s = of_each (λ p. is_of s p ≡ true) (packets_of h s) (λ p has. (part_is (is_of s) (packets h) p has).1)

earlier_than : (s : Space) (p : Packet) (ps : List Packet) → is_of s p ≡ true → AreOf s ps → AllByRecursion (WasSentBefore p) ps → AllByRecursion (IsEarlier p) ps
earlier_than s p [] of_p of before = tt
earlier_than s p (q ∷ ps) of_p of before =
    let same : is_of p.space q ≡ true = rw (← is_space_is s p.space of_p) of.0 in
    (record { space = is_space_is p.space q.space same; place = before.0.place; time = before.0.time; number = before.0.number same }, earlier_than s p ps of_p of.1 before.1)

pub each_earlier : (s : Space) (ps : List Packet) → AreOf s ps → EachTwo WasSentBefore ps → EachTwo IsEarlier ps
each_earlier s [] of two = tt
each_earlier s (p ∷ ps) of two = (earlier_than s p ps of.0 of.1 two.0, each_earlier s ps of.1 two.1)

-- of each two packets of one space the one that stands behind was sent no later and has a lower number
pub in_order_of : (c : Settings) (h : List Event) (s : Space) → IsToleratedRun c h → EachTwo IsEarlier (packets_of h s)
in_order_of c h s run = each_earlier s (packets_of h s) (are_of h s) (two_of_part WasSentBefore (is_of s) (packets h) (in_order c h run))
