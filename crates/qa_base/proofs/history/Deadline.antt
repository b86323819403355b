-- The oldest packet of a space that is open and in flight decides its loss time.
use Rattle.std.proofs.Common.{◌≡◌, ◌∙◌, ◌<◌, ◌+◌, ℕ, min, map, List, [], ◌∷◌, ◌++◌, Bool, true, false, ◌&&◌, Option, Some, None, option_map, refl, sym, ap, arith, subst, Contains, filter, find, reverse}
use Rattle.std.proofs.lemmas.Bool.{ltb-true, lt-ltb}
use Rattle.std.proofs.lemmas.List.{reverse-append}
use Rattle.std.proofs.lemmas.List.Folds.{find-append}
use Rattle.std.specs.List.{AllByRecursion}
use Rattle.std.specs.Option.{option_or}
use Rattle.std.specs.Prelude.{if◌then◌else◌}
use Rattle.qa_base.specs.machine.Estimates.{rtt}
use Rattle.qa_base.specs.declared.event.Event.{Event}
use Rattle.qa_base.specs.declared.space.TimerKind.TheVariants.{Loss}
use Rattle.qa_base.specs.declared.space.Space.{Space}
use Rattle.qa_base.specs.history.Oldest.{is_flying, due_of, NoneFlies}
use Rattle.qa_base.specs.history.Sequence.{EachTwo}
use Rattle.qa_base.specs.machine.Packets.{Packet, packets, packets_of, is_of, largest_acknowledged, least_of, is_below_largest}
use Rattle.qa_base.specs.machine.Violations.{IsToleratedRun}
use Rattle.qa_base.specs.values.Settings.{Settings}
use Rattle.qa_base.specs.machine.Rtt.{loss_delay}
use Rattle.qa_base.specs.machine.Timer.{Due, loss_due, awaits_loss}
use Rattle.qa_base.proofs.history.ToleratedRuns.{IsEarlier, are_of, in_order_of, is_space_is}
use Rattle.qa_base.proofs.history.Pairs.{at_one, same_part, part_turned, has_first, has_later}
use Rattle.qa_base.specs.history.Parts.{AreOf}

-- ---- the first that was sent

-- the first that was sent of those that pass the test; the list has the latest first
abbrev pub first_sent : (Packet → Bool) → List Packet → Option Packet
first_sent test [] = None
first_sent test (p ∷ ps) = option_or (first_sent test ps) (if test p then Some p else None)

-- of the packets of a space that are open and in flight
abbrev pub oldest_flying : Settings → List Event → Space → Option Packet
oldest_flying c h s = first_sent (is_flying c h) (packets_of h s)

-- it is the first that is found where the list is turned
pub first_sent_is : (test : Packet → Bool) (ps : List Packet) → first_sent test ps ≡ find test (reverse ps)
first_sent_is test [] = refl
first_sent_is test (p ∷ ps) =
    let turned : reverse (p ∷ ps) ≡ reverse ps ++ p ∷ [] = reverse-append (p ∷ []) ps in
    ap (λ o. option_or o (if test p then Some p else None)) (first_sent_is test ps)
    ∙ (sym (find-append test (reverse ps) (p ∷ [])) ∙ ap (find test) (sym turned))

first_if : (test : Packet → Bool) (p q : Packet) (ps : List Packet) (keep : Bool) (behind : Option Packet) → test p ≡ keep
    → (behind ≡ Some q → Contains ps q × (test q ≡ true))
    → option_or behind (if keep then Some p else None) ≡ Some q → Contains (p ∷ ps) q × (test q ≡ true)
first_if test p q ps keep (Some r) is rest first = let more = rest first in (has_later p q ps more.0, more.1)
first_if test p q ps true None is rest first = let same : p ≡ q = cc in subst (λ (x : Packet). Contains (p ∷ ps) x × (test x ≡ true)) same (has_first p ps, is)
first_if test p q ps false None is rest first = cc

pub first_passes : (test : Packet → Bool) (ps : List Packet) (q : Packet) → first_sent test ps ≡ Some q → Contains ps q × (test q ≡ true)
first_passes test [] q first = cc
first_passes test (p ∷ ps) q first = first_if test p q ps (test p) (first_sent test ps) refl (first_passes test ps q) first

-- ---- the least sending time

-- the sending time, where the number is below the largest
abbrev time_of_first : Option ℕ → Option Packet → Option ℕ
time_of_first largest None = None
time_of_first largest (Some p) = if is_below_largest p.number largest then Some p.time else None

below_lower : (largest : Option ℕ) (m n : ℕ) → m < n → is_below_largest n largest ≡ true → is_below_largest m largest ≡ true
below_lower None m n less below = cc
below_lower (Some most) m n less below = let is = ltb-true n most below in lt-ltb m most (omega (arith, is, less))

least_step : (largest : Option ℕ) (p : Packet) (times : List ℕ) (behind : Option Packet) (flies below : Bool) → is_below_largest p.number largest ≡ below
    → ((q : Packet) → behind ≡ Some q → IsEarlier p q)
    → least_of times ≡ time_of_first largest behind
    → least_of (if flies && below then p.time ∷ times else times) ≡ time_of_first largest (option_or behind (if flies then Some p else None))
least_step largest p times (Some q) true true is earlier rest =
    let before = earlier q refl in
    let also : is_below_largest q.number largest ≡ true = below_lower largest q.number p.number before.number is in
    let sent : min p.time q.time ≡ q.time = omega (arith, before.time) in
    rw (rest, also) (ap Some sent)
least_step largest p times None true true is earlier rest = rw (rest, is) (ap Some (omega arith))
least_step largest p times (Some q) true false is earlier rest = rest
least_step largest p times None true false is earlier rest = rw is rest
least_step largest p times (Some q) false below is earlier rest = rest
least_step largest p times None false below is earlier rest = rest

times_if : (p : Packet) (ps : List Packet) (keep : Bool) → map (λ (q : Packet). q.time) (if keep then p ∷ ps else ps) ≡ (if keep then p.time ∷ map (λ (q : Packet). q.time) ps else map (λ (q : Packet). q.time) ps)
times_if p ps true = refl
times_if p ps false = refl

least_is : (flies : Packet → Bool) (largest : Option ℕ) (ps : List Packet) → EachTwo IsEarlier ps
    → least_of (map (λ p. p.time) (filter (λ p. flies p && is_below_largest p.number largest) ps)) ≡ time_of_first largest (first_sent flies ps)
least_is flies largest [] two = refl
least_is flies largest (p ∷ ps) two =
    let awaits : Packet → Bool = λ q. flies q && is_below_largest q.number largest in
    ap least_of (times_if p (filter awaits ps) (awaits p))
    ∙ least_step largest p (map (λ q. q.time) (filter awaits ps)) (first_sent flies ps) (flies p) (is_below_largest p.number largest) refl
    (λ q first. at_one (IsEarlier p) ps q two.0 (first_passes flies ps q first).0)
    (least_is flies largest ps two.1)

-- ---- the loss time

timed : (below : Bool) (due : ℕ → Due) (sent : ℕ) → option_map due (if below then Some sent else None) ≡ (if below then Some (due sent) else None)
timed true due sent = refl
timed false due sent = refl

due_if : (c : Settings) (h : List Event) (s : Space) (o : Option Packet)
    → option_map (λ sent. record { kind = Loss; space = s; time = sent + loss_delay c (rtt c h) }) (time_of_first (largest_acknowledged h s) o) ≡ due_of c h s o
due_if c h s None = refl
due_if c h s (Some p) = timed (is_below_largest p.number (largest_acknowledged h s)) (λ sent. record { kind = Loss; space = s; time = sent + loss_delay c (rtt c h) }) p.time

awaits_of : (c : Settings) (h : List Event) (s : Space) (ps : List Packet) → AreOf s ps
    → AllByRecursion (λ p. awaits_loss c h p ≡ (is_flying c h p && is_below_largest p.number (largest_acknowledged h s))) ps
awaits_of c h s [] of = tt
awaits_of c h s (p ∷ ps) of = (rw (is_space_is s p.space of.0) refl, awaits_of c h s ps of.1)

-- in a tolerated run the loss time of a space is that of its oldest packet that is open and in flight
pub loss_due_is : (c : Settings) (h : List Event) → IsToleratedRun c h → (s : Space) → loss_due c h s ≡ due_of c h s (oldest_flying c h s)
loss_due_is c h run s =
    let ps = packets_of h s in
    let largest = largest_acknowledged h s in
    let due_at : ℕ → Due = λ sent. record { kind = Loss; space = s; time = sent + loss_delay c (rtt c h) } in
    ap (λ qs. option_map due_at (least_of (map (λ p. p.time) qs))) (same_part (awaits_loss c h) (λ p. is_flying c h p && is_below_largest p.number largest) ps (awaits_of c h s ps (are_of h s)))
    ∙ (ap (option_map due_at) (least_is (is_flying c h) largest ps (in_order_of c h s run)) ∙ due_if c h s (oldest_flying c h s))

-- ---- the oldest in the order of sending

find_if : (f g : Packet → Bool) (p : Packet) (ps : List Packet) (b : Bool) → f p ≡ b → find g (if b then p ∷ filter f ps else filter f ps) ≡ (if b && g p then Some p else find g (filter f ps))
find_if f g p ps true is = refl
find_if f g p ps false is = refl

find_in_part : (f g : Packet → Bool) (ps : List Packet) → find g (filter f ps) ≡ find (λ p. f p && g p) ps
find_in_part f g [] = refl
find_in_part f g (p ∷ ps) = find_if f g p ps (f p) refl ∙ ap (λ o. if f p && g p then Some p else o) (find_in_part f g ps)

pub find_none : (test : Packet → Bool) (ps : List Packet) → AllByRecursion (λ p. test p ≡ false) ps → find test ps ≡ None
find_none test [] none = refl
find_none test (p ∷ ps) none = rw none.0 (find_none test ps none.1)

-- behind a front with none, the oldest open and in flight is the first that is found
pub oldest_is_next : (c : Settings) (h : List Event) (s : Space) (front rest : List Packet) → reverse (packets h) ≡ front ++ rest → NoneFlies c h s front
    → oldest_flying c h s ≡ find (λ p. is_of s p && is_flying c h p) rest
oldest_is_next c h s front rest parts none =
    let test : Packet → Bool = λ p. is_of s p && is_flying c h p in
    first_sent_is (is_flying c h) (packets_of h s)
    ∙ (ap (find (is_flying c h)) (sym (part_turned (is_of s) (packets h)))
    ∙ (find_in_part (is_of s) (is_flying c h) (reverse (packets h))
    ∙ (ap (find test) parts
    ∙ (find-append test front rest ∙ ap (λ o. option_or o (find test rest)) (find_none test front none)))))

-- in a tolerated run it decides the loss time of its space
pub loss_due_by_next : (c : Settings) (h : List Event) → IsToleratedRun c h → (s : Space) (front rest : List Packet) → reverse (packets h) ≡ front ++ rest → NoneFlies c h s front
    → loss_due c h s ≡ due_of c h s (find (λ p. is_of s p && is_flying c h p) rest)
loss_due_by_next c h run s front rest parts none = loss_due_is c h run s ∙ ap (due_of c h s) (oldest_is_next c h s front rest parts none)
