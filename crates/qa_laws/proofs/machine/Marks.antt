-- By what recovery is told: by times, or by the order of the lines, and when the two say the same.
use Rattle.std.proofs.Common.{◌≡◌, ◌∙◌, ◌+◌, ◌<◌, ◌≤◌, ◌⊎◌, ℕ, List, [], ◌∷◌, ◌++◌, Bool, true, false, Some, length, refl, sym, arith, Contains, inl, inr}
use Rattle.std.proofs.lemmas.Bool.{le-ltb, lt-ltb, ltb-false, ltb-true}
use Rattle.std.proofs.lemmas.List.{length-append}
use Rattle.std.specs.List.{AllByRecursion}
use Rattle.std.specs.Prelude.{nat_lt, if◌then◌else◌}
use Rattle.qa_base.specs.declared.event.Event.{Event}
use Rattle.qa_base.specs.declared.event.Event.TheVariants.{Sent}
use Rattle.qa_base.specs.machine.Moments.{last_time}
use Rattle.qa_base.specs.machine.Packets.{Packet, packets, packet_of}
use Rattle.qa_base.specs.machine.Reno.{event_mark, is_outside_recovery, sent_mark}
use Rattle.qa_base.specs.machine.Rules.{IsRun}
use Rattle.qa_base.specs.values.Events.{time_of}
use Rattle.qa_base.specs.values.Settings.{Settings}
use Rattle.qa_base.proofs.history.Pairs.{at_one}
use Rattle.qa_base.proofs.history.ToleratedRuns.{AreBy, are_by}
use Rattle.qa_base.proofs.machine.RunLaws.{tolerated_run_of}
use Rattle.qa_base.proofs.machine.WindowBound.{each_append, placed}
use Rattle.qa_laws.proofs.machine.ConductOfWindows.{times_rise}

-- ---- what the header says

pub sent_time : (c : Settings) (p : Packet) → c.options.recovery_by_order ≡ false → sent_mark c p ≡ p.time
sent_time c p is = rw is refl

pub event_time : (c : Settings) (h : List Event) → c.options.recovery_by_order ≡ false → event_mark c h ≡ last_time h
event_time c h is = rw is refl

pub sent_place : (c : Settings) (p : Packet) → c.options.recovery_by_order ≡ true → sent_mark c p ≡ p.place
sent_place c p is = rw is refl

pub event_place : (c : Settings) (e : Event) (h : List Event) → c.options.recovery_by_order ≡ true → event_mark c (e ∷ h) ≡ length h
event_place c e h is = rw is refl

-- ---- packets before an event and after it

-- behind so many events and no earlier than then, or not behind them and no later
abbrev IsBeside : ℕ → ℕ → Packet → Type 0
IsBeside n t p = ((n < p.place) × (t ≤ p.time)) ⊎ ((p.place ≤ n) × (p.time ≤ t))

before_it : (n t : ℕ) (ps : List Packet) → AllByRecursion (λ (p : Packet). p.place < n) ps → AreBy t ps → AllByRecursion (IsBeside n t) ps
before_it n t [] below by = tt
before_it n t (p ∷ ps) below by =
    let here = below.0 in (inr ((omega (arith, here)), by.0), before_it n t ps below.1 by.1)

of_itself : (f : Event) (n : ℕ) → AllByRecursion (IsBeside n (time_of f)) (packet_of n f)
of_itself (Sent packet) n = (inr ((omega arith), (omega arith)), tt)
of_itself _ n = tt

of_later : (e : Event) (n t place : ℕ) → n < place → t ≤ time_of e → AllByRecursion (IsBeside n t) (packet_of place e)
of_later (Sent packet) n t place behind late = (inl (behind, late), tt)
of_later _ n t place behind late = tt

-- each packet of a run stands to each of its events by place as by time
each_beside : (c : Settings) (f : Event) (between h : List Event) → IsRun c (between ++ f ∷ h) → AllByRecursion (IsBeside (length h) (time_of f)) (packets (between ++ f ∷ h))
each_beside c f [] h run =
    each_append (IsBeside (length h) (time_of f)) (packet_of (length h) f) (packets h) (of_itself f (length h))
    (before_it (length h) (time_of f) (packets h) (placed h) (are_by c f h (tolerated_run_of c (f ∷ h) run)))
each_beside c f (e ∷ between) h run =
    let g = between ++ f ∷ h in
    let sum : length g ≡ length between + length (f ∷ h) = length-append between (f ∷ h) in
    each_append (IsBeside (length h) (time_of f)) (packet_of (length g) e) (packets g)
    (of_later e (length h) (time_of f) (length g) (omega (arith, sum)) (times_rise c e f between h run))
    (each_beside c f between h run.0)

-- ---- order and time

same_if : (n t : ℕ) (p : Packet) → IsBeside n t p → (p.time ≡ t → ⊥) → nat_lt n p.place ≡ nat_lt t p.time
same_if n t p (inl behind) other = lt-ltb n p.place behind.0 ∙ sym (later_by (nat_lt t p.time) refl)
  where
    later_by : (b : Bool) → nat_lt t p.time ≡ b → nat_lt t p.time ≡ true
    later_by true is = is
    later_by false is = let no_later = ltb-false t p.time is in let no_sooner = behind.1 in absurd (other (omega (arith, no_later, no_sooner)))
same_if n t p (inr before) other = le-ltb n p.place before.0 ∙ sym (le-ltb t p.time before.1)

-- a packet of another time was sent after the event in the order of the lines where it was by time
pub order_is_time : (c : Settings) (f : Event) (between h : List Event) (p : Packet) → IsRun c (between ++ f ∷ h) → Contains (packets (between ++ f ∷ h)) p → (p.time ≡ time_of f → ⊥)
    → nat_lt (length h) p.place ≡ nat_lt (time_of f) p.time
order_is_time c f between h p run has other =
    same_if (length h) (time_of f) p (at_one (IsBeside (length h) (time_of f)) (packets (between ++ f ∷ h)) p (each_beside c f between h run) has) other

either_is : (by_order : Bool) (n t place time : ℕ) → nat_lt n place ≡ nat_lt t time → nat_lt (if by_order then n else t) (if by_order then place else time) ≡ nat_lt t time
either_is true n t place time same = same
either_is false n t place time same = refl

-- so recovery is the same by either
pub recovery_is_by_time : (c : Settings) (f : Event) (between h : List Event) (p : Packet) → IsRun c (between ++ f ∷ h) → Contains (packets (between ++ f ∷ h)) p → (p.time ≡ time_of f → ⊥)
    → is_outside_recovery (Some (event_mark c (f ∷ h))) (sent_mark c p) ≡ is_outside_recovery (Some (time_of f)) p.time
recovery_is_by_time c f between h p run has other =
    either_is c.options.recovery_by_order (length h) (time_of f) p.place p.time (order_is_time c f between h p run has other)

-- ---- later by time is later by order

later_if : (by_order : Bool) (n t : ℕ) (p : Packet) → IsBeside n t p → nat_lt t p.time ≡ true → nat_lt (if by_order then n else t) (if by_order then p.place else p.time) ≡ true
later_if true n t p (inl behind) late = lt-ltb n p.place behind.0
later_if true n t p (inr before) late = let later = ltb-true t p.time late in let most = before.1 in absurd (omega (arith, later, most))
later_if false n t p beside late = late

pub later_by_time : (c : Settings) (f : Event) (between h : List Event) (p : Packet) → IsRun c (between ++ f ∷ h) → Contains (packets (between ++ f ∷ h)) p
    → is_outside_recovery (Some (time_of f)) p.time ≡ true → is_outside_recovery (Some (event_mark c (f ∷ h))) (sent_mark c p) ≡ true
later_by_time c f between h p run has late =
    later_if c.options.recovery_by_order (length h) (time_of f) p (at_one (IsBeside (length h) (time_of f)) (packets (between ++ f ∷ h)) p (each_beside c f between h run) has) late
