-- Tests of a history, as tests of its events in order.
use Rattle.std.proofs.Common.{◌≡◌, ◌∙◌, ◌+◌, ◌-◌, ◌<◌, ◌≤◌, ℕ, zero, suc, List, [], ◌∷◌, Bool, true, false, ◌||◌, ◌&&◌, length, drop, refl, ap, arith, fold}
use Rattle.std.proofs.lemmas.Bool.{lt-ltb, le-ltb}
use Rattle.std.specs.List.{list_any}
use Rattle.std.specs.Prelude.{nat_lt}
use Rattle.qa_base.specs.declared.event.Event.{Event}
use Rattle.qa_base.specs.machine.Packets.{Packet, history_of, is_followed_by}

or_swap : (a b rest : Bool) → (a || (b || rest)) ≡ ((b || a) || rest)
or_swap true true rest = refl
or_swap true false rest = refl
or_swap false true rest = refl
or_swap false false rest = refl

-- an event that passes, behind the packet or not
onto_behind : (passes any rest : Bool) → (any || ((passes && true) || rest)) ≡ ((passes || any) || rest)
onto_behind true any rest = or_swap any true rest
onto_behind false any rest = or_swap any false rest

onto_before : (passes any rest : Bool) → (any || ((passes && false) || rest)) ≡ (any || rest)
onto_before true any rest = refl
onto_before false any rest = refl

none_left : (test : Event → Bool) (k : ℕ) (rest : Bool) → rest ≡ (list_any test (drop k []) || rest)
none_left test zero rest = refl
none_left test (suc k) rest = refl

-- with a history before them: the events behind the packet begin after k of them
followed_onto : (test : Event → Bool) (p : Packet) (h events : List Event) (k : ℕ) → k ≡ p.place + 1 - length h
    → is_followed_by test (fold (λ (h : List Event) e. e ∷ h) h events) p ≡ (list_any test (drop k events) || is_followed_by test h p)
followed_onto test p h [] k is = none_left test k (is_followed_by test h p)
followed_onto test p h (e ∷ events) zero is =
    let less : p.place < length h = omega (arith, is) in
    let behind : nat_lt p.place (length h) ≡ true = lt-ltb p.place (length h) less in
    let rest = followed_onto test p (e ∷ h) events zero (omega (arith, is)) in
    rest
    ∙ (ap (λ (b : Bool). list_any test events || ((test e && b) || is_followed_by test h p)) behind
    ∙ onto_behind (test e) (list_any test events) (is_followed_by test h p))
followed_onto test p h (e ∷ events) (suc k) is =
    let most : length h ≤ p.place = omega (arith, is) in
    let before : nat_lt p.place (length h) ≡ false = le-ltb p.place (length h) most in
    let rest = followed_onto test p (e ∷ h) events k (omega (arith, is)) in
    rest
    ∙ (ap (λ (b : Bool). list_any test (drop k events) || ((test e && b) || is_followed_by test h p)) before
    ∙ onto_before (test e) (list_any test (drop k events)) (is_followed_by test h p))

or_none : (a : Bool) → (a || false) ≡ a
or_none true = refl
or_none false = refl

-- some event behind the one that sent the packet passes the test
pub followed_is : (test : Event → Bool) (events : List Event) (p : Packet) → is_followed_by test (history_of events) p ≡ list_any test (drop (p.place + 1) events)
followed_is test events p =
    followed_onto test p [] events (p.place + 1) (omega arith) ∙ or_none (list_any test (drop (p.place + 1) events))

any_onto : (test : Event → Bool) (h events : List Event) → list_any test (fold (λ (h : List Event) e. e ∷ h) h events) ≡ (list_any test events || list_any test h)
any_onto test h [] = refl
any_onto test h (e ∷ events) = any_onto test (e ∷ h) events ∙ or_swap (list_any test events) (test e) (list_any test h)

-- some event passes the test
pub any_is : (test : Event → Bool) (events : List Event) → list_any test (history_of events) ≡ list_any test events
any_is test events = any_onto test [] events ∙ or_none (list_any test events)
