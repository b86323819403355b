-- What one more event of a slice does.
use Rattle.std.proofs.Common.{◌≡◌, ◌∙◌, ◌+◌, ◌<◌, ◌≤◌, ℕ, List, [], ◌∷◌, ◌++◌, Bool, true, false, ◌&&◌, Option, length, take, get_or, refl, sym, ap, filter, arith}
use Rattle.std.proofs.lemmas.List.{length-take-le, take_all}
use Rattle.std.proofs.lemmas.List.Elements.{filter-append}
use Rattle.std.proofs.lemmas.List.Folds.{list_all_more}
use Rattle.std.proofs.lemmas.List.Sums.{fold_more}
use Rattle.std.specs.List.{list_all}
use Rattle.qa_base.specs.declared.event.Event.{Event}
use Rattle.qa_base.specs.machine.Packets.{Packet, packet_of, packets, history_of}
use Rattle.qa_reference.specs.Listed.{listed}
use Rattle.qa_base.proofs.machine.Histories.{length-history_of}

-- it begins the history
pub one_more : (events : List Event) (i : ℕ) (e : Event) → i < length events → e ≡ get_or events i e → history_of (take (i + 1) events) ≡ e ∷ history_of (take i events)
one_more events i e within is = fold_more (λ h e. e ∷ h) [] events i e within ∙ ap (λ x. x ∷ history_of (take i events)) (sym is)

-- its packet is the first
packets_more : (events : List Event) (i : ℕ) (e : Event) → i < length events → e ≡ get_or events i e
    → packets (history_of (take (i + 1) events)) ≡ packet_of i e ++ packets (history_of (take i events))
packets_more events i e within is =
    let before = history_of (take i events) in
    let place : length before ≡ i = length-history_of (take i events) ∙ length-take-le i events (omega arith) in
    ap packets (one_more events i e within is) ∙ ap (λ n. packet_of n e ++ packets before) place

-- what is made of all, by the packet that it sent
pub packet_next : {A : Type 0} (of : List Packet → A) (events : List Event) (i : ℕ) (e : Event) (here : Option Packet)
    → i < length events → e ≡ get_or events i e → listed here ≡ packet_of i e
    → of (packets (history_of (take (i + 1) events))) ≡ of (listed here ++ packets (history_of (take i events)))
packet_next of events i e here within is sent =
    ap of (packets_more events i e within is ∙ sym (ap (λ (ps : List Packet). ps ++ packets (history_of (take i events))) sent))

-- also among those that pass a test
passing_more : (test : Packet → Bool) (events : List Event) (i : ℕ) (e : Event) → i < length events → e ≡ get_or events i e
    → filter test (packets (history_of (take (i + 1) events))) ≡ filter test (packet_of i e) ++ filter test (packets (history_of (take i events)))
passing_more test events i e within is = ap (filter test) (packets_more events i e within is) ∙ filter-append test (packet_of i e) (packets (history_of (take i events)))

-- what is made of those that pass, by the packet that it sent where that passes
pub passing_next : {A : Type 0} (of : List Packet → A) (test : Packet → Bool) (events : List Event) (i : ℕ) (e : Event) (here : Option Packet)
    → i < length events → e ≡ get_or events i e → listed here ≡ filter test (packet_of i e)
    → of (filter test (packets (history_of (take (i + 1) events)))) ≡ of (listed here ++ filter test (packets (history_of (take i events))))
passing_next of test events i e here within is passes =
    ap of (passing_more test events i e within is ∙ sym (ap (λ (ps : List Packet). ps ++ filter test (packets (history_of (take i events)))) passes))

-- each passes where this one does too
and_all : (a : Bool) → (a && true) ≡ a
and_all true = refl
and_all false = refl

and_none : (a : Bool) → (a && false) ≡ false
and_none true = refl
and_none false = refl

each_more : {X : Type 0} (test : X → Bool) (xs : List X) (i : ℕ) (x : X) (passes : Bool) → i < length xs → x ≡ get_or xs i x → test x ≡ passes
    → list_all test (take (i + 1) xs) ≡ (list_all test (take i xs) && passes)
each_more test xs i x passes within is result =
    list_all_more test xs i x within ∙ ap (λ (b : Bool). list_all test (take i xs) && b) (sym (ap test is) ∙ result)

pub each_next : {X : Type 0} (test : X → Bool) (xs : List X) (i : ℕ) (x : X) → i < length xs → x ≡ get_or xs i x → test x ≡ true
    → list_all test (take (i + 1) xs) ≡ list_all test (take i xs)
each_next test xs i x within is passes = each_more test xs i x true within is passes ∙ and_all (list_all test (take i xs))

pub not_each : {X : Type 0} (test : X → Bool) (xs : List X) (i : ℕ) (x : X) → i < length xs → x ≡ get_or xs i x → test x ≡ false
    → list_all test (take (i + 1) xs) ≡ false
not_each test xs i x within is fails = each_more test xs i x false within is fails ∙ and_none (list_all test (take i xs))

-- after the last event it was all of them
pub at_end : {A : Type 0} (of : List Event → A) (events : List Event) (i : ℕ) → length events ≤ i → of (history_of (take i events)) ≡ of (history_of events)
at_end of events i all = ap (λ (xs : List Event). of (history_of xs)) (take_all i events all)
