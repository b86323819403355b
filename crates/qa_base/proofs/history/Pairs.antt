-- What holds of each packet of a list, and of each two.
use Rattle.std.proofs.Common.{◌≡◌, ◌∙◌, zero, suc, List, [], ◌∷◌, ◌++◌, Bool, true, false, refl, ap, inl, inr, ◌⊎◌, filter, reverse, Contains, arith, sym, subst, take_while, ◌&&◌}
use Rattle.std.proofs.lemmas.List.Elements.{All-from_recursion, recursion_from_All, All-contains, All-contains_itself, All-weaker, filter-append}
use Rattle.std.proofs.lemmas.List.{append-nil, reverse-append}
use Rattle.std.proofs.lemmas.List.Sums.{take_while-cons}
use Rattle.std.proofs.lemmas.Bool.{false≢true, false_from_ne_true, both_ways}
use Rattle.std.proofs.lemmas.List.Folds.{Any-from_list_any}
use Rattle.std.specs.List.{AllByRecursion, list_any}
use Rattle.std.specs.Prelude.{if◌then◌else◌}
use Rattle.qa_base.specs.history.Sequence.{EachTwo}
use Rattle.qa_base.specs.machine.Packets.{Packet}
use Rattle.qa_base.proofs.machine.WindowBound.{each_of_part}

-- ---- each packet

-- what holds of each packet holds of one
pub at_one : (P : Packet → Type 0) (ps : List Packet) (p : Packet) → AllByRecursion P ps → Contains ps p → P p
at_one P ps p all has = All-contains P ps p (All-from_recursion P ps all) has

-- what holds of each one that the list has holds of all
pub of_each : (P : Packet → Type 0) (ps : List Packet) → ((p : Packet) → Contains ps p → P p) → AllByRecursion P ps
of_each P ps each = recursion_from_All P ps (All-weaker (Contains ps) P each ps (All-contains_itself ps))

pub each_weaker : (P Q : Packet → Type 0) → ((p : Packet) → P p → Q p) → (ps : List Packet) → AllByRecursion P ps → AllByRecursion Q ps
each_weaker P Q f [] all = tt
each_weaker P Q f (p ∷ ps) all = (f p all.0, each_weaker P Q f ps all.1)

pub first_or_rest : (p q : Packet) (ps : List Packet) → Contains (p ∷ ps) q → (p ≡ q) ⊎ Contains ps q
first_or_rest p q ps (zero, within, is) = inl is
first_or_rest p q ps (suc k, within, is) = inr (k, (omega arith), is)

-- ---- a part

pub has_first : (p : Packet) (ps : List Packet) → Contains (p ∷ ps) p
has_first p ps = (0, (omega arith), refl)

pub has_later : (p q : Packet) (ps : List Packet) → Contains ps q → Contains (p ∷ ps) q
has_later p q ps (k, within, is) = (suc k, (omega arith), is)

has_if : (kept : Packet → Bool) (p q : Packet) (ps : List Packet) (keep : Bool) → kept p ≡ keep → kept q ≡ true → Contains (p ∷ ps) q → (Contains ps q → Contains (filter kept ps) q)
    → Contains (if keep then p ∷ filter kept ps else filter kept ps) q
has_if kept p q ps true is passes has rest = elim (first_or_rest p q ps has) [
  | inl here ↦ subst (λ (x : Packet). Contains (p ∷ filter kept ps) x) here (has_first p (filter kept ps))
  | inr behind ↦ has_later p q (filter kept ps) (rest behind)
]
has_if kept p q ps false is passes has rest = elim (first_or_rest p q ps has) [
  | inl here ↦ absurd (false≢true (sym is ∙ (ap kept here ∙ passes)))
  | inr behind ↦ rest behind
]

-- a part has what passes its test
pub part_has : (kept : Packet → Bool) (ps : List Packet) (q : Packet) → Contains ps q → kept q ≡ true → Contains (filter kept ps) q
part_has kept [] q (k, within, is) passes = absurd (omega arith)
part_has kept (p ∷ ps) q has passes = has_if kept p q ps (kept p) refl passes has (λ behind. part_has kept ps q behind passes)

part_if : (kept : Packet → Bool) (p q : Packet) (ps : List Packet) (keep : Bool) → kept p ≡ keep
    → (Contains (filter kept ps) q → Contains ps q × (kept q ≡ true))
    → Contains (if keep then p ∷ filter kept ps else filter kept ps) q → Contains (p ∷ ps) q × (kept q ≡ true)
part_if kept p q ps true is rest has = elim (first_or_rest p q (filter kept ps) has) [
  | inl here ↦ subst (λ (x : Packet). Contains (p ∷ ps) x × (kept x ≡ true)) here (has_first p ps, is)
  | inr behind ↦ (let more = rest behind in (has_later p q ps more.0, more.1))
]
part_if kept p q ps false is rest has = let more = rest has in (has_later p q ps more.0, more.1)

-- and nothing else
pub part_is : (kept : Packet → Bool) (ps : List Packet) (q : Packet) → Contains (filter kept ps) q → Contains ps q × (kept q ≡ true)
part_is kept [] q (k, within, is) = absurd (omega arith)
part_is kept (p ∷ ps) q has = part_if kept p q ps (kept p) refl (part_is kept ps q) has

-- what some packet passes, one that the list has passes
pub some_one : (test : Packet → Bool) (ps : List Packet) → list_any test ps ≡ true → (p : Packet) × Contains ps p × (test p ≡ true)
some_one test ps some = let any = Any-from_list_any test ps some in (any.1, (any.0, any.2, any.3), any.4)

-- two tests that agree at each packet of the list leave the same part of it
pub same_part : (f g : Packet → Bool) (ps : List Packet) → AllByRecursion (λ p. f p ≡ g p) ps → filter f ps ≡ filter g ps
same_part f g [] same = refl
same_part f g (p ∷ ps) same = rw (same.0, same_part f g ps same.1) refl

-- ---- each two

-- two that a list has are one, or the first stands before the second, or behind it
pub two_of : (R : Packet → Packet → Type 0) (ps : List Packet) (p q : Packet) → EachTwo R ps → Contains ps p → Contains ps q → (p ≡ q) ⊎ (R p q ⊎ R q p)
two_of R [] p q two (k, within, is) has_q = absurd (omega arith)
two_of R (x ∷ xs) p q two has_p has_q = elim (first_or_rest x p xs has_p) [
  | inl here ↦ elim (first_or_rest x q xs has_q) [
    | inl there ↦ inl (sym here ∙ there)
    | inr behind ↦ inr (inl (rw (← here) (at_one (R x) xs q two.0 behind)))
  ]
  | inr before ↦ elim (first_or_rest x q xs has_q) [
    | inl there ↦ inr (inr (rw (← there) (at_one (R x) xs p two.0 before)))
    | inr behind ↦ two_of R xs p q two.1 before behind
  ]
]

two_if : (R : Packet → Packet → Type 0) (p : Packet) (ps : List Packet) (keep : Bool) → AllByRecursion (R p) ps → EachTwo R ps → EachTwo R (if keep then p ∷ ps else ps)
two_if R p ps true here rest = (here, rest)
two_if R p ps false here rest = rest

pub two_of_part : (R : Packet → Packet → Type 0) (kept : Packet → Bool) (ps : List Packet) → EachTwo R ps → EachTwo R (filter kept ps)
two_of_part R kept [] two = tt
two_of_part R kept (p ∷ ps) two = two_if R p (filter kept ps) (kept p) (each_of_part (R p) kept ps two.0) (two_of_part R kept ps two.1)

pub two_weaker : (R S : Packet → Packet → Type 0) → ((p q : Packet) → R p q → S p q) → (ps : List Packet) → EachTwo R ps → EachTwo S ps
two_weaker R S f [] two = tt
two_weaker R S f (p ∷ ps) two = (each_weaker (R p) (S p) (f p) ps two.0, two_weaker R S f ps two.1)

-- ---- the list turned

pub turned : (p : Packet) (ps : List Packet) → reverse (p ∷ ps) ≡ reverse ps ++ p ∷ []
turned p ps = reverse-append (p ∷ []) ps

each_push : (P : Packet → Type 0) (p : Packet) (ps : List Packet) → AllByRecursion P ps → P p → AllByRecursion P (ps ++ p ∷ [])
each_push P p [] all here = (here, tt)
each_push P p (q ∷ ps) all here = (all.0, each_push P p ps all.1 here)

pub each_turned : (P : Packet → Type 0) (ps : List Packet) → AllByRecursion P ps → AllByRecursion P (reverse ps)
each_turned P [] all = tt
each_turned P (p ∷ ps) all = rw (turned p ps) (each_push P p (reverse ps) (each_turned P ps all.1) all.0)

two_push : (R : Packet → Packet → Type 0) (p : Packet) (ps : List Packet) → EachTwo R ps → AllByRecursion (λ q. R q p) ps → EachTwo R (ps ++ p ∷ [])
two_push R p [] two all = (tt, tt)
two_push R p (q ∷ ps) two all = (each_push (R q) p ps two.0 all.0, two_push R p ps two.1 all.1)

pub two_turned : (R : Packet → Packet → Type 0) (ps : List Packet) → EachTwo R ps → EachTwo (λ p q. R q p) (reverse ps)
two_turned R [] two = tt
two_turned R (p ∷ ps) two = rw (turned p ps) (two_push (λ p q. R q p) p (reverse ps) (two_turned R ps two.1) (each_turned (R p) ps two.0))

part_push : (kept : Packet → Bool) (p : Packet) (ps : List Packet) (keep : Bool) → reverse (if keep then p ∷ ps else ps) ≡ reverse ps ++ (if keep then p ∷ [] else [])
part_push kept p ps true = turned p ps
part_push kept p ps false = sym (append-nil (reverse ps))

pub part_turned : (kept : Packet → Bool) (ps : List Packet) → filter kept (reverse ps) ≡ reverse (filter kept ps)
part_turned kept [] = refl
part_turned kept (p ∷ ps) =
    ap (filter kept) (turned p ps) ∙ (filter-append kept (reverse ps) (p ∷ [])
    ∙ (ap (λ qs. qs ++ filter kept (p ∷ [])) (part_turned kept ps) ∙ sym (part_push kept p (filter kept ps) (kept p))))

part_both : (f g : Packet → Bool) (p : Packet) (ps : List Packet) (a b : Bool) → f p ≡ a → g p ≡ b
    → (if a && b then p ∷ filter g (filter f ps) else filter g (filter f ps)) ≡ filter g (if a then p ∷ filter f ps else filter f ps)
part_both f g p ps true true is_f is_g = rw is_g refl
part_both f g p ps true false is_f is_g = rw is_g refl
part_both f g p ps false b is_f is_g = refl

-- a part of a part
pub part_of_part : (f g : Packet → Bool) (ps : List Packet) → filter (λ p. f p && g p) ps ≡ filter g (filter f ps)
part_of_part f g [] = refl
part_of_part f g (p ∷ ps) = rw (part_of_part f g ps) (part_both f g p ps (f p) (g p) refl refl)

pub none_left : (test : Packet → Bool) (ps : List Packet) → AllByRecursion (λ p. test p ≡ false) ps → filter test ps ≡ []
none_left test [] none = refl
none_left test (p ∷ ps) none = rw none.0 (none_left test ps none.1)

front_if : (test : Packet → Bool) (p : Packet) (ps : List Packet) (b : Bool) → test p ≡ b → AllByRecursion (λ q. test q ≡ true → test p ≡ true) ps
    → filter test ps ≡ take_while test ps
    → (if b then p ∷ filter test ps else filter test ps) ≡ (if b then p ∷ take_while test ps else [])
front_if test p ps true is two rest = rw rest refl
front_if test p ps false is two rest =
    none_left test ps (each_weaker (λ q. test q ≡ true → test p ≡ true) (λ q. test q ≡ false) (λ q falls. false_from_ne_true (test q) (λ passes. both_ways (test p) is (falls passes))) ps two)

-- where whatever stands before a packet that passes passes too, those that pass are the front of the list
pub front : (test : Packet → Bool) (ps : List Packet) → EachTwo (λ p q. test q ≡ true → test p ≡ true) ps → filter test ps ≡ take_while test ps
front test [] two = refl
front test (p ∷ ps) two = front_if test p ps (test p) refl two.0 (front test ps two.1) ∙ sym (take_while-cons test p ps)

-- each two of the second part of a list stand so
pub two_of_rest : (R : Packet → Packet → Type 0) (ps qs : List Packet) → EachTwo R (ps ++ qs) → EachTwo R qs
two_of_rest R [] qs two = two
two_of_rest R (p ∷ ps) qs two = two_of_rest R ps qs two.1
