-- The first of tests that follow others.
use Rattle.std.proofs.Common.{◌≡◌, ◌∙◌, List, [], ◌∷◌, ◌++◌, Bool, true, false, None, Some, refl, ap}
use Rattle.std.specs.Option.{option_or}
use Rattle.qa_base.specs.declared.rule.Rule.{Rule}
use Rattle.qa_base.specs.declared.rule.Rule.TheVariants as rule
use Rattle.qa_base.specs.machine.Rules.{first_of}

one_more : (here : Bool) (r : Rule) (tests others : List (Bool × Rule)) → first_of (tests ++ others) ≡ option_or (first_of tests) (first_of others)
    → first_of ((here, r) ∷ (tests ++ others)) ≡ option_or (first_of ((here, r) ∷ tests)) (first_of others)
one_more true r tests others rest = refl
one_more false r tests others rest = rest

pub first_of_both : (tests others : List (Bool × Rule)) → first_of (tests ++ others) ≡ option_or (first_of tests) (first_of others)
first_of_both [] others = refl
first_of_both (test ∷ tests) others = one_more test.0 test.1 tests others (first_of_both tests others)

-- one of the tests before others holds
pub first_among : (tests others : List (Bool × Rule)) (r : Rule) → first_of tests ≡ Some r → first_of (tests ++ others) ≡ Some r
first_among tests others r found = first_of_both tests others ∙ ap (λ first. option_or first (first_of others)) found

-- none of the tests before others holds
pub first_behind : (tests others : List (Bool × Rule)) → first_of tests ≡ None → first_of (tests ++ others) ≡ first_of others
first_behind tests others none = first_of_both tests others ∙ ap (λ first. option_or first (first_of others)) none

-- one more test, which fails
pub first_after : (here : Bool) (r : Rule) (tests : List (Bool × Rule)) → here ≡ false → first_of ((here, r) ∷ tests) ≡ first_of tests
first_after here r tests fails = ap (λ (b : Bool). first_of ((b, r) ∷ tests)) fails

-- none of V1 to V15 is broken
pub first_from_v16 : (b1 b2 b3 b4 b5 b6 b7 b8 b9 b10 b11 b12 b13 b14 b15 : Bool) (tests : List (Bool × Rule)) → b1 ≡ false → b2 ≡ false → b3 ≡ false → b4 ≡ false → b5 ≡ false → b6 ≡ false → b7 ≡ false → b8 ≡ false → b9 ≡ false → b10 ≡ false → b11 ≡ false → b12 ≡ false → b13 ≡ false → b14 ≡ false → b15 ≡ false
    → first_of ((b1, rule.TimeBack) ∷ (b2, rule.LossOwed) ∷ (b3, rule.LossNotOwed) ∷ (b4, rule.LossSet) ∷ (b5, rule.SpaceGone) ∷ (b6, rule.NumberNotHigher) ∷ (b7, rule.PastWindow) ∷ (b8, rule.PastProbe) ∷ (b9, rule.PastRecovery) ∷ (b10, rule.AckUnsent) ∷ (b11, rule.TimerNotSet) ∷ (b12, rule.TimerOther) ∷ (b13, rule.TimerEarly) ∷ (b14, rule.ProbeOwed) ∷ (b15, rule.NotConfirmed) ∷ tests) ≡ first_of tests
first_from_v16 b1 b2 b3 b4 b5 b6 b7 b8 b9 b10 b11 b12 b13 b14 b15 tests e1 e2 e3 e4 e5 e6 e7 e8 e9 e10 e11 e12 e13 e14 e15 = rw (e1, e2, e3, e4, e5, e6, e7, e8, e9, e10, e11, e12, e13, e14, e15) refl
