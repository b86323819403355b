-- Thresholds by two tests.
use Rattle.std.proofs.Common.{◌≡◌, ◌+◌, ◌-◌, ℕ, max, true, false, ◌&&◌, ◌⊎◌, inl, inr, arith}
use Rattle.std.proofs.lemmas.Bool.{cases_Bool, ltb-true, ltb-false, lt-ltb, le-ltb}
use Rattle.std.specs.Prelude.{nat_lt}

-- past the later of two times by more than a limit: past each of them
late_by_tests : (limit since time d : ℕ) → (nat_lt d (time - limit) ≡ true) ⊎ (nat_lt d (time - limit) ≡ false) → (nat_lt since (time - limit) ≡ true) ⊎ (nat_lt since (time - limit) ≡ false)
    → nat_lt (max d since + limit) time ≡ (nat_lt d (time - limit) && nat_lt since (time - limit))
late_by_tests limit since time d (inl a) (inl b) =
    let first = ltb-true d (time - limit) a in
    let second = ltb-true since (time - limit) b in
    rw (a, b) (lt-ltb (max d since + limit) time (omega (arith, first, second)))
late_by_tests limit since time d (inl a) (inr b) =
    let second = ltb-false since (time - limit) b in
    rw (a, b) (le-ltb (max d since + limit) time (omega (arith, second)))
late_by_tests limit since time d (inr a) b =
    let first = ltb-false d (time - limit) a in
    rw a (le-ltb (max d since + limit) time (omega (arith, first)))

pub late_is : (limit since time d : ℕ) → nat_lt (max d since + limit) time ≡ (nat_lt d (time - limit) && nat_lt since (time - limit))
late_is limit since time d = late_by_tests limit since time d (cases_Bool (nat_lt d (time - limit))) (cases_Bool (nat_lt since (time - limit)))
