-- How many places of a byte there are.
use Rattle.std.proofs.Common.{◌≡◌, ◌∙◌, ◌+◌, ◌-◌, ◌<◌, ◌∷◌, ℕ, zero, suc, List, [], Bool, true, false, cond, count_by, filter, length, drop, slice_index, refl, sym, ap, arith, drop-cons, drop_of_length-le}
use Rattle.std.specs.Prelude.{if◌then◌else◌}
use Rattle.std.proofs.lemmas.List.Sums.{length-filter}
use Rattle.memchr.specs.Find.{places, places_from}

picked : (test : ℕ → Bool) (i x : ℕ) (later others : List ℕ) (b : Bool) → test x ≡ b → length later ≡ length (filter test others)
    → length (if b then i ∷ later else later) ≡ length (filter test (x ∷ others))
picked test i x later others true tested is = rw tested (ap suc is)
picked test i x later others false tested is = rw tested is

-- those among the n bytes from i on
from : (test : ℕ → Bool) (hay : List ℕ) (i n : ℕ) → i + n ≡ length hay → length (places_from test hay i n) ≡ length (filter test (drop i hay))
unfolding places_from
from test hay i zero all = sym (ap (λ l. length (filter test l)) (drop_of_length-le hay (omega (arith, all))))
from test hay i (suc n) all =
    let within : i < length hay = omega (arith, all) in
    let next : i + 1 ≡ suc i = omega arith in
    let later : length (places_from test hay (i + 1) n) ≡ length (filter test (drop (suc i) hay)) = from test hay (i + 1) n (omega (arith, all)) ∙ ap (λ k. length (filter test (drop k hay))) next in
    picked test i (slice_index hay i) (places_from test hay (i + 1) n) (drop (suc i) hay) (test (slice_index hay i)) refl later
    ∙ sym (ap (λ l. length (filter test l)) (drop-cons hay i 0 within))

pub counted : (test : ℕ → Bool) (hay : List ℕ) → length (places test hay) ≡ count_by test hay
counted test hay = from test hay 0 (length hay - 0) (omega arith) ∙ length-filter test hay
