-- A test of three parts, asked one after the other.
use Rattle.std.proofs.Common.{◌≡◌, ◌&&◌, Bool, true, false, not, refl}

-- each answer is the definition's, and the first two say yes
pub asked_third : (a b d first_part second_part third_part : Bool) → a ≡ first_part → b ≡ second_part → d ≡ third_part → a ≡ true → not b ≡ true
    → not d ≡ (first_part && not second_part && not third_part)
asked_third a b d first_part second_part third_part first second third is none = rw (← first, ← second, ← third, is, none) refl

-- the second says no
pub no_by_second : (a b value first_part second_part third_part : Bool) → a ≡ first_part → b ≡ second_part → value ≡ not b → a ≡ true → value ≡ false
    → value ≡ (first_part && not second_part && not third_part)
no_by_second a b value first_part second_part third_part first second both is none = rw (none, ← first, ← second, is, ← both, none) refl

-- the first says no
pub no_by_first : (a value first_part second_part third_part : Bool) → a ≡ first_part → a ≡ false → value ≡ false → value ≡ (first_part && not second_part && not third_part)
no_by_first a value first_part second_part third_part first is none = rw (none, ← first, is) refl

-- the first two say yes
pub third_of : (first second third : Bool) → first ≡ true → second ≡ true → third ≡ (first && second && third)
third_of first second third is so = rw (is, so) refl

pub behind_two : (first second third : Bool) → (first && second) ≡ true → third ≡ (first && second && third)
behind_two true true third so = refl
behind_two true false third so = cc
behind_two false second third so = cc
