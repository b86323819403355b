-- A key that has to be there, read first as a string or an integer and then as one of those that it may have.
use Rattle.std.proofs.Common.{◌≡◌, ◌∙◌, ℕ, List, Option, Result, Ok, Err, refl, ap}
use Rattle.std.specs.Result.{IsErrAnd}
use Rattle.serde_json.specs.Data.{Data}
use Rattle.qa_format.specs.declared.fault.Fault.{Fault}
use Rattle.qa_base.specs.declared.key.Key.{Key}
use Rattle.qa_format.specs.format.Keys.{◌>>=◌, integer, integer_from, ranged, required, required_value, string, string_among}
use Rattle.qa_base.specs.values.Limits.{in_range}

regroup : {A B C : Type 0} (r : Result A Fault) (f : A → Result B Fault) (g : B → Result C Fault) → ((r >>= f) >>= g) ≡ (r >>= λ x. (f x >>= g))
regroup (Ok x) f g = refl
regroup (Err e) f g = refl

pub string_at : {A : Type 0} (names : List ℕ → Option A) (k : Key) (d : Data) (r : Result (List ℕ) Fault) → r ≡ required string k d
    → (r >>= λ t. ranged k (names t)) ≡ required (string_among names) k d
string_at names k d r is = ap (λ s. s >>= λ t. ranged k (names t)) is ∙ regroup (required_value k d) (string k) (λ t. ranged k (names t))

pub integer_at : (lo hi : ℕ) (k : Key) (d : Data) (r : Result ℕ Fault) → r ≡ required integer k d
    → (r >>= λ n. ranged k (in_range lo hi n)) ≡ required (integer_from lo hi) k d
integer_at lo hi k d r is = ap (λ s. s >>= λ n. ranged k (in_range lo hi n)) is ∙ regroup (required_value k d) (integer k) (λ n. ranged k (in_range lo hi n))

-- a fault that is handed on
pub handed_on : {A : Type 0} (r : Result A Fault) (e : Fault) → IsErrAnd r (λ f. f ≡ e) → r ≡ Err e
handed_on (Ok x) e h = absurd h
handed_on (Err f) e h = ap Err h
