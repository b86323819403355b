-- What follows the last colon of a name.
use Rattle.std.proofs.Common.{◌≡◌, ◌∙◌, ◌+◌, ◌<◌, ◌≤◌, ◌∷◌, ◌||◌, ℕ, zero, suc, List, [], Bool, true, false, None, Some, length, take, drop, get_or, refl, arith, add-one, take_all, length-drop, ◌-◌}
use Rattle.std.specs.List.{list_any}
use Rattle.memchr.specs.Find.{IsLastByte, is_byte}
use Rattle.qa_qlog.specs.Names.{is_colon, without_category}

abbrev HasColonAt : List ℕ → ℕ → Type 0
HasColonAt bs k = is_colon (get_or bs k 0) ≡ true

false_unless : (b : Bool) → (b ≡ true → ⊥) → b ≡ false
false_unless true never = absurd (never refl)
false_unless false never = refl

no_colon : (bs : List ℕ) → ((k : ℕ) → k < length bs → HasColonAt bs k → ⊥) → list_any is_colon bs ≡ false
no_colon [] never = refl
no_colon (b ∷ bs) never =
    let not_here : is_colon b ≡ false = false_unless (is_colon b) (never 0 (omega arith)) in
    rw not_here (no_colon bs (λ k below. never (suc k) (omega arith)))

all_left : (bs : List ℕ) → ((k : ℕ) → k < length bs → HasColonAt bs k → ⊥) → bs ≡ without_category bs
all_left [] never = refl
all_left (b ∷ bs) never =
    let none : list_any is_colon (b ∷ bs) ≡ false = no_colon (b ∷ bs) never in
    rw none refl

some_colon : (bs : List ℕ) (n : ℕ) → n < length bs → HasColonAt bs n → list_any is_colon bs ≡ true
some_colon [] n within here = absurd (omega arith)
some_colon (b ∷ bs) zero within here = rw here refl
some_colon (b ∷ bs) (suc n) within here =
    let later : list_any is_colon bs ≡ true = some_colon bs n (omega arith) here in
    elim (is_colon b) as (λ t. (t || list_any is_colon bs) ≡ true) [ true ↦ refl | false ↦ later ]

after_last_colon : (bs : List ℕ) (n : ℕ) → n < length bs → HasColonAt bs n → ((k : ℕ) → n + 1 ≤ k → k < length bs → HasColonAt bs k → ⊥)
    → drop (suc n) bs ≡ without_category bs
after_last_colon [] n within here never = absurd (omega arith)
after_last_colon (b ∷ bs) zero within here never =
    let some : list_any is_colon (b ∷ bs) ≡ true = some_colon (b ∷ bs) 0 within here in
    rw some (all_left bs (λ k below. never (suc k) (omega arith) (omega arith)))
after_last_colon (b ∷ bs) (suc n) within here never =
    let some : list_any is_colon (b ∷ bs) ≡ true = some_colon (b ∷ bs) (suc n) within here in
    rw some (after_last_colon bs n (omega arith) here (λ k after below. never (suc k) (omega arith) (omega arith)))

pub category_cut : (name : List ℕ) (place : ℕ) → IsLastByte (is_byte 58) name (Some place)
    → take (length name - (place + 1)) (drop (place + 1) name) ≡ without_category name
category_cut name place is =
    take_all (length name - (place + 1)) (drop (place + 1) name) (omega (arith, length-drop (place + 1) name))
    ∙ rw add-one (after_last_colon name place is.0.high is.1 (λ k after below. is.0.after k after below))

pub no_category : (name : List ℕ) → IsLastByte (is_byte 58) name None → name ≡ without_category name
no_category name none = all_left name (λ k below. none k (omega arith) below)
