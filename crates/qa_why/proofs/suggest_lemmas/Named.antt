-- What a string names in two lists of names.
use Rattle.std.proofs.Common.{◌≡◌, true, false, ℕ, List, [], ◌∷◌, ◌++◌, Some, refl}
use Rattle.std.specs.Option.{option_or}
use Rattle.std.specs.Prelude.{bytes_eq, if◌then◌else◌}
use Rattle.qa_base.specs.values.Names.{named}

pub named-append : {A : Type 0} (words others : List (List ℕ × A)) (text : List ℕ) → named (words ++ others) text ≡ option_or (named words text) (named others text)
named-append [] others text = refl
named-append (word ∷ words) others text =
    elim (bytes_eq text word.0) as (λ b. (if b then Some word.1 else named (words ++ others) text) ≡ option_or (if b then Some word.1 else named words text) (named others text)) [
      | true ↦ refl
      | false ↦ named-append words others text
    ]
