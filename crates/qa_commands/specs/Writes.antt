-- What was written of a text, and whether the writer failed.
use Rattle.std.specs.Prelude.{◌≡◌, ℕ, Bool, true, false, List, Option}
use Rattle.std.specs.Io.KnownBytes.{Appends}
use Rattle.qa_check.specs.Failures.{failures_after}
use Rattle.qa_check.specs.Writing.{Begins}

-- all of the text was written, or a beginning of it by a writer that failed
abbrev pub Wrote : Bool → Option (List ℕ) → Option (List ℕ) → List ℕ → Type 0
Wrote false old new text = Appends old new text
Wrote true old new text = Begins old new text

-- the same by a writer that counts its failures, of which there was one or none
pub record Writes (failed : Bool) (old new : Option (List ℕ)) (count count' : ℕ)
    (text : List ℕ) : Type 0 where
  pub wrote : Wrote failed old new text
  pub counted : count' ≡ failures_after failed count
