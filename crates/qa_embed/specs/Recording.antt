-- The text that is kept of what a session is handed.
use Rattle.std.specs.Prelude.{◌≡◌, ◌++◌, ℕ, Bool, true, false, List, [], Option, Some, None}
use Rattle.qa_check.specs.Auditor.{Audit, Audits}
use Rattle.qa_check.specs.Standing.{IsLineOf, of_ledger}
use Rattle.qa_format.specs.declared.line.Line.{Line}
use Rattle.qa_format.specs.format.Lines.{with_lf}
use Rattle.qa_sender.specs.Running.{State, IsAfter}
use Rattle.qa_embed.specs.Session.{IsFedBy}

-- one text is kept with this behind it, or none any more
abbrev pub Grows : List ℕ → Option (List ℕ) → Option (List ℕ) → Type 0
Grows piece old None = Unit {0}
Grows piece None (Some new) = ⊥
Grows piece (Some old) (Some new) = new ≡ old ++ piece

abbrev pub GrowsIf : Bool → List ℕ → Option (List ℕ) → Option (List ℕ) → Type 0
GrowsIf true piece old new = Grows piece old new
GrowsIf false piece old new = new ≡ old

-- with a line behind it that says this
abbrev pub GrowsByLine : Line → Option (List ℕ) → Option (List ℕ) → Type 0
GrowsByLine x old None = Unit {0}
GrowsByLine x None (Some new) = ⊥
GrowsByLine x (Some old) (Some new) = (l : List ℕ) × IsLineOf x l × (new ≡ old ++ with_lf l)

abbrev pub GrowsByLineIf : Bool → Line → Option (List ℕ) → Option (List ℕ) → Type 0
GrowsByLineIf true x old new = GrowsByLine x old new
GrowsByLineIf false x old new = new ≡ old

-- nothing is kept of what is handed in, or nothing yet
abbrev pub IsOffOrEmpty : Option (List ℕ) → Type 0
IsOffOrEmpty None = Unit {0}
IsOffOrEmpty (Some bytes) = bytes ≡ []

-- what is kept was fed to this audit
abbrev pub RecordsFed : Audit State → Option (List ℕ) → Type 0
RecordsFed audit None = Unit {0}
RecordsFed audit (Some bytes) = Audits (of_ledger IsAfter) audit bytes

-- what is kept was handed to a session
abbrev pub Records : Bool → Audit State → Option (List ℕ) → Type 0
Records finished audit None = Unit {0}
Records finished audit (Some bytes) = IsFedBy finished audit bytes
