-- How the texts of a log are read one after another, in its first reading and in its second.
use Rattle.std.specs.Prelude.{◌≡◌, ◌≢◌, ◌⊎◌, ℕ, Bool, false, true, Option, None}
use Rattle.qa_logs.specs.Cutting.{Given}
use Rattle.qa_logs.specs.Unread.{DoneWith, IsNotJson}
use Rattle.qa_logs.specs.declared.cutting.Form.{Form}
use Rattle.qa_logs.specs.declared.cutting.Form.TheVariants as form
use Rattle.qa_logs.specs.declared.cutting.Wants.{Wants}
use Rattle.qa_logs.specs.declared.cutting.Wants.TheVariants.{More, Nothing}
use Rattle.qa_logs.specs.declared.unread.Instead.{Instead}
use Rattle.qa_logs.specs.declared.unread.Instead.TheVariants.{Ends, Passes}
use Rattle.qa_logs.specs.declared.unread.TornAt.{TornAt}

-- whether a log of this form has many texts
abbrev pub has_many : Form → Bool
has_many (form.Texts mark) = true
has_many form.Document = false

-- a reading of records, where the log ends before its file does, the number of the trace whose
-- records are read, and whether the next text is the head of the log
pub record Records (S : Type 0) : Type 0 where
  pub reading : S
  pub torn : Option TornAt
  pub trace : ℕ
  pub is_at_head : Bool

-- nothing of a log of this form was read: the first of many texts is its head
pub record Begins {S : Type 0} (f : Form) (number : ℕ) (start : S) (records : Records S)
    : Type 0 where
  pub reading : records.reading ≡ start
  pub torn : records.torn ≡ None
  pub trace : records.trace ≡ number
  pub is_at_head : records.is_at_head ≡ has_many f

-- what a record does, and what a text that is not JSON does and may be a report
abbrev pub Reads : Type 0 → Type 1
Reads S = Given → S → S → Type 0

abbrev pub Skips : Type 0 → Type 1
Skips S = Given → Bool → S → S → Type 0

-- a text that is not JSON was passed over, or the log ends in front of it
abbrev pub InsteadOf : {S : Type 0} → Skips S → Given → Instead → S → Wants → S → Type 0
InsteadOf skips t Ends old wants new = (wants ≡ Nothing) × (new ≡ old)
InsteadOf skips t (Passes is_report) old wants new = (wants ≡ More) × skips t is_report old new

-- a text of that trace was read, or it is not JSON
abbrev pub ReadsText : {S : Type 0} → Reads S → Skips S → Given → Records S → Wants → Records S
    → Type 0
ReadsText reads skips t old wants new =
    (reads t old.reading new.reading × (wants ≡ More) × (new.torn ≡ old.torn))
    ⊎ (IsNotJson t.bytes × (instead : Instead) × DoneWith t old.torn instead new.torn
    × InsteadOf skips t instead old.reading wants new.reading)

-- a text was passed by
abbrev pub PassesBy : {S : Type 0} → Records S → Wants → Records S → Type 0
PassesBy old wants new =
    (wants ≡ More) × (new.reading ≡ old.reading) × (new.torn ≡ old.torn)

-- a text was taken: the head and texts of other traces are passed by
pub record TakesText {S : Type 0} (reads : Reads S) (skips : Skips S) (t : Given)
    (old : Records S) (wants : Wants) (new : Records S) : Type 0 where
  pub trace : new.trace ≡ old.trace
  pub is_at_head : new.is_at_head ≡ false
  pub head : old.is_at_head ≡ true → PassesBy old wants new
  pub other : t.trace ≢ old.trace → PassesBy old wants new
  pub own : old.is_at_head ≡ false → t.trace ≡ old.trace → ReadsText reads skips t old wants new
