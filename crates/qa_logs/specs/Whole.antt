-- A log that comes in parts, from its beginning to its end, and the texts of it that are taken.
use Rattle.std.specs.Prelude.{◌≡◌, ◌⊎◌, ◌++◌, ℕ, List, [], ◌∷◌, map, false, true, Option}
use Rattle.std.specs.Prelude.{None, Result}
use Rattle.qa_qlog.specs.Cuts.{Cut, cuts_of}
use Rattle.qa_qlog.specs.Marks.{byte_of}
use Rattle.qa_qlog.specs.Texts.{Numbered, Read, texts_by}
use Rattle.qa_qlog.specs.declared.cutter.CutFault.{CutFault}
use Rattle.qa_qlog.specs.declared.texts.Mark.{Mark}
use Rattle.qa_logs.specs.Cutting.{Given, Steps, Takes, of_record, of_text}
use Rattle.qa_logs.specs.declared.cutting.Form.{Form}
use Rattle.qa_logs.specs.declared.cutting.Form.TheVariants as form
use Rattle.qa_logs.specs.declared.cutting.Wants.{Wants}
use Rattle.qa_logs.specs.declared.cutting.Wants.TheVariants.{More, Nothing}

-- parts of a log came one after another, each of which does this to a reading
abbrev pub FeedsEach : {S : Type 0} → (S → List ℕ → Wants → S → Type 0) → S → List (List ℕ) → S
    → Type 0
FeedsEach feeds = Steps (λ old part new. (wants : Wants) × feeds old part wants new)

-- what may be done between two parts, as lines are given away
abbrev pub Between : Type 0 → Type 1
Between S = S → S → Type 0

-- ---- its texts

-- texts were taken one after another, and more of them is wanted
abbrev pub TakesAll : {S : Type 0} → Takes S → Between S → S → List Given → S → Type 0
TakesAll takes between old [] new = between old new
TakesAll {S} takes between old (t ∷ ts) new = (a : S) × (b : S) × between old a
    × takes a t More b × TakesAll takes between b ts new

-- the same up to one behind which nothing is wanted
abbrev pub TakesUpTo : {S : Type 0} → Takes S → Between S → S → List Given → S → Type 0
TakesUpTo {S} takes between old ts new = (before : List Given) × (t : Given) × (a : S) × (b : S)
    × (ts ≡ before ++ t ∷ []) × TakesAll takes between old before a × takes a t Nothing b
    × between b new

-- texts that were handed on before the log ended, and those that were once it had
abbrev pub given_by : Mark → List Numbered → List Numbered → List Given
given_by mark firsts lasts = map (of_text mark false) firsts ++ map (of_text mark true) lasts

-- they are the texts of the bytes of a log of this form, in their order, none left out and none
-- twice: all of them
abbrev pub AreAllOf : Form → List ℕ → List Given → Type 0
AreAllOf (form.Texts mark) log ts = (firsts : List Numbered) × (lasts : List Numbered)
    × (texts_by (byte_of mark) log ≡ (firsts ++ lasts, None)) × (ts ≡ given_by mark firsts lasts)
AreAllOf form.Document log ts = (cuts : List Cut) × (skeleton : Result (List ℕ × Option ℕ) CutFault)
    × (cuts_of log ≡ (cuts, skeleton)) × (ts ≡ map of_record cuts)

-- the first of them
abbrev pub AreFirstOf : Form → List ℕ → List Given → Type 0
AreFirstOf (form.Texts mark) log ts = (firsts : List Numbered) × (lasts : List Numbered)
    × (more : Read) × (texts_by (byte_of mark) log ≡ ((firsts ++ lasts) ++ more.0, more.1))
    × (ts ≡ given_by mark firsts lasts)
AreFirstOf form.Document log ts = (cuts : List Cut) × (more : List Cut)
    × ((cuts_of log).0 ≡ cuts ++ more) × (ts ≡ map of_record cuts)

-- the texts of a log were taken: all of them, or the first up to one behind which nothing is wanted
abbrev pub TakesLog : {S : Type 0} → Takes S → Between S → Form → List ℕ → S → S → Type 0
TakesLog takes between f log old new = (ts : List Given)
    × ((AreAllOf f log ts × TakesAll takes between old ts new)
    ⊎ (AreFirstOf f log ts × TakesUpTo takes between old ts new))
