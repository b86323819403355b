-- The trace of a log that is read three times, each time part after part.
use Rattle.std.specs.Prelude.{◌≡◌, ◌⊎◌, ℕ, List}
use Rattle.qa_logs.specs.Opening as opening
use Rattle.qa_logs.specs.Opening.{Opened, unopened}
use Rattle.qa_logs.specs.Surveying as surveying
use Rattle.qa_logs.specs.Surveying.{Begun, IsAsked, Leads}
use Rattle.qa_logs.specs.Tracing.{Closed, Feeds, Traced, given, shown}
use Rattle.qa_logs.specs.Whole.{FeedsEach}
use Rattle.qa_logs.specs.declared.choosing.Request.{Request}
use Rattle.qa_logs.specs.declared.cutting.Wants.{Wants}
use Rattle.qa_logs.specs.declared.cutting.Wants.TheVariants.{More, Nothing}
use Rattle.qa_logs.specs.declared.log.Log.{Log}

-- the log was looked at in these parts, and then surveyed in those, and this is its trace, of which
-- nothing is written yet
pub record IsBegun (request : Request) (trace : Traced) : Type 0 where
  pub firsts : List (List ℕ)
  pub opened : Opened
  pub opens : FeedsEach opening.Feeds unopened firsts opened
  pub log : Log
  pub says : opening.Ends opened log
  pub begun : Begun
  pub is_asked : IsAsked log request begun
  pub seconds : List (List ℕ)
  pub surveyed : Begun
  pub surveys : FeedsEach surveying.Feeds begun seconds surveyed
  pub leads : Leads log surveyed trace

-- the next part came, or there is none
abbrev pub TakesPart : Traced → Wants → Traced → Type 0
TakesPart old wants new =
    ((part : List ℕ) × Feeds old part wants new) ⊎ ((wants ≡ Nothing) × (new ≡ old))

-- the lines so far were given away, and those of the next part were written, and those of the end
-- if no part follows or is wanted
abbrev pub GoesOn : Traced → Traced → Type 0
GoesOn old new = TakesPart (given old) More new
    ⊎ ((mid : Traced) × TakesPart (given old) Nothing mid × Closed mid new)

-- these are the lines at a point of the trace, and it went on
abbrev pub GivesLines : Traced → List ℕ → Traced → Type 0
GivesLines old lines new = (lines ≡ shown old) × GoesOn old new
