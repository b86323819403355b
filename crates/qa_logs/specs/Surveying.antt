-- The first reading of the records of a log.
use Rattle.std.specs.Prelude.{◌≡◌, ◌≤◌, ℕ, Bool, max, List, Option, None, Some}
use Rattle.json.specs.Json.{Json, document}
use Rattle.qa_base.specs.declared.space.Role.{Role}
use Rattle.qa_convert.specs.Headers.{IsHeaderOf}
use Rattle.qa_convert.specs.Surveying as surveying
use Rattle.qa_convert.specs.Taking as taking
use Rattle.qa_convert.specs.Telling.{nothing, told}
use Rattle.qa_convert.specs.declared.dialects.Dialect.{Dialect}
use Rattle.qa_convert.specs.declared.trace.Asked.{Asked}
use Rattle.qa_qlog.specs.declared.heads.Head.{Head}
use Rattle.qa_logs.specs.Choosing.{AreRoles, IsChosen}
use Rattle.qa_logs.specs.Cutting as cutting
use Rattle.qa_logs.specs.Cutting.{Given}
use Rattle.qa_logs.specs.Heads.{IsDialect, IsHead}
use Rattle.qa_logs.specs.Records.{Begins, Records, TakesText}
use Rattle.qa_logs.specs.Tracing as tracing
use Rattle.qa_logs.specs.Tracing.{Second, Traced}
use Rattle.qa_logs.specs.Whole.{TakesLog}
use Rattle.qa_logs.specs.declared.choosing.Chosen.{Chosen}
use Rattle.qa_logs.specs.declared.choosing.Request.{Request}
use Rattle.qa_logs.specs.declared.cutting.Cutter.{Cutter}
use Rattle.qa_logs.specs.declared.cutting.Form.{Form}
use Rattle.qa_logs.specs.declared.cutting.Wants.{Wants}
use Rattle.qa_logs.specs.declared.log.Log.{Log}
use Rattle.qa_logs.specs.declared.surveying.Surveyed.{Surveyed}

-- what is asked of a trace, how far the log is read, and what it says of the whole trace
abbrev pub First : Type 0
First = Asked × surveying.Surveyed

abbrev pub records_of : Surveyed → Records First
records_of s = record {
  reading = s.first;
  torn = s.unread.torn;
  trace = s.trace;
  is_at_head = s.is_at_head;
}

-- a record was looked at
abbrev pub SurveysRecord : Given → First → First → Type 0
SurveysRecord t old new = (new.0 ≡ old.0) × (j : Json) × (document t.bytes ≡ Some j)
    × surveying.Surveys j t.place old.1 new.1

-- a text was passed over
abbrev pub SkipsText : Given → Bool → First → First → Type 0
SkipsText t is_report old new = new ≡ (old.0, surveying.passed_over old.1)

-- a text was taken
abbrev pub SurveysText : Surveyed → Given → Wants → Surveyed → Type 0
SurveysText old t wants new =
    TakesText SurveysRecord SkipsText t (records_of old) wants (records_of new)

-- what is left of the log, which of its traces was chosen, and what was found of its records
pub record Begun : Type 0 where
  pub cutter : Option Cutter
  pub chosen : Chosen
  pub records : Surveyed

-- the next part of the log came, and the texts that end in it were taken
pub record Feeds (old : Begun) (part : List ℕ) (wants : Wants) (new : Begun) : Type 0 where
  pub chosen : new.chosen ≡ old.chosen
  pub takes : cutting.Feeds SurveysText old.cutter part old.records new.cutter new.records wants

-- nothing is done between two parts
abbrev pub Stays : Surveyed → Surveyed → Type 0
Stays old new = new ≡ old

-- the texts of a log of these bytes were taken for the first time
abbrev pub Surveys : Form → List ℕ → Surveyed → Surveyed → Type 0
Surveys form log old new = TakesLog SurveysText Stays form log old new

-- nothing of the log was read for the first time
pub record Starts (log : Log) (it : Chosen) (first : First) (s : Begun) : Type 0 where
  pub cutter : s.cutter ≡ Some (cutting.fresh log.form)
  pub chosen : s.chosen ≡ it
  pub records : Begins log.form it.trace first (records_of s.records)

-- the dialect is the one of the request, or if it has none that of the log
abbrev pub IsDialectBy : Log → ℕ → Option Dialect → Dialect → Type 0
IsDialectBy log number None dialect = IsDialect log number dialect
IsDialectBy log number (Some asked) dialect = dialect ≡ asked

-- what is asked of the trace that was chosen
pub record Asks (log : Log) (request : Request) (chosen : Chosen) (asked : Asked)
    : Type 0 where
  pub role : asked.role ≡ chosen.role
  pub dialect : IsDialectBy log chosen.trace request.dialect asked.dialect
  pub connection : asked.connection ≡ chosen.connection
  pub choices : asked.choices ≡ request.choices
  pub has_places : asked.has_places ≡ request.has_places

-- the first reading of a log of which this is asked
pub record IsAsked (log : Log) (request : Request) (s : Begun) : Type 0 where
  pub roles : List (Option Role)
  pub are_roles : AreRoles log roles
  pub is_chosen : IsChosen roles request s.chosen
  pub asked : Asked
  pub asks : Asks log request s.chosen asked
  pub head : Head
  pub is_head : IsHead log s.chosen.trace head
  pub starts :
      Starts log s.chosen (asked, surveying.unread head asked.connection asked.role) s

-- a log that names so many connections has one of this number: the only one, if it names none
abbrev pub HasConnection : ℕ → ℕ → Type 0
HasConnection count number = (1 ≤ number) × (number ≤ max count 1)

-- the log ended: the texts that were left were taken, and its second reading starts, with the
-- header that the first one gives
pub record Leads (log : Log) (old : Begun) (new : Traced) : Type 0 where
  pub last : Surveyed
  pub takes : cutting.Ends SurveysText old.cutter old.records last
  pub connection : HasConnection last.first.1.connections.count old.chosen.connection
  pub head : Head
  pub is_head : IsHead log old.chosen.trace head
  pub second : Second
  pub begins : taking.Begins head last.first.0.connection last.first.0.dialect
      last.first.1.sources second.2
  pub header :
      IsHeaderOf last.first.0 last.first.1.sources second.2.rules.decoding.unit second.0
  pub told : told second.1 ≡ nothing
  pub starts : tracing.Starts log old.chosen.trace second new
