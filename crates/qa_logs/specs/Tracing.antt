-- The second reading of the records of a log, and the lines of its trace, as they are given away.
use Rattle.std.specs.Prelude.{◌≡◌, ◌⊎◌, ◌||◌, ℕ, Bool, false, List, [], Option, None}
use Rattle.std.specs.Prelude.{Some, true, if◌then◌else◌}
use Rattle.std.specs.Option.{is_some}
use Rattle.json.specs.Json.{Json, document}
use Rattle.qa_convert.specs.Passing.{Closes}
use Rattle.qa_convert.specs.Taking as taking
use Rattle.qa_convert.specs.Taking.{Progress}
use Rattle.qa_convert.specs.Telling.{told}
use Rattle.qa_logs.specs.Cutting as cutting
use Rattle.qa_logs.specs.Cutting.{Given}
use Rattle.qa_logs.specs.Records.{Begins, Records, TakesText}
use Rattle.qa_logs.specs.Whole.{TakesLog}
use Rattle.qa_logs.specs.declared.cutting.Cutter.{Cutter}
use Rattle.qa_logs.specs.declared.cutting.Form.{Form}
use Rattle.qa_logs.specs.declared.cutting.Wants.{Wants}
use Rattle.qa_logs.specs.declared.log.Log.{Log}
use Rattle.qa_logs.specs.declared.tracing.Written.{Written}

-- ---- records

-- the line of the header, the lines that were written, and how far the log is read
abbrev pub Second : Type 0
Second = List ℕ × List ℕ × Progress

abbrev pub records_of : Written → Records Second
records_of w = record {
  reading = w.second;
  torn = w.unread.torn;
  trace = w.trace;
  is_at_head = w.is_at_head;
}

-- the lines of a record were written
abbrev pub WritesRecord : Given → Second → Second → Type 0
WritesRecord t old new = (new.0 ≡ old.0) × (j : Json) × (document t.bytes ≡ Some j)
    × taking.Takes j t.place old.2 (told old.1) new.2 (told new.1)

-- a text was passed over
abbrev pub SkipsText : Given → Bool → Second → Second → Type 0
SkipsText t is_report old new = (new.0 ≡ old.0)
    × taking.TakesUnread t.place is_report old.2 (told old.1) new.2 (told new.1)

-- a text was taken, and its lines were written
abbrev pub WritesText : Written → Given → Wants → Written → Type 0
WritesText old t wants new =
    TakesText WritesRecord SkipsText t (records_of old) wants (records_of new)

-- the last lines of a log were written, which is torn off if this or one of its texts says so
pub record WritesLast (is_torn : Bool) (old new : Written) : Type 0 where
  pub line : new.second.0 ≡ old.second.0
  pub closes : Closes old.second.2.rules (is_torn || is_some old.unread.torn) old.second.2.waits
      old.second.2.held old.second.2.ready (told old.second.1) (told new.second.1)

-- ---- lines

-- whether the line of the header was not given away yet, what is left of the log, whether it is
-- torn off so far as it is one object, and the records that were written
pub record Traced : Type 0 where
  pub has_header : Bool
  pub cutter : Option Cutter
  pub is_torn : Bool
  pub records : Written

-- nothing of the trace was given away, and nothing of the log was read for the second time
pub record Starts (log : Log) (number : ℕ) (second : Second) (t : Traced) : Type 0 where
  pub has_header : t.has_header ≡ true
  pub cutter : t.cutter ≡ Some (cutting.fresh log.form)
  pub is_torn : t.is_torn ≡ is_some log.torn_at
  pub records : Begins log.form number second (records_of t.records)

-- what is given away next: the header by itself, and then the lines of events
abbrev pub shown : Traced → List ℕ
shown t = if t.has_header then t.records.second.0 else t.records.second.1

-- once that is given away
abbrev pub given : Traced → Traced
given t = record t {
  has_header = false;
  records = record t.records {
    second = (
      t.records.second.0,
      (if t.has_header then t.records.second.1 else []),
      t.records.second.2,
    );
  };
}

-- the next part of the log came, and the texts that end in it were taken
pub record Feeds (old : Traced) (part : List ℕ) (wants : Wants) (new : Traced) : Type 0 where
  pub has_header : new.has_header ≡ old.has_header
  pub is_torn : new.is_torn ≡ old.is_torn
  pub takes : cutting.Feeds WritesText old.cutter part old.records new.cutter new.records wants

-- the lines that were written may be given away
abbrev pub MayGive : Traced → Traced → Type 0
MayGive old new = (new ≡ old) ⊎ (new ≡ given old)

-- the next part came, and lines may be given away before it
abbrev pub FeedsNext : Traced → List ℕ → Wants → Traced → Type 0
FeedsNext old part wants new =
    (before : Traced) × MayGive old before × Feeds before part wants new

-- the lines of events were given away, or those of the header, or none
abbrev pub GivesAway : Written → Written → Type 0
GivesAway old new = (new ≡ old)
    ⊎ (new ≡ record old { second = (old.second.0, [], old.second.2) })

-- the texts of a log of these bytes were taken, and their lines were written
abbrev pub Writes : Form → List ℕ → Written → Written → Type 0
Writes form log old new = TakesLog WritesText GivesAway form log old new

-- the log ended: the texts that were left were taken, and its last lines were written
pub record Closed (old new : Traced) : Type 0 where
  pub has_header : new.has_header ≡ old.has_header
  pub cutter : new.cutter ≡ None
  pub last : Written
  pub takes : cutting.Ends WritesText old.cutter old.records last
  pub writes : WritesLast old.is_torn last new.records
