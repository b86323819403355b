-- How a log that is one JSON object is cut: its records, one after another, and the skeleton, which
-- is the log without them.
use Rattle.std.specs.Prelude.{◌||◌, ◌&&◌, ◌+◌, ◌++◌, ℕ, Bool, true, false, List, [], ◌∷◌}
use Rattle.std.specs.Prelude.{length, take, drop, nat_le, nat_eq, codes, Option, Some, None, Result}
use Rattle.std.specs.Prelude.{Ok, Err, if◌then◌else◌}
use Rattle.std.specs.List.{starts_with}
use Rattle.qa_qlog.specs.declared.cutter.CutFault.{CutFault}
use Rattle.qa_qlog.specs.declared.cutter.CutFault.TheVariants as cause
use Rattle.qa_qlog.specs.declared.outer.Level.{Level}
use Rattle.qa_qlog.specs.declared.outer.Level.TheVariants.{Outside, Document, Traces, Trace, Events}
use Rattle.qa_qlog.specs.declared.outer.Part.TheVariants as part
use Rattle.qa_qlog.specs.declared.outer.Position.{Position}
use Rattle.qa_qlog.specs.Outer.{after, at_part, is_end, is_events, is_open, is_outside, is_reading}
use Rattle.qa_qlog.specs.Outer.{is_scalar, is_whole, is_within, name_of, next, start}

-- the most bytes that a record has: 1 MiB
abbrev pub record_limit : ℕ
record_limit = 1048576

-- the most bytes that a skeleton has: 16 MiB
abbrev pub skeleton_limit : ℕ
skeleton_limit = 16777216

-- a record, the byte at which it begins, from 0, and the number of its trace, from 1
pub record Cut : Type 0 where
  pub trace : ℕ
  pub place : ℕ
  pub bytes : List ℕ

-- what was read of a log
pub record State : Type 0 where
  pub position : Position
  -- how many bytes
  pub at : ℕ
  -- the byte at which the key or the value begins that is being read
  pub begin : ℕ
  -- how many traces began
  pub traces : ℕ
  -- the bytes of the record that is being read
  pub text : List ℕ
  pub skeleton : List ℕ
  -- how many bytes of the skeleton are whole members
  pub whole : ℕ
  -- how many bytes the skeleton had before the last key
  pub key : ℕ

abbrev pub unread : State
unread = record {
  position = start;
  at = 0;
  begin = 0;
  traces = 0;
  text = [];
  skeleton = [];
  whole = 0;
  key = 0;
}

-- ---- one byte

-- what a byte does: it goes on, or it ends a record, or it may not stand there
pub data Turn : Type 0 where
  Goes : State → Turn
  Gives : State → Turn
  Stops : CutFault → Turn

-- the last key is the one that counts
abbrev pub is_named : State → Bool
is_named s = starts_with nat_eq (drop s.key s.skeleton) (name_of s.position.level)

abbrev pub begins_trace : Level → Level → Bool
begins_trace Traces Trace = true
begins_trace _ _ = false

-- one more byte was read
abbrev pub moved_to : State → Position → State
moved_to s p = record s {
  position = p;
  at = next s.at;
  begin = if is_reading s.position.part then s.begin else s.at;
  traces = if begins_trace s.position.level p.level then next s.traces else s.traces;
  text = [];
}

-- it is a byte of the skeleton
abbrev pub kept : State → Position → ℕ → State
kept s p b = record (moved_to s p) {
  skeleton = s.skeleton ++ b ∷ [];
  whole = if is_whole p.part then length s.skeleton + 1 else s.whole;
  key = if is_open s.position.part then length s.skeleton else s.key;
}

-- it is a byte of a record
abbrev pub added : State → Position → ℕ → State
added s p b = record (moved_to s p) { text = s.text ++ b ∷ [] }

abbrev pub keep : State → Position → ℕ → Turn
keep s p b =
    if nat_le skeleton_limit (length s.skeleton) then Stops (cause.SkeletonTooLong s.at)
    else Goes (kept s p b)

abbrev pub add : State → Position → ℕ → Turn
add s p b =
    if nat_le record_limit (length s.text) then Stops (cause.RecordTooLong s.begin)
    else if is_within p.part then Goes (added s p b)
    else Gives (added s p b)

-- between two records are a comma and white space
abbrev pub listed : State → Position → ℕ → Turn
listed s p b =
    if is_within s.position.part || is_within p.part then add s p b else Goes (moved_to s p)

abbrev pub turned : State → Option Position → ℕ → Turn
turned s None b = Stops (cause.Unexpected s.at)
turned s (Some p) b =
    if is_events s.position.level && is_events p.level then listed s p b else keep s p b

abbrev pub turn : State → ℕ → Turn
turn s b = turned s (after s.position (is_named s) b) b

-- ---- all bytes

-- the records, and what was read at the end, or the fault
abbrev pub Cuts : Type 0
Cuts = List Cut × Result State CutFault

abbrev pub put : Cut → Cuts → Cuts
put cut cuts = (cut ∷ cuts.0, cuts.1)

-- the record that was read
abbrev pub cut_of : State → Cut
cut_of s = record { trace = s.traces; place = s.begin; bytes = s.text }

abbrev pub emptied : State → State
emptied s = record s { text = [] }

-- a number, `true`, `false` or `null` ends before this byte
abbrev pub is_ended : State → ℕ → Bool
is_ended s b = is_scalar s.position.part && is_end b

abbrev pub ended : State → State
ended s = record s { position = at_part s.position part.Behind; whole = length s.skeleton }

abbrev pub before : State → ℕ → (State → Cuts) → Cuts
before s b rest =
    if is_ended s b then
    (if is_events s.position.level then put (cut_of s) (rest (emptied (ended s)))
    else rest (ended s))
    else rest s

abbrev pub behind : Turn → (State → Cuts) → Cuts
behind (Goes s) rest = rest s
behind (Gives s) rest = put (cut_of s) (rest (emptied s))
behind (Stops fault) rest = ([], Err fault)

abbrev pub cuts : State → List ℕ → Cuts
cuts s [] = ([], Ok s)
cuts s (b ∷ bs) = before s b (λ t. behind (turn t b) (λ u. cuts u bs))

-- ---- the skeleton

-- what closes the containers that are open
abbrev pub closers : Level → List ℕ
closers Outside = []
closers Document = codes "}"
closers Traces = codes "]}"
closers Trace = codes "}]}"
closers Events = codes "]}]}"

-- a log that ends here is torn off, unless its object is whole: at the key or the value that is
-- being read, or at its end
abbrev pub torn_at : State → ℕ
torn_at s = if is_reading s.position.part then s.begin else s.at

abbrev pub torn : State → List ℕ × Option ℕ
torn s = (take s.whole s.skeleton ++ closers s.position.level, Some (torn_at s))

abbrev pub outside : State → Result (List ℕ × Option ℕ) CutFault
outside s =
    if is_open s.position.part then Err (cause.Unexpected s.at) else Ok (s.skeleton, None)

-- the skeleton of a log that ends here, and where it is torn off
abbrev pub skeleton_of : State → Result (List ℕ × Option ℕ) CutFault
skeleton_of s = if is_outside s.position.level then outside s else Ok (torn s)

abbrev pub ended_by : Result State CutFault → Result (List ℕ × Option ℕ) CutFault
ended_by (Ok s) = skeleton_of s
ended_by (Err fault) = Err fault

-- the records of a log, and its skeleton and where it is torn off, or the fault
abbrev pub cuts_of : List ℕ → List Cut × Result (List ℕ × Option ℕ) CutFault
cuts_of log = ((cuts unread log).0, ended_by (cuts unread log).1)

-- ---- what is left of a log

-- what was read of a log, the bytes that were fed and not read yet, and the error with which it
-- failed
pub record Uncut : Type 0 where
  pub state : State
  pub bytes : List ℕ
  pub refused : Option CutFault

abbrev pub empty : Uncut
empty = record { state = unread; bytes = []; refused = None }
