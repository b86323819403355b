-- The head of a record: its name, its time and its data, wherever its draft has them.
use Rattle.std.specs.Prelude.{ℕ, ℤ, pos, List, [], ◌∷◌, codes, Option, Some, None, Result, Ok}
use Rattle.std.specs.Prelude.{option_map, if◌then◌else◌}
use Rattle.std.specs.Option.{option_or, unwrap_or}
use Rattle.json.specs.Json.{Json, Items, no_items, item, Members, no_members, member}
use Rattle.json.specs.Find.{get, get_member, as_str, as_number, as_array}
use Rattle.qa_qlog.specs.declared.records.EventHead.{EventHead}
use Rattle.qa_qlog.specs.declared.times.NoTime.{NoTime}
use Rattle.qa_qlog.specs.declared.times.Unit.{Unit}
use Rattle.qa_qlog.specs.Heads.{◌>>=◌}
use Rattle.qa_qlog.specs.Names.{named}
use Rattle.qa_qlog.specs.Says.{says_at, is_given, is_object, key_at, text_at}
use Rattle.qa_qlog.specs.Times.{time}

-- ---- keys

-- items as members whose keys are the fields, as far as there are both
abbrev pub zipped : List (List ℕ) → Items → Members
zipped [] js = no_members
zipped (f ∷ fs) no_items = no_members
zipped (f ∷ fs) (item j js) = member f j (zipped fs js)

abbrev pub in_list : List (List ℕ) → List ℕ → Option Items → Option Json
in_list fields key None = None
in_list fields key (Some js) = get_member key (zipped fields js)

-- what a record says at a key: a record is an object, or a list with a value for each field
abbrev pub at_key : List (List ℕ) → List ℕ → Json → Option Json
at_key fields key j = option_or (get key j) (in_list fields key (as_array j))

-- ---- the name

abbrev pub or_else : Option Json → Option Json → Option Json
or_else o p = if says_at o then o else p

-- drafts have three keys for it
abbrev pub name_at : List (List ℕ) → Json → Option Json
name_at fields j = or_else (at_key fields (codes "name") j)
    (or_else (at_key fields (codes "event") j) (at_key fields (codes "event_type") j))

-- ---- the time

-- the first drafts have it at a key that names its form
abbrev pub delta_at : List (List ℕ) → Json → Option Json
delta_at fields j = option_or (at_key fields (codes "delta") j)
    (option_or (at_key fields (codes "delta_time") j)
    (at_key fields (codes "relative_to_previous_event") j))

abbrev pub relative_at : List (List ℕ) → Json → Option Json
relative_at fields j = option_or (at_key fields (codes "relative") j)
    (option_or (at_key fields (codes "relative_time") j)
    (at_key fields (codes "relative_to_epoch") j))

abbrev pub absolute_at : List (List ℕ) → Json → Option Json
absolute_at fields j = option_or (at_key fields (codes "absolute") j)
    (at_key fields (codes "time") j)

abbrev pub named_at : List (List ℕ) → Json → Option Json
named_at fields j =
    option_or (delta_at fields j) (option_or (relative_at fields j) (absolute_at fields j))

abbrev pub time_at : List (List ℕ) → Json → Option Json
time_at fields j =
    if is_given (at_key fields (codes "time") j) then at_key fields (codes "time") j
    else named_at fields j

-- a number, which may be in a string; no other value is a time, nor are true and false
abbrev pub written : Json → List ℕ
written j = unwrap_or (option_or (as_number j) (as_str j)) []

-- 0 if there is none
abbrev pub time_of : Unit → Option Json → Result ℤ NoTime
time_of unit None = Ok (pos 0)
time_of unit (Some j) = time unit (written j)

-- ---- the head

abbrev pub headed : Unit → Option Json → Option (List ℕ) → Result (Option EventHead) NoTime
headed unit at None = Ok None
headed unit at (Some name) =
    time_of unit at >>= λ nanoseconds. Ok (Some (record {
      name = named name;
      time = nanoseconds;
    }))

-- the name and the time that a record says; None if it has no name, and so is no event. The time is
-- as it stands there: of a delta, what has passed since the event before
abbrev pub event_of : List (List ℕ) → Unit → Json → Result (Option EventHead) NoTime
event_of fields unit j = headed unit (time_at fields j) (text_at (name_at fields j))

abbrev pub object_only : Option Json → Option Json
object_only None = None
object_only (Some j) = if is_object j then Some j else None

-- the object that a record has for its data
abbrev pub data_of : List (List ℕ) → Json → Option Json
data_of fields j = object_only (at_key fields (codes "data") j)

-- ---- connections

-- the group of a record, by which a log tells connections apart
abbrev pub group_of : List (List ℕ) → Json → Option (List ℕ)
group_of fields j = option_map written (at_key fields (codes "group_id") j)

-- the path of an event in multipath QUIC (draft-ietf-quic-multipath)
abbrev pub path_of : Option Json → Option (List ℕ)
path_of d = option_map written (key_at (codes "path_id") d)
