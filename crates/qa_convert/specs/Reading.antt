-- What the records of a log say, one after another: the events of a record by the head of the log,
-- the value j of the record, its place, and how far the log is read.
use Rattle.std.specs.Prelude.{◌≡◌, ◌⊎◌, ◌+◌, ◌-◌, ◌^◌, ℕ, ℤ, Bool, true, false, List, [], ◌∷◌}
use Rattle.std.specs.Prelude.{map, min, pos, Option, Some, None, Ok, if◌then◌else◌}
use Rattle.json.specs.Json.{Json}
use Rattle.json.specs.Find.{Finds}
use Rattle.qa_qlog.specs.Losses.{packets}
use Rattle.qa_qlog.specs.Records.{data_of, event_of, group_of, path_of}
use Rattle.qa_qlog.specs.declared.heads.Head.{Head}
use Rattle.qa_qlog.specs.declared.names.EventName.{EventName}
use Rattle.qa_qlog.specs.declared.names.EventName.TheVariants as name
use Rattle.qa_qlog.specs.declared.records.EventHead.{EventHead}
use Rattle.qa_qlog.specs.declared.times.Unit.{Unit}
use Rattle.qa_convert.specs.Clocks.{begun, last_after, shown}
use Rattle.qa_convert.specs.Connections.{Numbering, is_of_chosen, numbered, numbering_of}
use Rattle.qa_convert.specs.Said.{Says, SaysLost}
use Rattle.qa_convert.specs.declared.clock.Clock.{Clock}
use Rattle.qa_convert.specs.declared.event.At.{At}
use Rattle.qa_convert.specs.declared.event.LoggedEvent.{LoggedEvent}
use Rattle.qa_convert.specs.declared.event.Said.{Said}
use Rattle.qa_convert.specs.declared.event.Said.TheVariants as said
use Rattle.qa_convert.specs.declared.packet.LoggedPacket.{LoggedPacket}
use Rattle.qa_convert.specs.declared.place.Place.{Place}
use Rattle.qa_convert.specs.declared.surveying.Cursor.{Cursor}
use Rattle.qa_convert.specs.declared.surveying.Named.{Named}

-- ---- losses

-- what is kept of a lost packet of which a record names the header h alone
abbrev pub SaysLoss : Json → Said → Type 0
SaysLoss h s = SaysLost (Some h) None false s

-- one for each header, in their order
abbrev pub AreLosses : List Json → List Said → Type 0
AreLosses [] losses = losses ≡ []
AreLosses (h ∷ hs) [] = ⊥
AreLosses (h ∷ hs) (s ∷ ss) = SaysLoss h s × AreLosses hs ss

-- what is kept of a `packets_lost` with this data
abbrev pub SaysLosses : Option Json → List Said → Type 0
SaysLosses d losses = (hs : List Json) × (packets d ≡ Ok hs) × AreLosses hs losses

-- ---- sizes

-- the same packet, whose record has no size, with a size that something else says
pub record IsGuessed (old new : LoggedPacket) : Type 0 where
  pub none : old.size ≡ None
  pub size : ℕ
  pub room : Bool
  pub is : new ≡ record old { size = Some size; is_size_guessed = true; keeps_room = room }

abbrev pub GivesSize : LoggedPacket → LoggedPacket → Type 0
GivesSize old new = (new ≡ old) ⊎ IsGuessed old new

-- a packet that was sent, with a size that its record does not have
pub record SaysGuessed (unit : Unit) (n : EventName) (d : Option Json) (s : Said) : Type 0 where
  pub read : LoggedPacket
  pub says : Says unit n d (said.Sent read)
  pub given : LoggedPacket
  pub guessed : IsGuessed read given
  pub is : s ≡ said.Sent given

-- what is kept of a record is what it says, but for a size that it does not have
abbrev pub SaysSized : Unit → EventName → Option Json → Said → Type 0
SaysSized unit n d s = Says unit n d s ⊎ SaysGuessed unit n d s

-- ---- where and when a record is

-- the clock before the first record
abbrev pub clock_before : Head → Clock
clock_before head = record { form = head.form; start = None; last = pos 0 }

-- the clock once a record has said this time
abbrev pub ticked : Clock → ℤ → Clock
ticked clock time = record {
  form = clock.form;
  start = Some (begun clock.form time clock.start);
  last = last_after clock.form time clock.start clock.last;
}

-- what is no event has no time
abbrev pub clock_after : Clock → Option EventHead → Clock
clock_after clock None = clock
clock_after clock (Some head) = ticked clock head.time

-- of the next record, up to the end of 64 bits
abbrev pub next_index : ℕ → ℕ
next_index index = min (index + 1) (2 ^ 64 - 1)

-- what is no event has the time of the record before
abbrev pub at_of : Place → ℕ → Clock → Option EventHead → At
at_of place index clock event = record {
  place = place;
  index = index;
  time = shown (clock_after clock event).last;
}

-- ---- the event of a record

-- its name, if it is one that is converted
abbrev pub name_of : Option EventHead → Option EventName
name_of None = None
name_of (Some head) = head.name

-- the connections once a record is read: one that is no event that is converted names none
abbrev pub connections_after : Head → Json → Option EventName → Numbering → Numbering
connections_after head j None old = old
connections_after head j (Some n) old =
    numbered old (group_of head.fields j) (path_of (data_of head.fields j))

-- whether a record is of the connection that is converted
abbrev pub is_chosen : Head → Json → Numbering → Bool
is_chosen head j old = is_of_chosen old (group_of head.fields j) (path_of (data_of head.fields j))

-- the event of a record of another connection is left out
abbrev pub chosen_only : Head → Json → Numbering → Option EventName → Option EventName
chosen_only head j old None = None
chosen_only head j old (Some n) = if is_chosen head j old then Some n else None

-- an event that is converted, with its data; none if the record is no such event
abbrev pub FindsEvent : Head → Json → At → Option EventName → Option Named → Type 0
FindsEvent head j at n None = n ≡ None
FindsEvent head j at n (Some found) =
    (n ≡ Some found.name) × (found.at ≡ at) × Finds found.object (data_of head.fields j)

-- one more record is read
pub record Reads (head : Head) (j : Json) (place : Place) (old new : Cursor) (found : Option Named)
    : Type 0 where
  pub event : Option EventHead
  pub says : event_of head.fields head.unit j ≡ Ok event
  pub index : new.index ≡ next_index old.index
  pub clock : new.clock ≡ clock_after old.clock event
  pub connections : numbering_of new.connections
      ≡ connections_after head j (name_of event) (numbering_of old.connections)
  pub finds : FindsEvent head j (at_of place old.index old.clock event)
      (chosen_only head j (numbering_of old.connections) (name_of event)) found

-- ---- the events of a record

-- what is kept of an event of this name: of a `packets_lost` all losses, of another what it says
abbrev pub SaysAll : Unit → EventName → Option Json → List Said → Type 0
SaysAll unit name.PacketsLost d all = SaysLosses d all
SaysAll unit n d all = (s : Said) × (all ≡ s ∷ []) × SaysSized unit n d s

-- what is kept of a record: nothing if it is no event that is converted
abbrev pub SaysOf : Head → Json → Option EventName → List Said → Type 0
SaysOf head j None all = all ≡ []
SaysOf head j (Some n) all = SaysAll head.unit n (data_of head.fields j) all

abbrev pub event_at : At → Said → LoggedEvent
event_at at s = record { at = at; said = s }

abbrev pub events_at : At → List Said → List LoggedEvent
events_at at all = map (event_at at) all
