-- The first reading of a log: which records are read, and what they say of the whole log.
use Rattle.std.specs.Prelude.{◌≡◌, ℕ, List, Option, Ok}
use Rattle.json.specs.Json.{Json}
use Rattle.qa_base.specs.declared.space.Role.{Role}
use Rattle.qa_qlog.specs.Records.{data_of, event_of}
use Rattle.qa_qlog.specs.declared.heads.Head.{Head}
use Rattle.qa_qlog.specs.declared.records.EventHead.{EventHead}
use Rattle.qa_convert.specs.Connections.{Numbering, none_named, numbering_of}
use Rattle.qa_convert.specs.Reading.{SaysOf, at_of, chosen_only, clock_after, clock_before}
use Rattle.qa_convert.specs.Reading.{connections_after, events_at, name_of, next_index}
use Rattle.qa_convert.specs.Sources.{Sources, destination_of, no_sources, sources_after}
use Rattle.qa_convert.specs.Sources.{sources_in}
use Rattle.qa_convert.specs.declared.clock.Clock.{Clock}
use Rattle.qa_convert.specs.declared.event.Said.{Said}
use Rattle.qa_convert.specs.declared.place.Place.{Place}
use Rattle.qa_convert.specs.declared.surveying.Surveying.{Surveying}

-- its head, the clock, the connections that were named, the index of the next record, and what the
-- records say of the whole log
pub record Surveyed : Type 0 where
  pub head : Head
  pub clock : Clock
  pub connections : Numbering
  pub index : ℕ
  pub sources : Sources

abbrev pub surveyed_by : Surveying → Surveyed
surveyed_by s = record {
  head = s.head;
  clock = s.cursor.clock;
  connections = numbering_of s.cursor.connections;
  index = s.cursor.index;
  sources = sources_in s.survey;
}

-- no record is read of the log of such an endpoint, and the connection of this number is chosen
abbrev pub unread : Head → ℕ → Role → Surveyed
unread head chosen role = record {
  head = head;
  clock = clock_before head;
  connections = none_named chosen;
  index = 0;
  sources = no_sources role;
}

-- the record there whose value is j was read, and what it says of the whole log is kept
pub record Surveys (j : Json) (place : Place) (old new : Surveyed) : Type 0 where
  pub event : Option EventHead
  pub says : event_of old.head.fields old.head.unit j ≡ Ok event
  pub all : List Said
  pub are : SaysOf old.head j (chosen_only old.head j old.connections (name_of event)) all
  pub is : new ≡ record {
    head = old.head;
    clock = clock_after old.clock event;
    connections = connections_after old.head j (name_of event) old.connections;
    index = next_index old.index;
    sources = sources_after (destination_of (data_of old.head.fields j))
        (events_at (at_of place old.index old.clock event) all) old.sources;
  }

-- a text that is not JSON was passed over
abbrev pub passed_over : Surveyed → Surveyed
passed_over old = record old { index = next_index old.index }
