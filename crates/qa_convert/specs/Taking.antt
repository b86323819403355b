-- Records that are read one after another, and the events of them that go on: each joins those that
-- wait for their order.
use Rattle.std.specs.Prelude.{◌≡◌, ℕ, Bool, false, List, [], ◌∷◌, flat_map, Option, None, Ok}
use Rattle.std.specs.Prelude.{if◌then◌else◌}
use Rattle.json.specs.Json.{Json}
use Rattle.qa_qlog.specs.Records.{event_of}
use Rattle.qa_qlog.specs.declared.heads.Head.{Head}
use Rattle.qa_qlog.specs.declared.records.EventHead.{EventHead}
use Rattle.qa_convert.specs.Connections.{Numbering, none_named, numbering_of}
use Rattle.qa_convert.specs.Groups.{Held, at_start}
use Rattle.qa_convert.specs.Passing.{Passes, counted, waiting}
use Rattle.qa_convert.specs.Reading.{SaysOf, at_of, chosen_only, clock_after, clock_before}
use Rattle.qa_convert.specs.Reading.{connections_after, event_at, events_at, name_of, next_index}
use Rattle.qa_convert.specs.KeyLines.{no_keys}
use Rattle.qa_convert.specs.Rules.{Rules, rules_of}
use Rattle.qa_convert.specs.Sources.{Sources, exponent_of}
use Rattle.qa_convert.specs.Telling.{Told, told_in}
use Rattle.qa_convert.specs.declared.clock.Clock.{Clock}
use Rattle.qa_convert.specs.declared.converting.Converting.{Converting}
use Rattle.qa_convert.specs.declared.dialects.Dialect.{Dialect}
use Rattle.qa_convert.specs.declared.event.At.{At}
use Rattle.qa_convert.specs.declared.event.LoggedEvent.{LoggedEvent}
use Rattle.qa_convert.specs.declared.event.Said.{Said}
use Rattle.qa_convert.specs.declared.event.Said.TheVariants as said
use Rattle.qa_convert.specs.declared.groups.Group.{Group}
use Rattle.qa_convert.specs.declared.place.Place.{Place}
use Rattle.qa_convert.specs.declared.survey.Retry.{Retry}

-- how far a log is read: its head, a Retry behind which its trace begins, the clock, the
-- connections that were named, the index of the next record, the events that wait for their order,
-- those that are held in groups, the groups that are not written, and by what lines are written
pub record Progress : Type 0 where
  pub head : Head
  pub retry : Option Retry
  pub clock : Clock
  pub connections : Numbering
  pub index : ℕ
  pub waits : List LoggedEvent
  pub held : Held
  pub ready : List Group
  pub rules : Rules

abbrev pub progress_of : Converting → Progress
progress_of c = record {
  head = c.head;
  retry = c.retry;
  clock = c.cursor.clock;
  connections = numbering_of c.cursor.connections;
  index = c.cursor.index;
  waits = waiting c.events.items c.order;
  held = c.groups;
  ready = c.ready.items;
  rules = rules_of c.conversion;
}

-- no record is read, the connection of this number is converted, behind the Retry that the log
-- shows; delays, sizes, reports and limits are read as this dialect and what the log says of the
-- peer say; and nothing is told of keys and of the state
pub record Begins (h : Head) (chosen : ℕ) (d : Dialect) (said : Sources) (p : Progress)
    : Type 0 where
  pub head : p.head ≡ h
  pub retry : p.retry ≡ said.retry
  pub clock : p.clock ≡ clock_before h
  pub connections : p.connections ≡ none_named chosen
  pub index : p.index ≡ 0
  pub waits : p.waits ≡ []
  pub held : p.held ≡ at_start d.metrics_stand_before
  pub ready : p.ready ≡ []
  pub subtracts : p.rules.decoding.subtracts ≡ d.subtracts_delay
  pub is_encoded : p.rules.decoding.is_encoded ≡ d.delay_is_encoded
  pub exponent : p.rules.decoding.exponent ≡ exponent_of said
  pub limited : p.rules.decoding.limited ≡ d.limited
  pub state : p.rules.decoding.is_limited ≡ false
  pub by_growth : p.rules.by_growth ≡ d.sizes_by_growth
  pub keys : p.rules.keys ≡ no_keys

-- what its lines tell
abbrev pub told_of : Converting → Told
told_of c = told_in c.conversion.writing

-- these events went on, but for those that are left out, and nothing else did
pub record Goes (es : List LoggedEvent) (old : Progress) (before : Told) (new : Progress)
    (after : Told) : Type 0 where
  pub head : new.head ≡ old.head
  pub retry : new.retry ≡ old.retry
  pub passes : Passes old.rules old.waits old.held old.ready before
      (flat_map (counted old.retry) es) new.rules new.waits new.held new.ready after

-- the record whose value is j was read, and the events that it says went on
pub record Takes (j : Json) (place : Place) (old : Progress) (before : Told) (new : Progress)
    (after : Told) : Type 0 where
  pub event : Option EventHead
  pub says : event_of old.head.fields old.head.unit j ≡ Ok event
  pub index : new.index ≡ next_index old.index
  pub clock : new.clock ≡ clock_after old.clock event
  pub connections : new.connections
      ≡ connections_after old.head j (name_of event) old.connections
  pub all : List Said
  pub are : SaysOf old.head j (chosen_only old.head j old.connections (name_of event)) all
  pub goes : Goes (events_at (at_of place old.index old.clock event) all) old before new after

-- a text that is not JSON may be a report
abbrev pub unread_at : Bool → At → List LoggedEvent
unread_at is_report at = if is_report then event_at at said.UnreadReport ∷ [] else []

-- such a text was passed over
pub record TakesUnread (place : Place) (is_report : Bool) (old : Progress) (before : Told)
    (new : Progress) (after : Told) : Type 0 where
  pub index : new.index ≡ next_index old.index
  pub clock : new.clock ≡ old.clock
  pub connections : new.connections ≡ old.connections
  pub goes : Goes (unread_at is_report (at_of place old.index old.clock None)) old before new after
