-- The kind of a line that says an event, by what stands at its key `event`.
use Rattle.qa_base.specs.declared.event.Event.{Event}
use Rattle.qa_base.specs.declared.event.Event.TheVariants.{Sent, Ack, Lost, Timer, Discard}
use Rattle.qa_base.specs.declared.event.Event.TheVariants.{Confirmed, Keys, Metrics}
use Rattle.qa_base.specs.declared.line_kind.LineKind.{LineKind}
use Rattle.qa_base.specs.declared.line_kind.LineKind.TheVariants as kinds

abbrev pub event_kind : Event → LineKind
event_kind (Sent packet) = kinds.Sent
event_kind (Ack ack) = kinds.Ack
event_kind (Lost time space ranges) = kinds.Lost
event_kind (Timer time kind space) = kinds.Timer
event_kind (Discard time space) = kinds.Discard
event_kind (Confirmed time) = kinds.Confirmed
event_kind (Keys time) = kinds.Keys
event_kind (Metrics time values) = kinds.Metrics
