-- What an event is.
use Rattle.std.specs.Prelude.{ℕ, codes, List, [], ◌++◌}
use Rattle.json.specs.Token.{Token}
use Rattle.qa_base.specs.declared.event.Event.{Event}
use Rattle.qa_base.specs.declared.event.Event.TheVariants.{Sent, Ack, Lost, Timer, Discard}
use Rattle.qa_base.specs.declared.event.Event.TheVariants.{Confirmed, Keys, Metrics}
use Rattle.qa_base.specs.declared.event.SentPacket.{SentPacket}
use Rattle.qa_base.specs.declared.line_kind.LineKind.{LineKind}
use Rattle.qa_base.specs.declared.space.TimeUnit.{TimeUnit}
use Rattle.qa_base.specs.values.Events.{time_of}
use Rattle.qa_base.specs.values.Kinds.{event_kind}
use Rattle.qa_base.specs.values.Names.{kind_name, line_kind_name, space_name, unit_name}
use Rattle.qa_explain.specs.members.Object.{amount_at, number_at, string_at}

-- the kind of an event, and its time
unfoldable pub moment : TimeUnit → LineKind → ℕ → List Token
moment u kind time =
    string_at (codes "event") (line_kind_name kind) ++ amount_at (codes "time") (unit_name u) time

unfoldable pub packet : SentPacket → List Token
packet p =
    string_at (codes "space") (space_name p.space) ++ number_at (codes "number") p.number
    ++ amount_at (codes "size") (codes "bytes") p.size

-- what it says beside
unfoldable pub object_of : Event → List Token
object_of (Sent p) = packet p
object_of (Ack ack) = string_at (codes "space") (space_name ack.space)
object_of (Lost time space ranges) = string_at (codes "space") (space_name space)
object_of (Timer time kind space) =
    string_at (codes "kind") (kind_name kind) ++ string_at (codes "space") (space_name space)
object_of (Discard time space) = string_at (codes "space") (space_name space)
object_of (Confirmed time) = []
object_of (Keys time) = []
object_of (Metrics time values) = []

unfoldable pub subject : TimeUnit → Event → List Token
subject u e = moment u (event_kind e) (time_of e) ++ object_of e
