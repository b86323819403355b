-- What an event is, at the head of a sentence.
use Rattle.std.specs.Prelude.{ℕ, List, ◌++◌, codes}
use Rattle.qa_base.specs.declared.event.Event.{Event}
use Rattle.qa_base.specs.declared.event.Event.TheVariants.{Sent, Ack, Lost, Timer, Discard}
use Rattle.qa_base.specs.declared.event.Event.TheVariants.{Confirmed, Keys, Metrics}
use Rattle.qa_base.specs.values.Names.{kind_name, space_name}
use Rattle.qa_explain.specs.text.Pieces.{named, numbered}

unfoldable pub subject : Event → List ℕ
subject (Sent packet) =
    numbered (codes "packet ") packet.number ++ named (codes " of ") (space_name packet.space)
subject (Ack ack) = named (codes "the acknowledgment of ") (space_name ack.space)
subject (Lost time space ranges) = named (codes "the lost line of ") (space_name space)
subject (Timer time kind space) =
    named (codes "the ") (kind_name kind) ++ named (codes " timer of ") (space_name space)
subject (Discard time space) = named (codes "the discard of ") (space_name space)
subject (Confirmed time) = codes "the confirmation of the handshake"
subject (Keys time) = codes "the line of the handshake keys"
subject (Metrics time values) = codes "the report"
