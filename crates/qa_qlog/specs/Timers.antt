-- What a record says of the loss detection timer, by `TimerUpdated` of
-- draft-ietf-quic-qlog-quic-events.
use Rattle.std.specs.Prelude.{ℕ, Bool, List, codes, bytes_eq, Option, Some, None}
use Rattle.std.specs.Prelude.{option_and_then, if◌then◌else◌}
use Rattle.json.specs.Json.{Json}
use Rattle.qa_base.specs.declared.space.Space.{Space}
use Rattle.qa_base.specs.declared.space.Space.TheVariants.{Initial, Handshake, App}
use Rattle.qa_base.specs.declared.space.TimerKind.{TimerKind}
use Rattle.qa_base.specs.declared.space.TimerKind.TheVariants.{Loss, Pto}
use Rattle.qa_qlog.specs.Kinds.{is_string}
use Rattle.qa_qlog.specs.Says.{key_at, text_at}

abbrev pub has_expired : Option Json → Bool
has_expired d = is_string (codes "expired") (key_at (codes "event_type") d)

-- drafts name the loss timer by the packets that it awaits, or by itself
abbrev pub kind_named : List ℕ → Option TimerKind
kind_named text =
    if bytes_eq text (codes "ack") then Some Loss
    else if bytes_eq text (codes "loss") then Some Loss
    else if bytes_eq text (codes "loss_timeout") then Some Loss
    else if bytes_eq text (codes "pto") then Some Pto
    else None

abbrev pub kind : Option Json → Option TimerKind
kind d = option_and_then kind_named (text_at (key_at (codes "timer_type") d))

abbrev pub space_named : List ℕ → Option Space
space_named text =
    if bytes_eq text (codes "initial") then Some Initial
    else if bytes_eq text (codes "handshake") then Some Handshake
    else if bytes_eq text (codes "application_data") then Some App
    else if bytes_eq text (codes "application") then Some App
    else if bytes_eq text (codes "appdata") then Some App
    else if bytes_eq text (codes "app") then Some App
    else None

abbrev pub space : Option Json → Option Space
space d = option_and_then space_named (text_at (key_at (codes "packet_number_space") d))
