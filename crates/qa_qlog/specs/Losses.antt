-- What records say beside packets that are lost, that a probe timeout sent, and of what limits a
-- sender: `PacketLost`, `PacketSent` and `CongestionStateUpdated` of
-- draft-ietf-quic-qlog-quic-events.
use Rattle.std.specs.Prelude.{Bool, List, codes, Option, Some, None, Result, Err}
use Rattle.json.specs.Json.{Json}
use Rattle.qa_qlog.specs.declared.keys.Key.TheVariants.{Packets}
use Rattle.qa_qlog.specs.declared.keys.NoValue.{NoValue}
use Rattle.qa_qlog.specs.declared.keys.NoValue.TheVariants.{Missing}
use Rattle.qa_qlog.specs.Frames.{objects_in}
use Rattle.qa_qlog.specs.Kinds.{is_string}
use Rattle.qa_qlog.specs.Says.{key_at}

abbrev pub packets_at : Option Json → Result (List Json) NoValue
packets_at None = Err (Missing Packets)
packets_at (Some j) = objects_in Packets j

-- the headers of the packets that a `packets_lost` names
abbrev pub packets : Option Json → Result (List Json) NoValue
packets d = packets_at (key_at (codes "packets") d)

-- what a probe sends again stays in flight
abbrev pub is_repeated : Option Json → Bool
is_repeated d = is_string (codes "pto_expired") (key_at (codes "trigger") d)

abbrev pub is_probe : Option Json → Bool
is_probe d = is_string (codes "pto_probe") (key_at (codes "trigger") d)

abbrev pub is_application_limited : Option Json → Bool
is_application_limited d = is_string (codes "application_limited") (key_at (codes "new") d)
