-- Transport parameters (RFC 9000, section 18.2), by `ParametersSet` of
-- draft-ietf-quic-qlog-quic-events.
use Rattle.std.specs.Prelude.{ℕ, Bool, codes, nat_lt, Option, Some, None}
use Rattle.std.specs.Prelude.{Result, Ok, Err, if◌then◌else◌}
use Rattle.std.specs.Option.{option_or}
use Rattle.json.specs.Json.{Json}
use Rattle.qa_base.specs.values.Limits.{max_max_ack_delay_ns}
use Rattle.qa_qlog.specs.declared.keys.Key.TheVariants.{MaxAckDelay}
use Rattle.qa_qlog.specs.declared.keys.NoValue.{NoValue}
use Rattle.qa_qlog.specs.declared.keys.NoValue.TheVariants.{OutOfRange}
use Rattle.qa_qlog.specs.declared.times.Unit.{Unit}
use Rattle.qa_qlog.specs.Heads.{◌>>=◌}
use Rattle.qa_qlog.specs.Kinds.{is_string}
use Rattle.qa_qlog.specs.Numbers.{duration_in}
use Rattle.qa_qlog.specs.Says.{key_at}

-- later drafts have another name for it
abbrev pub owner_at : Option Json → Option Json
owner_at d = option_or (key_at (codes "owner") d) (key_at (codes "initiator") d)

abbrev pub is_of_peer : Option Json → Bool
is_of_peer d = is_string (codes "remote") (owner_at d)

abbrev pub in_limit : Option ℕ → Result (Option ℕ) NoValue
in_limit None = Ok None
in_limit (Some n) =
    if nat_lt max_max_ack_delay_ns n then Err (OutOfRange MaxAckDelay) else Ok (Some n)

abbrev pub max_ack_delay : Unit → Option Json → Result (Option ℕ) NoValue
max_ack_delay unit d = duration_in MaxAckDelay unit d >>= in_limit
