-- What was sent, and leave to send.
use Rattle.std.specs.Prelude.{ℕ, Bool, codes, List, ◌++◌, Option}
use Rattle.json.specs.Token.{Token}
use Rattle.qa_explain.specs.members.Object.{amount_at, flag_at, some_amount_at, some_number_at}

-- a packet number that may be absent
abbrev pub packet_number_at : List ℕ → Option ℕ → List Token
packet_number_at key n = some_number_at key n

-- an amount of bytes that may be absent
abbrev pub bytes_at : List ℕ → Option ℕ → List Token
bytes_at key n = some_amount_at key (codes "bytes") n

-- V7
unfoldable pub window_facts : ℕ → ℕ → Bool → List Token
window_facts in_flight window overshoot =
    amount_at (codes "in_flight") (codes "bytes") in_flight
    ++ amount_at (codes "window") (codes "bytes") window
    ++ flag_at (codes "window_overshoot") overshoot

-- V8
unfoldable pub probe_facts : ℕ → Option ℕ → List Token
probe_facts allowance spent =
    amount_at (codes "allowance") (codes "bytes") allowance
    ++ some_amount_at (codes "spent") (codes "bytes") spent

-- V9
abbrev pub recovery_facts : Option ℕ → List Token
recovery_facts spent = some_number_at (codes "spent_packets") spent
