-- Of which keys a record says that they came or are gone, by `KeyType` of
-- draft-ietf-quic-qlog-quic-events.
use Rattle.std.specs.Prelude.{◌||◌, ℕ, Bool, false, List, [], ◌∷◌, codes, nat_eq, Option, Some}
use Rattle.std.specs.Prelude.{None, option_and_then, if◌then◌else◌}
use Rattle.std.specs.List.{starts_with}
use Rattle.json.specs.Json.{Json}
use Rattle.qa_base.specs.declared.space.Space.{Space}
use Rattle.qa_base.specs.declared.space.Space.TheVariants.{Initial, Handshake}
use Rattle.qa_qlog.specs.Says.{key_at, text_at}

-- a part is anywhere in a name
abbrev pub occurs : List ℕ → List ℕ → Bool
occurs part [] = false
occurs part (b ∷ bs) = starts_with nat_eq (b ∷ bs) part || occurs part bs

-- as `initial` in `server_initial_secret`
abbrev pub space_in : List ℕ → Option Space
space_in name =
    if occurs (codes "initial") name then Some Initial
    else if occurs (codes "handshake") name then Some Handshake
    else None

abbrev pub key_space : Option Json → Option Space
key_space d = option_and_then space_in (text_at (key_at (codes "key_type") d))
