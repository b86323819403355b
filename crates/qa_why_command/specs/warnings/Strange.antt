-- Keys of a line that do nothing.
use Rattle.std.specs.Prelude.{ℕ, nat_eq, not, ◌||◌, Bool, codes, List, [], Option, Some, None}
use Rattle.std.specs.Prelude.{option_and_then}
use Rattle.std.specs.List.{filter, starts_with}
use Rattle.serde_json.specs.Data.{Members}
use Rattle.serde_json.specs.Find.{as_object}
use Rattle.qa_base.specs.declared.header.Version.{Version}
use Rattle.qa_base.specs.declared.line_kind.LineKind.{LineKind}
use Rattle.qa_why.specs.suggest.KeyTables.{is_key}
use Rattle.qa_why.specs.suggest.StandsFor.{keys}
use Rattle.qa_why.specs.Values.{data_of}

abbrev pub keys_of : Option Members → List (List ℕ)
keys_of None = []
keys_of (Some ms) = keys ms

-- the keys of the object that the bytes are, in ascending order; each once
abbrev pub keys_in : List ℕ → List (List ℕ)
keys_in l = keys_of (option_and_then as_object (data_of l))

-- keys that begin with `x_` are a logger's own
abbrev pub is_own : List ℕ → Bool
is_own k = starts_with nat_eq k (codes "x_")

-- those of these keys that a line of this kind does not have, where the header has this version,
-- and that are not a logger's own
abbrev pub strange : Version → LineKind → List (List ℕ) → List (List ℕ)
strange v kind ks = filter (λ k. not (is_key v kind k || is_own k)) ks
