-- Which key of an object stands there in place of one that is missing.
use Rattle.std.specs.Prelude.{ℕ, ◌&&◌, not, bytes_eq, find, Bool, false, List, [], ◌∷◌, Option}
use Rattle.std.specs.Prelude.{Some, None}
use Rattle.serde_json.specs.Data.{Members, no_members, member}
use Rattle.qa_base.specs.declared.header.Version.{Version}
use Rattle.qa_base.specs.declared.key.Key.{Key}
use Rattle.qa_base.specs.declared.line_kind.LineKind.{LineKind}
use Rattle.qa_base.specs.values.Names.{key_name}
use Rattle.qa_why.specs.suggest.KeyTables.{is_key}
use Rattle.qa_why.specs.suggest.Near.{near}

-- the keys of these members, which ascend
abbrev pub keys : Members → List (List ℕ)
keys no_members = []
keys (member k d ms) = k ∷ keys ms

-- the key that is near, if one is, is this
abbrev pub is_it : Option Key → Key → Bool
is_it None missing = false
is_it (Some k) missing = bytes_eq (key_name k) (key_name missing)

-- a line of this kind does not have this key, which is near to the one that is missing
abbrev pub is_meant : Version → LineKind → Key → List ℕ → Bool
is_meant v kind missing name = not (is_key v kind name) && is_it (near v kind name) missing

-- the first of these keys that is probably meant to be the one that is missing
abbrev pub stands_for : Version → LineKind → Key → List (List ℕ) → Option (List ℕ)
stands_for v kind missing names = find (is_meant v kind missing) names
