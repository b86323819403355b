-- Which key of a line a wrong key is probably meant to be.
use Rattle.std.specs.Prelude.{ℕ, ◌/◌, ◌&&◌, nat_eq, nat_le, nat_lt, length, Bool, List, find}
use Rattle.std.specs.Prelude.{Option, None, if◌then◌else◌}
use Rattle.std.specs.Option.{option_or}
use Rattle.std.specs.Str.{chars}
use Rattle.strsim.specs.Edits.{levenshtein_row}
use Rattle.qa_base.specs.declared.header.Version.{Version}
use Rattle.qa_base.specs.declared.key.Key.{Key}
use Rattle.qa_base.specs.declared.line_kind.LineKind.{LineKind}
use Rattle.qa_base.specs.values.Names.{key_name}
use Rattle.qa_why.specs.suggest.KeyTables.{keys_of}
use Rattle.qa_why.specs.suggest.OtherNames.{other_name}

-- how many edits make one name of the other
abbrev pub edits : List ℕ → List ℕ → ℕ
edits name other = levenshtein_row nat_eq (chars name) (chars other) (length (chars other))

-- so many edits, and fewer than for half of its letters, make the key's name of this one
abbrev pub is_within : ℕ → List ℕ → Key → Bool
is_within most name k =
    nat_le (edits name (key_name k)) most
    && nat_lt (edits name (key_name k)) (length (key_name k) / 2)

-- the first of these keys that is so near
abbrev pub first_within : ℕ → List ℕ → List Key → Option Key
first_within most name ks = find (is_within most name) ks

-- the first key that is one edit away, else the first that is two edits away
abbrev pub nearest : List ℕ → List Key → Option Key
nearest name ks = option_or (first_within 1 name ks) (first_within 2 name ks)

-- longer names are near no key
abbrev pub longest_name : ℕ
longest_name = 40

-- the key of such a line that this is another name for, or the nearest
abbrev pub near : Version → LineKind → List ℕ → Option Key
near v kind name =
    if nat_lt longest_name (length name) then None else option_or (other_name kind name)
    (nearest name (keys_of v kind))
