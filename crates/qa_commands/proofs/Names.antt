-- Texts that are shown as they are.
use Rattle.std.proofs.Common.{◌≡◌, ◌∙◌, ◌++◌, ℕ, Bool, true, false, List, [], ◌∷◌, refl, sym, ap, ap₂}
use Rattle.std.specs.Prelude.{flat_map, not, if◌then◌else◌}
use Rattle.std.proofs.lemmas.Bool.{or_parts}
use Rattle.std.proofs.lemmas.Str.{encodes-chars}
use Rattle.std.specs.Char.{encode_utf8}
use Rattle.std.specs.List.{list_any}
use Rattle.std.specs.Str.{chars, encode_utf8_all, IsUtf8}
use Rattle.qa_check.specs.names.Names.{escaped, is_hidden, shown_name}
use Rattle.qa_commands.specs.Names.{is_hidden_in_lines, shown_lines}

-- ---- by what is hidden

module _ (hides : ℕ → Bool) where
  abbrev shown : ℕ → List ℕ
  shown c = if hides c then flat_map escaped (encode_utf8 c) else encode_utf8 c

  character_stays : (c : ℕ) → hides c ≡ false → shown c ≡ encode_utf8 c
  character_stays c is = ap (λ (hidden : Bool). if hidden then flat_map escaped (encode_utf8 c) else encode_utf8 c) is

  characters_stay : (cs : List ℕ) → list_any hides cs ≡ false → flat_map shown cs ≡ encode_utf8_all cs
  characters_stay [] none = refl
  characters_stay (c ∷ cs) none =
      let parts = or_parts (hides c) (list_any hides cs) none in
      ap₂ (λ (a b : List ℕ). a ++ b) (character_stays c parts.0) (characters_stay cs parts.1)

  text_stays : (text : List ℕ) (any : Bool) → IsUtf8 text → any ≡ list_any hides (chars text) → not any ≡ true → flat_map shown (chars text) ≡ text
  text_stays text true utf8 is none = cc
  text_stays text false utf8 is none = characters_stay (chars text) (sym is) ∙ encodes-chars text utf8

-- ---- of a name, and of lines

pub name_stays : (name : List ℕ) (any : Bool) → IsUtf8 name → any ≡ list_any is_hidden (chars name) → not any ≡ true → shown_name name ≡ name
name_stays = text_stays is_hidden

pub lines_stay : (text : List ℕ) (any : Bool) → IsUtf8 text → any ≡ list_any is_hidden_in_lines (chars text) → not any ≡ true → shown_lines text ≡ text
lines_stay = text_stays is_hidden_in_lines
