-- The names of connections with their numbers, as a map has them.
use Rattle.std.proofs.Common.{◌≡◌, ◌∙◌, ℕ, List, [], ◌∷◌, Bool, Option, Some, None, Ordering, Less, Equal, Greater, map, ap, refl, sym, cond, is_some}
use Rattle.std.specs.Prelude.{if◌then◌else◌}
use Rattle.std.specs.BTreeMap.{insert_entry, is_at}
use Rattle.std.specs.Cmp.Lexicographic.{slice_cmp}
use Rattle.std.specs.Map.{lookup}
use Rattle.std.specs.Option.{unwrap_or}
use Rattle.std.specs.Ordering.{match_ordering, nat_cmp}
use Rattle.std.specs.Str.{bytes_eq}
use Rattle.std.specs.Prelude.{String}
use Rattle.std.specs.String.{string_bytes, string_cmp}
use Rattle.std.proofs.lemmas.Map.Text.{is_eq-slice_cmp}
use Rattle.qa_convert.specs.Connections.{Numbering, next_number, number_in, number_of, numbered_text, with_name, with_new}

-- the number that a name has
pub same_number : {Z : Type 0} (name : List ℕ) (es : List (String Z × ℕ)) → lookup (is_at (λ k. slice_cmp nat_cmp name (string_bytes k))) es ≡ lookup (bytes_eq name) (map numbered_text es)
same_number name [] = refl
same_number name (e ∷ es) =
    ap (λ (is : Bool). cond is (Some e.1) (lookup (is_at (λ k. slice_cmp nat_cmp name (string_bytes k))) es)) (is_eq-slice_cmp name (string_bytes e.0))
    ∙ ap (λ (found : Option ℕ). cond (bytes_eq name (string_bytes e.0)) (Some e.1) found) (same_number name es)

-- one more name
more_by : {Z : Type 0} (o : Ordering) (name : String Z) (number : ℕ) (e : String Z × ℕ) (es more : List (String Z × ℕ)) → map numbered_text (match_ordering o ((name, number) ∷ e ∷ es) ((e.0, number) ∷ es) (e ∷ more))
    ≡ match_ordering o ((string_bytes name, number) ∷ map numbered_text (e ∷ es)) ((string_bytes e.0, number) ∷ map numbered_text es) (numbered_text e ∷ map numbered_text more)
more_by Less name number e es more = refl
more_by Equal name number e es more = refl
more_by Greater name number e es more = refl

pub one_more : {Z : Type 0} (name : String Z) (number : ℕ) (es : List (String Z × ℕ))
    → map numbered_text (insert_entry string_cmp es name number) ≡ insert_entry (slice_cmp nat_cmp) (map numbered_text es) (string_bytes name) number
one_more name number [] = refl
one_more name number (e ∷ es) =
    more_by (string_cmp name e.0) name number e es (insert_entry string_cmp es name number)
    ∙ ap (λ ns. match_ordering (string_cmp name e.0) ((string_bytes name, number) ∷ map numbered_text (e ∷ es)) ((string_bytes e.0, number) ∷ map numbered_text es) (numbered_text e ∷ ns)) (one_more name number es)

-- ---- a name that a record had before

pub has_number : (old : Numbering) (name : List ℕ) (number : ℕ) → number_in old name ≡ Some number → number ≡ number_of old name
has_number old name number found = sym (ap (λ (o : Option ℕ). unwrap_or o (next_number old)) found)

pub named_before : (old : Numbering) (name : List ℕ) (number : ℕ) → number_in old name ≡ Some number → old ≡ with_name old name
named_before old name number found = sym (ap (λ (o : Option ℕ). if is_some o then old else with_new old name) found)

-- ---- a name that none had

pub new_number : (old : Numbering) (name : List ℕ) → number_in old name ≡ None → number_of old name ≡ next_number old
new_number old name none = ap (λ (o : Option ℕ). unwrap_or o (next_number old)) none

pub named_now : (old : Numbering) (name : List ℕ) (numbers : List (List ℕ × ℕ)) (count : ℕ) → number_in old name ≡ None → count ≡ next_number old
    → numbers ≡ insert_entry (slice_cmp nat_cmp) old.numbers name count → record old { numbers = numbers; count = count } ≡ with_name old name
named_now old name numbers count none next more = rw (more, next) (sym (ap (λ (o : Option ℕ). if is_some o then old else with_new old name) none))
