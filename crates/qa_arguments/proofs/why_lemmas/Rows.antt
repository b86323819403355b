-- The rows of the matches, by the items that made them.
use Rattle.std.proofs.Common.{◌≡◌, ◌∙◌, ℕ, Bool, cond, true, false, List, [], ◌∷◌, ◌++◌, fold, Option, Some, None, refl, sym, ap, codes, bytes_eq, is_some, ◌||◌}
use Rattle.std.specs.Prelude.{find}
use Rattle.std.proofs.lemmas.Slice.Eq.{bytes_eq-Decides}
use Rattle.clap.specs.Simple.{Shape, built, filled, with_index}
use Rattle.clap.specs.Walk.{Row, Rule, Text, has_row, reading_by, stronger, used, with_values, without}
use Rattle.clap.specs.declared.builder.value_parser.Reading.{Reading}
use Rattle.clap.specs.declared.parser.matches.ValueSource.{ValueSource}
use Rattle.clap.specs.declared.parser.matches.ValueSource.TheVariants.{CommandLine}
use Rattle.qa_arguments.specs.why.Asked.{around_rule, files_rule, flag_rule, parser_of_arguments}
use Rattle.qa_arguments.specs.why.Words.{Item, all, around, file, has, is_lines, json, name_of, quiet, rows, shown, warn, wrong}

abbrev pub shape : Shape
shape = (built parser_of_arguments).top

abbrev pub rules : List Rule
rules = shape.rules

-- ---- the rules of items

abbrev pub flag_built : Text → ℕ → Rule
flag_built name letter = filled (flag_rule name letter)

abbrev pub around_built : Rule
around_built = filled around_rule

abbrev pub files_built : Rule
files_built = with_index 1 (filled files_rule)

abbrev pub rule_for : Item → Rule
rule_for all = flag_built (codes "all") 97
rule_for json = flag_built (codes "json") 106
rule_for quiet = flag_built (codes "quiet") 113
rule_for rows = flag_built (codes "rows") 114
rule_for warn = flag_built (codes "warn") 119
rule_for (around value) = around_built
rule_for _ = files_built

abbrev pub values_for : Item → List Text
values_for (around value) = value ∷ []
values_for (file name) = name ∷ []
values_for _ = []

-- what an item adds to the row of its name
abbrev pub value_of : Item → Text
value_of (around value) = value
value_of (file name) = name
value_of _ = codes "true"

abbrev pub row_more : Text → Reading → ValueSource → Text → Option Row → Row
row_more id how s value None = record { id = id; values = value ∷ []; count = None; source = Some s; reading = how }
row_more id how s value (Some r) = record r { values = r.values ++ value ∷ []; source = Some (stronger r.source s) }

abbrev pub row_behind : Text → Option Row → Item → Option Row
row_behind name o item = cond (bytes_eq (name_of item) name) (Some (row_more (name_of item) (reading_by (rule_for item)) CommandLine (value_of item) o)) o

abbrev pub row_in : Text → List Item → Option Row
row_in name done = fold (row_behind name) None done

abbrev pub find_row : Text → List Row → Option Row
find_row name found = find (λ r. bytes_eq r.id name) found

-- each number of lines is one
abbrev pub IsCounted : Item → Type 0
IsCounted (around value) = is_lines value ≡ true
IsCounted _ = Unit {0}

abbrev pub AreCounted : List Item → Type 0
AreCounted [] = Unit {0}
AreCounted (item ∷ done) = IsCounted item × AreCounted done

-- the rows are those of the items
pub record Holds (done : List Item) (found : List Row) : Type 0 where
  pub are : (name : Text) → find_row name found ≡ row_in name done
  pub counted : AreCounted done

-- ---- searches in rows

pub same_text : (a b : Text) → bytes_eq a b ≡ true → a ≡ b
same_text a b is = (bytes_eq-Decides a b).0 is

pub has_row-find : (id : Text) (found : List Row) → has_row id found ≡ is_some (find_row id found)
has_row-find id [] = refl
has_row-find id (r ∷ found) = go (bytes_eq r.id id) (has_row-find id found)
  where
    go : (b : Bool) → has_row id found ≡ is_some (find_row id found) → (b || has_row id found) ≡ is_some (cond b (Some r) (find_row id found))
    go true is = refl
    go false is = is

pub find_same : (id : Text) (how : Reading) (s : ValueSource) (value : Text) (found : List Row)
    → find_row id (with_values id how s (value ∷ []) found) ≡ Some (row_more id how s value (find_row id found))
find_same id how s value [] = rw ((bytes_eq-Decides id id).1 refl) refl
find_same id how s value (r ∷ found) = go (bytes_eq r.id id) refl (find_same id how s value found)
  where
    go : (b : Bool) → bytes_eq r.id id ≡ b → find_row id (with_values id how s (value ∷ []) found) ≡ Some (row_more id how s value (find_row id found))
        → find_row id (with_values id how s (value ∷ []) (r ∷ found)) ≡ Some (row_more id how s value (find_row id (r ∷ found)))
    go true is later = rw (is, is) refl
    go false is later = rw (is, is) later

pub find_other : (id name : Text) (how : Reading) (s : ValueSource) (value : Text) (found : List Row) → bytes_eq id name ≡ false
    → find_row name (with_values id how s (value ∷ []) found) ≡ find_row name found
find_other id name how s value [] other = rw other refl
find_other id name how s value (r ∷ found) other = go (bytes_eq r.id id) refl (bytes_eq r.id name) refl (find_other id name how s value found other)
  where
    go : (b : Bool) → bytes_eq r.id id ≡ b → (d : Bool) → bytes_eq r.id name ≡ d
        → find_row name (with_values id how s (value ∷ []) found) ≡ find_row name found
        → find_row name (with_values id how s (value ∷ []) (r ∷ found)) ≡ find_row name (r ∷ found)
    go true is true on_congestion_event later =
        let same : bytes_eq id name ≡ true = rw (same_text r.id id is) at on_congestion_event in
        cc
    go true is false on_congestion_event later = rw (is, on_congestion_event) refl
    go false is true on_congestion_event later = rw (is, on_congestion_event) refl
    go false is false on_congestion_event later = rw (is, on_congestion_event) later

without_none : (id : Text) (found : List Row) → find_row id found ≡ None → without id found ≡ found
without_none id [] none = refl
without_none id (r ∷ found) none = go (bytes_eq r.id id) refl none (without_none id found)
  where
    go : (b : Bool) → bytes_eq r.id id ≡ b → find_row id (r ∷ found) ≡ None → (find_row id found ≡ None → without id found ≡ found) → without id (r ∷ found) ≡ r ∷ found
    go true is none later = let bad : Some r ≡ None = rw is at none in cc
    go false is none later = rw (is, later (rw is at none)) refl

-- ---- one item more

fold_end : (name : Text) (o : Option Row) (done : List Item) (item : Item) → fold (row_behind name) o (done ++ item ∷ []) ≡ row_behind name (fold (row_behind name) o done) item
fold_end name o [] item = refl
fold_end name o (first ∷ done) item = fold_end name (row_behind name o first) done item

added_by : (done : List Item) (found : List Row) (item : Item) (name : Text) → Holds done found → (b : Bool) → bytes_eq (name_of item) name ≡ b
    → find_row name (with_values (name_of item) (reading_by (rule_for item)) CommandLine (value_of item ∷ []) found) ≡ row_behind name (row_in name done) item
added_by done found item name holds true is =
    let same = same_text (name_of item) name is in
    rw (is, ← same) (find_same (name_of item) (reading_by (rule_for item)) CommandLine (value_of item) found
    ∙ ap (λ (o : Option Row). Some (row_more (name_of item) (reading_by (rule_for item)) CommandLine (value_of item) o)) (holds.are (name_of item)))
added_by done found item name holds false is =
    rw is (find_other (name_of item) name (reading_by (rule_for item)) CommandLine (value_of item) found is ∙ holds.are name)

added : (done : List Item) (found : List Row) (item : Item) → Holds done found → (name : Text)
    → find_row name (with_values (name_of item) (reading_by (rule_for item)) CommandLine (value_of item ∷ []) found) ≡ row_in name (done ++ item ∷ [])
added done found item holds name = added_by done found item name holds _ refl ∙ sym (fold_end name None done item)

counted_more : (done : List Item) (item : Item) → AreCounted done → IsCounted item → AreCounted (done ++ item ∷ [])
counted_more [] item counted one = (one, tt)
counted_more (first ∷ done) item counted one = (counted.0, counted_more done item counted.1 one)

-- an item that says something, and once if it is an option
abbrev pub Says : Item → List Row → Type 0
Says shown found = ⊥
Says wrong found = ⊥
Says (file name) found = Unit {0}
Says (around value) found = (find_row (codes "around") found ≡ None) × (is_lines value ≡ true)
Says item found = find_row (name_of item) found ≡ None

at_once : (id : Text) (how : Reading) (value : Text) (found : List Row) → find_row id found ≡ None
    → with_values id how CommandLine (value ∷ []) (without id found) ≡ with_values id how CommandLine (value ∷ []) found
at_once id how value found none = ap (with_values id how CommandLine (value ∷ [])) (without_none id found none)

used_is : (item : Item) (found : List Row) → Says item found
    → used (rule_for item) (values_for item) found ≡ with_values (name_of item) (reading_by (rule_for item)) CommandLine (value_of item ∷ []) found
used_is all found none = at_once _ _ _ found none
used_is json found none = at_once _ _ _ found none
used_is quiet found none = at_once _ _ _ found none
used_is rows found none = at_once _ _ _ found none
used_is warn found none = at_once _ _ _ found none
used_is (around value) found none = at_once _ _ _ found none.0
used_is (file name) found none = refl
used_is shown found none = absurd none
used_is wrong found none = absurd none

says_counted : (item : Item) (found : List Row) → Says item found → IsCounted item
says_counted all found says = tt
says_counted json found says = tt
says_counted quiet found says = tt
says_counted rows found says = tt
says_counted warn found says = tt
says_counted (around value) found says = says.1
says_counted (file name) found says = tt
says_counted shown found says = tt
says_counted wrong found says = tt

-- what holds of the rows once an item is used
pub one_more : (done : List Item) (found : List Row) (item : Item) → Says item found → Holds done found
    → Holds (done ++ item ∷ []) (used (rule_for item) (values_for item) found)
one_more done found item says holds = record {
  are = λ name. ap (find_row name) (used_is item found says) ∙ added done found item holds name;
  counted = counted_more done item holds.counted (says_counted item found says);
}

-- ---- whether an option was given

behind_some : (name : Text) (o : Option Row) (item : Item) (b : Bool) → bytes_eq (name_of item) name ≡ b → is_some (row_behind name o item) ≡ (b || is_some o)
behind_some name o item true is = rw is refl
behind_some name o item false is = rw is refl

or_swap : (a b c : Bool) → (b || c) ≡ (b || c) → ((a || b) || c) ≡ (b || (a || c))
or_swap true true c e = refl
or_swap true false c e = refl
or_swap false b c e = refl

pub fold_some : (name : Text) (o : Option Row) (done : List Item) → is_some (fold (row_behind name) o done) ≡ (has name done || is_some o)
fold_some name o [] = refl
fold_some name o (item ∷ done) =
    fold_some name (row_behind name o item) done
    ∙ (ap (λ (b : Bool). has name done || b) (behind_some name o item (bytes_eq (name_of item) name) refl)
    ∙ sym (or_swap (bytes_eq (name_of item) name) (has name done) (is_some o) refl))

pub or_none : (b : Bool) → (b || false) ≡ b
or_none true = refl
or_none false = refl

pub given_has : (name : Text) (done : List Item) (found : List Row) → Holds done found → is_some (find_row name found) ≡ has name done
given_has name done found holds = ap is_some (holds.are name) ∙ (fold_some name None done ∙ or_none (has name done))
