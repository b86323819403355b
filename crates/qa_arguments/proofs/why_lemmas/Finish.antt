-- What the rows at the end of a walk ask for.
use Rattle.std.proofs.Common.{◌≡◌, ◌∙◌, ℕ, Bool, cond, true, false, List, [], ◌∷◌, ◌++◌, fold, append_assoc, append-nil, Option, Some, None, refl, sym, ap, ap₂, codes, bytes_eq, is_some, ◌&&◌, ◌||◌}
use Rattle.std.specs.Prelude.{find, option_map, option_and_then, slice_get, unwrap_or}
use Rattle.std.specs.Option.{option_map_or}
use Rattle.clap.specs.Faults.{check_fault, default_fault, defaults_fault}
use Rattle.clap.specs.Kinds.{Kinds, or_else}
use Rattle.clap.specs.Lexer.{without_minus}
use Rattle.clap.specs.Walk.{Row, Rule, Text, all_of, has_row, reading_by, row_text, stronger, with_default}
use Rattle.clap.specs.declared.builder.value_parser.Reading.TheVariants.{AsWritten, WithoutMinus}
use Rattle.clap.specs.declared.parser.matches.ValueSource.{ValueSource}
use Rattle.clap.specs.declared.parser.matches.ValueSource.TheVariants.{CommandLine, DefaultValue}
use Rattle.qa_arguments.specs.why.Asked.{are_given, asked_in, by_words, clash_in, exclusive, flag_in, is_given, number_in, number_or_zero, wanted_in, tells, told_of, refuses, Wanted}
use Rattle.qa_arguments.specs.why.Words.{Item, all, around, asked_behind, file, files_in, has, have, inquiry, json, lines_in, name_of, quiet, rows, shown, warn, wrong}
use Rattle.qa_arguments.proofs.why_lemmas.Matches.{number_is}
use Rattle.qa_arguments.proofs.why_lemmas.Rows.{AreCounted, Holds, around_built, files_built, find_other, find_row, find_same, flag_built, fold_some, has_row-find, or_none, row_behind, row_in, rule_for, rules, same_text, shape, value_of}

-- ---- defaults

abbrev pub defaulted : Text → ℕ → List Row → List Row
defaulted name letter found = with_default found (flag_built name letter)

abbrev default_row : Text → Row
default_row name = record { id = name; values = codes "false" ∷ []; count = None; source = Some DefaultValue; reading = AsWritten }

abbrev pub end_of : List Row → List Row
end_of found =
    defaulted (codes "warn") 119 (defaulted (codes "rows") 114 (defaulted (codes "quiet") 113 (defaulted (codes "json") 106 (defaulted (codes "all") 97 found))))

same_either : {X : Type 0} (b : Bool) (x : X) → cond b x x ≡ x
same_either true x = refl
same_either false x = refl

unfoldable middle : List Row → List Row
middle xs = defaulted (codes "warn") 119 (defaulted (codes "rows") 114 (defaulted (codes "quiet") 113 (defaulted (codes "json") 106 xs)))

pub ends_so : (found : List Row) → fold with_default found rules ≡ end_of found
unfolding middle
ends_so found =
    let first = defaulted (codes "all") 97 found in
    let second = middle (with_default first around_built) in
    let third = with_default second files_built in
    let fourth = cond (has_row (codes "help") third) third third in
    same_either (has_row (codes "version") fourth) fourth
    ∙ (same_either (has_row (codes "help") third) third
    ∙ (same_either (has_row (codes "FILE") second) second
    ∙ ap middle (same_either (has_row (codes "around") first) first)))

default_same : (name : Text) (letter : ℕ) (found : List Row) → find_row name (defaulted name letter found) ≡ Some (unwrap_or (find_row name found) (default_row name))
default_same name letter found = go (has_row name found) refl (find_row name found) refl
  where
    go : (b : Bool) → has_row name found ≡ b → (o : Option Row) → find_row name found ≡ o → find_row name (defaulted name letter found) ≡ Some (unwrap_or (find_row name found) (default_row name))
    go true is None none = let bad : is_some (find_row name found) ≡ true = sym (has_row-find name found) ∙ is in let worse : false ≡ true = rw none at bad in cc
    go true is (Some r) some = rw (is, some) refl
    go false is None none = rw is (find_same name AsWritten DefaultValue (codes "false") found ∙ rw none refl)
    go false is (Some r) some = let bad : is_some (find_row name found) ≡ false = sym (has_row-find name found) ∙ is in let worse : true ≡ false = rw some at bad in cc

default_other : (id name : Text) (letter : ℕ) (found : List Row) → bytes_eq id name ≡ false → find_row name (defaulted id letter found) ≡ find_row name found
default_other id name letter found other = go (has_row id found) refl
  where
    go : (b : Bool) → has_row id found ≡ b → find_row name (defaulted id letter found) ≡ find_row name found
    go true is = rw is refl
    go false is = rw is (find_other id name AsWritten DefaultValue (codes "false") found other)

-- ---- what is found of an item's name

-- nothing but `around` and `FILE` has a value of its own
abbrev Plain : Text → Type 0
Plain name = (bytes_eq name (codes "around") ≡ false) × (bytes_eq name (codes "FILE") ≡ false)

plain_item : (item : Item) (name : Text) → Plain name → name_of item ≡ name → (value_of item ≡ codes "true") × (reading_by (rule_for item) ≡ AsWritten)
plain_item all name plain is = (refl, refl)
plain_item json name plain is = (refl, refl)
plain_item quiet name plain is = (refl, refl)
plain_item rows name plain is = (refl, refl)
plain_item warn name plain is = (refl, refl)
plain_item (around value) name plain is = let bad : bytes_eq (codes "around") (codes "around") ≡ false = rw (← is) at plain.0 in cc
plain_item (file path) name plain is = let bad : bytes_eq (codes "FILE") (codes "FILE") ≡ false = rw (← is) at plain.1 in cc
plain_item shown name plain is = (refl, refl)
plain_item wrong name plain is = (refl, refl)

-- the row of a flag that was given
record IsFlagRow (r : Row) : Type 0 where
  first : slice_get r.values 0 ≡ Some (codes "true")
  reading : r.reading ≡ AsWritten

abbrev MayBeFlag : Option Row → Type 0
MayBeFlag None = Unit {0}
MayBeFlag (Some r) = IsFlagRow r

first_stays : (values : List Text) (more first : Text) → slice_get values 0 ≡ Some first → slice_get (values ++ more ∷ []) 0 ≡ Some first
first_stays [] more first is = cc
first_stays (v ∷ values) more first is = is

flag_behind : (name : Text) (o : Option Row) (item : Item) (b : Bool) → Plain name → bytes_eq (name_of item) name ≡ b → MayBeFlag o → MayBeFlag (row_behind name o item)
flag_behind name o item false plain is flag = rw is flag
flag_behind name None item true plain is flag =
    let p = plain_item item name plain (same_text (name_of item) name is) in
    rw is (record { first = ap Some p.0; reading = p.1 })
flag_behind name (Some r) item true plain is flag =
    rw is (record { first = first_stays r.values (value_of item) (codes "true") flag.first; reading = flag.reading })

flag_fold : (name : Text) (o : Option Row) (done : List Item) → Plain name → MayBeFlag o → MayBeFlag (fold (row_behind name) o done)
flag_fold name o [] plain flag = flag
flag_fold name o (item ∷ done) plain flag = flag_fold name (row_behind name o item) done plain (flag_behind name o item _ plain refl flag)

abbrev says_true : Option Row → Bool
says_true o = option_map_or (λ text. bytes_eq text (codes "true")) (option_and_then row_text o) false

flag_says : (name : Text) (o : Option Row) → MayBeFlag o → says_true (Some (unwrap_or o (default_row name))) ≡ is_some o
flag_says name None flag = refl
flag_says name (Some r) flag = rw (flag.first, flag.reading) refl

-- where the value of a row came from
unfoldable source_of : Option Row → Bool
source_of o = by_words (option_and_then (λ (r : Row). r.source) o)

source_behind : (name : Text) (o : Option Row) (item : Item) (b : Bool) → bytes_eq (name_of item) name ≡ b → source_of o ≡ is_some o
    → source_of (row_behind name o item) ≡ is_some (row_behind name o item)
unfolding source_of
source_behind name o item false is same = rw is same
source_behind name None item true is same = rw is refl
source_behind name (Some r) item true is same = rw is (go r.source)
  where
    go : (s : Option ValueSource) → by_words (Some (stronger s CommandLine)) ≡ true
    go None = refl
    go (Some DefaultValue) = refl
    go (Some CommandLine) = refl

source_fold : (name : Text) (o : Option Row) (done : List Item) → source_of o ≡ is_some o
    → source_of (fold (row_behind name) o done) ≡ is_some (fold (row_behind name) o done)
source_fold name o [] same = same
source_fold name o (item ∷ done) same = source_fold name (row_behind name o item) done (source_behind name o item _ refl same)

source_says : (name : Text) (o : Option Row) → source_of o ≡ is_some o → source_of (Some (unwrap_or o (default_row name))) ≡ is_some o
unfolding source_of
source_says name None same = refl
source_says name (Some r) same = same

row_has : (name : Text) (done : List Item) → is_some (row_in name done) ≡ has name done
row_has name done = fold_some name None done ∙ or_none (has name done)

-- ---- flags, by what is found of them

pub flag_ends : (name : Text) (done : List Item) (end : List Row) → Plain name → find_row name end ≡ Some (unwrap_or (row_in name done) (default_row name))
    → flag_in name end ≡ has name done
flag_ends name done end plain is = ap says_true is ∙ (flag_says name (row_in name done) (flag_fold name None done plain tt) ∙ row_has name done)

pub flag_given : (name : Text) (done : List Item) (end : List Row) → find_row name end ≡ Some (unwrap_or (row_in name done) (default_row name))
    → is_given name end ≡ has name done
unfolding source_of
flag_given name done end is = ap source_of is ∙ (source_says name (row_in name done) (source_fold name None done refl) ∙ row_has name done)

pub option_given : (name : Text) (done : List Item) (end : List Row) → find_row name end ≡ row_in name done → is_given name end ≡ has name done
unfolding source_of
option_given name done end is = ap source_of is ∙ (source_fold name None done refl ∙ row_has name done)

-- ---- the number of lines

abbrev around_row : Text → List Text → Row
around_row value more = record { id = codes "around"; values = value ∷ more; count = None; source = Some CommandLine; reading = WithoutMinus }

abbrev number_of : Option Row → ℕ
number_of o = option_map_or number_or_zero (option_and_then row_text o) 0

lines_stay : (value : Text) (more : List Text) (done : List Item) → number_of (fold (row_behind (codes "around")) (Some (around_row value more)) done) ≡ number_or_zero (without_minus value)
lines_stay value more [] = refl
lines_stay value more (all ∷ done) = lines_stay value more done
lines_stay value more (json ∷ done) = lines_stay value more done
lines_stay value more (quiet ∷ done) = lines_stay value more done
lines_stay value more (rows ∷ done) = lines_stay value more done
lines_stay value more (warn ∷ done) = lines_stay value more done
lines_stay value more (around next ∷ done) = lines_stay value (more ++ next ∷ []) done
lines_stay value more (file name ∷ done) = lines_stay value more done
lines_stay value more (shown ∷ done) = lines_stay value more done
lines_stay value more (wrong ∷ done) = lines_stay value more done

lines_row : (done : List Item) → AreCounted done → number_of (row_in (codes "around") done) ≡ lines_in done
lines_row [] counted = refl
lines_row (all ∷ done) counted = lines_row done counted.1
lines_row (json ∷ done) counted = lines_row done counted.1
lines_row (quiet ∷ done) counted = lines_row done counted.1
lines_row (rows ∷ done) counted = lines_row done counted.1
lines_row (warn ∷ done) counted = lines_row done counted.1
lines_row (around value ∷ done) counted = lines_stay value [] done ∙ number_is value counted.0
lines_row (file name ∷ done) counted = lines_row done counted.1
lines_row (shown ∷ done) counted = lines_row done counted.1
lines_row (wrong ∷ done) counted = lines_row done counted.1

pub lines_end : (done : List Item) (end : List Row) → AreCounted done → find_row (codes "around") end ≡ row_in (codes "around") done → number_in (codes "around") end ≡ lines_in done
lines_end done end counted is = ap number_of is ∙ lines_row done counted

-- ---- the names of files

abbrev files_row : Text → List Text → Row
files_row name more = record { id = codes "FILE"; values = name ∷ more; count = None; source = Some CommandLine; reading = AsWritten }

abbrev values_of_row : Option Row → List Text
values_of_row o = unwrap_or (option_map (λ (r : Row). r.values) o) []

files_more : (name : Text) (more : List Text) (done : List Item)
    → values_of_row (fold (row_behind (codes "FILE")) (Some (files_row name more)) done) ≡ name ∷ more ++ files_in done
files_more name more [] = ap (λ (xs : List Text). name ∷ xs) (sym (append-nil more))
files_more name more (all ∷ done) = files_more name more done
files_more name more (json ∷ done) = files_more name more done
files_more name more (quiet ∷ done) = files_more name more done
files_more name more (rows ∷ done) = files_more name more done
files_more name more (warn ∷ done) = files_more name more done
files_more name more (around next ∷ done) = files_more name more done
files_more name more (file next ∷ done) = files_more name (more ++ next ∷ []) done ∙ ap (λ (xs : List Text). name ∷ xs) (append_assoc more (next ∷ []) (files_in done))
files_more name more (shown ∷ done) = files_more name more done
files_more name more (wrong ∷ done) = files_more name more done

files_of_row : (done : List Item) → values_of_row (row_in (codes "FILE") done) ≡ files_in done
files_of_row [] = refl
files_of_row (all ∷ done) = files_of_row done
files_of_row (json ∷ done) = files_of_row done
files_of_row (quiet ∷ done) = files_of_row done
files_of_row (rows ∷ done) = files_of_row done
files_of_row (warn ∷ done) = files_of_row done
files_of_row (around value ∷ done) = files_of_row done
files_of_row (file name ∷ done) = files_more name [] done
files_of_row (shown ∷ done) = files_of_row done
files_of_row (wrong ∷ done) = files_of_row done

pub files_end : (done : List Item) (end : List Row) → find_row (codes "FILE") end ≡ row_in (codes "FILE") done
    → unwrap_or (all_of (codes "FILE") end) [] ≡ files_in done
files_end done end is = ap values_of_row is ∙ files_of_row done

-- ---- the same of each part

abbrev AreLike : {X : Type 0} → (X → Bool) → (X → Bool) → List X → Type 0
AreLike p q [] = Unit {0}
AreLike p q (x ∷ xs) = (p x ≡ q x) × AreLike p q xs

find_like : {X : Type 0} (p q : X → Bool) (xs : List X) → AreLike p q xs → find p xs ≡ find q xs
find_like p q [] like = refl
find_like p q (x ∷ xs) (same, like) = ap₂ (λ (b : Bool) (o : Option _). cond b (Some x) o) same (find_like p q xs like)

wanted_like : {a b c d e a' b' c' d' e' : Bool} {n n' : ℕ} {xs ys : List Text} → a ≡ a' → b ≡ b' → c ≡ c' → d ≡ d' → e ≡ e' → n ≡ n' → xs ≡ ys
    → ◌≡◌ {A = Wanted} (record { told = told_of a b c; quiet = d; warn = e; around = n; files = xs })
    (record { told = told_of a' b' c'; quiet = d'; warn = e'; around = n'; files = ys })
wanted_like p q r s t u v = rw (p, q, r, s, t, u, v) refl

-- ---- the rows at the end

under : (id name : Text) (letter : ℕ) (found : List Row) (o : Option Row) → bytes_eq id name ≡ false → find_row name found ≡ o
    → find_row name (defaulted id letter found) ≡ o
under id name letter found o other is = default_other id name letter found other ∙ is

here : (name : Text) (letter : ℕ) (found : List Row) (o : Option Row) → find_row name found ≡ o
    → find_row name (defaulted name letter found) ≡ Some (unwrap_or o (default_row name))
here name letter found o is = default_same name letter found ∙ ap (λ (x : Option Row). Some (unwrap_or x (default_row name))) is

abbrev Ended : Text → List Item → List Row → Type 0
Ended name done end = find_row name end ≡ Some (unwrap_or (row_in name done) (default_row name))

module _ (done : List Item) (found : List Row) (holds : Holds done found) where
  abbrev one : List Row
  one = defaulted (codes "all") 97 found

  abbrev two : List Row
  two = defaulted (codes "json") 106 one

  abbrev three : List Row
  three = defaulted (codes "quiet") 113 two

  abbrev four : List Row
  four = defaulted (codes "rows") 114 three

  end_all : Ended (codes "all") done (end_of found)
  end_all = under (codes "warn") (codes "all") 119 four _ refl (under (codes "rows") (codes "all") 114 three _ refl
      (under (codes "quiet") (codes "all") 113 two _ refl (under (codes "json") (codes "all") 106 one _ refl
      (here (codes "all") 97 found _ (holds.are (codes "all"))))))

  end_json : Ended (codes "json") done (end_of found)
  end_json = under (codes "warn") (codes "json") 119 four _ refl (under (codes "rows") (codes "json") 114 three _ refl
      (under (codes "quiet") (codes "json") 113 two _ refl (here (codes "json") 106 one _
      (under (codes "all") (codes "json") 97 found _ refl (holds.are (codes "json"))))))

  end_quiet : Ended (codes "quiet") done (end_of found)
  end_quiet = under (codes "warn") (codes "quiet") 119 four _ refl (under (codes "rows") (codes "quiet") 114 three _ refl
      (here (codes "quiet") 113 two _ (under (codes "json") (codes "quiet") 106 one _ refl
      (under (codes "all") (codes "quiet") 97 found _ refl (holds.are (codes "quiet"))))))

  end_rows : Ended (codes "rows") done (end_of found)
  end_rows = under (codes "warn") (codes "rows") 119 four _ refl (here (codes "rows") 114 three _
      (under (codes "quiet") (codes "rows") 113 two _ refl (under (codes "json") (codes "rows") 106 one _ refl
      (under (codes "all") (codes "rows") 97 found _ refl (holds.are (codes "rows"))))))

  end_warn : Ended (codes "warn") done (end_of found)
  end_warn = here (codes "warn") 119 four _ (under (codes "rows") (codes "warn") 114 three _ refl
      (under (codes "quiet") (codes "warn") 113 two _ refl (under (codes "json") (codes "warn") 106 one _ refl
      (under (codes "all") (codes "warn") 97 found _ refl (holds.are (codes "warn"))))))

  end_other : (name : Text) → bytes_eq (codes "all") name ≡ false → bytes_eq (codes "json") name ≡ false → bytes_eq (codes "quiet") name ≡ false
      → bytes_eq (codes "rows") name ≡ false → bytes_eq (codes "warn") name ≡ false → find_row name (end_of found) ≡ row_in name done
  end_other name no_all no_json no_quiet no_rows no_warn = under (codes "warn") name 119 four _ no_warn (under (codes "rows") name 114 three _ no_rows
      (under (codes "quiet") name 113 two _ no_quiet (under (codes "json") name 106 one _ no_json
      (under (codes "all") name 97 found _ no_all (holds.are name)))))

  end_around : find_row (codes "around") (end_of found) ≡ row_in (codes "around") done
  end_around = end_other (codes "around") refl refl refl refl refl

  end_file : find_row (codes "FILE") (end_of found) ≡ row_in (codes "FILE") done
  end_file = end_other (codes "FILE") refl refl refl refl refl

  given_all : is_given (codes "all") (end_of found) ≡ has (codes "all") done
  given_all = flag_given (codes "all") done (end_of found) end_all

  given_json : is_given (codes "json") (end_of found) ≡ has (codes "json") done
  given_json = flag_given (codes "json") done (end_of found) end_json

  given_quiet : is_given (codes "quiet") (end_of found) ≡ has (codes "quiet") done
  given_quiet = flag_given (codes "quiet") done (end_of found) end_quiet

  given_rows : is_given (codes "rows") (end_of found) ≡ has (codes "rows") done
  given_rows = flag_given (codes "rows") done (end_of found) end_rows

  given_warn : is_given (codes "warn") (end_of found) ≡ has (codes "warn") done
  given_warn = flag_given (codes "warn") done (end_of found) end_warn

  given_around : is_given (codes "around") (end_of found) ≡ has (codes "around") done
  given_around = option_given (codes "around") done (end_of found) end_around

  clash_ends : clash_in (end_of found) ≡ find (have done) exclusive
  clash_ends = find_like (are_given (end_of found)) (have done) exclusive (
    ap₂ (◌&&◌) given_rows given_json,
    (
      ap₂ (◌&&◌) given_rows given_quiet,
      (
        ap₂ (◌&&◌) given_rows given_warn,
        (
          ap₂ (◌&&◌) given_rows given_around,
          tt,
        ),
      ),
    ),
  )

  wanted_ends : wanted_in (end_of found) ≡ inquiry done
  wanted_ends = wanted_like
      (flag_ends (codes "all") done (end_of found) (refl, refl) end_all)
      (flag_ends (codes "rows") done (end_of found) (refl, refl) end_rows)
      (flag_ends (codes "json") done (end_of found) (refl, refl) end_json)
      (flag_ends (codes "quiet") done (end_of found) (refl, refl) end_quiet)
      (flag_ends (codes "warn") done (end_of found) (refl, refl) end_warn)
      (lines_end done (end_of found) holds.counted end_around)
      (files_end done (end_of found) end_file)

  pub asked_ends : asked_in (end_of found) ≡ asked_behind done []
  asked_ends = ap₂ (λ (o : Option (Text × Text)) (w : Wanted). cond (is_some o) refuses (tells w)) clash_ends wanted_ends

-- ---- no fault comes of the end

abbrev AreQuiet : List Rule → Type 0
AreQuiet [] = Unit {0}
AreQuiet (a ∷ more) = ((found : List Row) → default_fault found a ≡ []) × AreQuiet more

no_fault : (more : List Rule) (found : List Row) → AreQuiet more → defaults_fault found more ≡ []
unfolding defaults_fault
no_fault [] found none = refl
no_fault (a ∷ more) found (first, none) = ap₂ or_else (first found) (no_fault more (with_default found a) none)

no_values : (b : Bool) (faults : Kinds) → cond (b || true) [] faults ≡ []
no_values true faults = refl
no_values false faults = refl

pub no_defaults : (found : List Row) → defaults_fault found rules ≡ []
no_defaults found = no_fault rules found (
  λ xs. same_either (has_row (codes "all") xs || false) [],
  (
    λ xs. no_values (has_row (codes "around") xs) _,
    (
      λ xs. same_either (has_row (codes "json") xs || false) [],
      (
        λ xs. same_either (has_row (codes "quiet") xs || false) [],
        (
          λ xs. same_either (has_row (codes "rows") xs || false) [],
          (
            λ xs. same_either (has_row (codes "warn") xs || false) [],
            (
              λ xs. no_values (has_row (codes "FILE") xs) _,
              (
                λ xs. no_values (has_row (codes "help") xs) _,
                (λ xs. no_values (has_row (codes "version") xs) _, tt),
              ),
            ),
          ),
        ),
      ),
    ),
  ),
)

pub no_check : (found : List Row) → check_fault shape found false ≡ []
no_check found = refl
