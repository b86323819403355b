-- The options that names and letters stand for.
use Rattle.std.proofs.Common.{◌≡◌, ◌⊎◌, ◌≤◌, ◌<◌, inl, inr, ℕ, Bool, true, false, List, [], ◌∷◌, Option, Some, None, refl, codes, bytes_eq, ◌==◌, arith}
use Rattle.std.proofs.lemmas.Bool.{ne_eqb}
use Rattle.clap.specs.Faults.{use_fault}
use Rattle.clap.specs.Simple.{filled, help_rule, version_rule}
use Rattle.clap.specs.Walk.{Row, Rule, Text, arg_by_long, arg_by_short, takes_values}
use Rattle.clap.specs.declared.error.kind.ErrorKind.{ErrorKind}
use Rattle.clap.specs.declared.error.kind.ErrorKind.TheVariants.{DisplayHelp, DisplayVersion}
use Rattle.qa_arguments.specs.why.Asked.{request_of_kind, shows}
use Rattle.qa_arguments.specs.why.Words.{Item, all, by_letter, by_name, json, quiet, rows, shown, warn, wrong}
use Rattle.qa_arguments.proofs.why_lemmas.Rows.{rule_for, rules, values_for}

-- an item does something
abbrev pub Acts : Item → Type 0
Acts shown = ⊥
Acts wrong = ⊥
Acts _ = Unit {0}

-- the rule is that of an item that stands alone
pub record IsFlagAt (o : Option Rule) (item : Item) : Type 0 where
  pub acts : Acts item
  pub is : o ≡ Some (rule_for item)
  pub takes : takes_values (rule_for item) ≡ false
  pub alone : values_for item ≡ []

-- the rule asks for the help or the version
pub record Asks (o : Option Rule) : Type 0 where
  pub rule : Rule
  pub is : o ≡ Some rule
  pub takes : takes_values rule ≡ false
  pub kind : ErrorKind
  pub fault : (found : List Row) → use_fault false rule [] found ≡ kind ∷ []
  pub shows_it : request_of_kind kind ≡ shows

abbrev pub Meaning : Option Rule → Item → Type 0
Meaning o item = IsFlagAt o item ⊎ (((item ≡ shown) × Asks o) ⊎ ((item ≡ wrong) × (o ≡ None)))

abbrev Named : Text → Type 0
Named name = Meaning (arg_by_long rules name) (by_name name)

asks_help : (o : Option Rule) → o ≡ Some (filled help_rule) → Asks o
asks_help o is = record { rule = filled help_rule; is = is; takes = refl; kind = DisplayHelp; fault = λ found. refl; shows_it = refl }

asks_version : (o : Option Rule) → o ≡ Some (filled version_rule) → Asks o
asks_version o is = record { rule = filled version_rule; is = is; takes = refl; kind = DisplayVersion; fault = λ found. refl; shows_it = refl }

flag_meaning : (o : Option Rule) (item one : Item) → item ≡ one → Acts one → takes_values (rule_for one) ≡ false → values_for one ≡ [] → o ≡ Some (rule_for one) → Meaning o item
flag_meaning o item one same acts takes alone is = rw same (inl (record { acts = acts; is = is; takes = takes; alone = alone }))

-- ---- names

module _ (name : Text) (not_around : bytes_eq (codes "around") name ≡ false) where
  name_version : (b : Bool) → bytes_eq (codes "version") name ≡ b → bytes_eq (codes "all") name ≡ false → bytes_eq (codes "json") name ≡ false
      → bytes_eq (codes "quiet") name ≡ false → bytes_eq (codes "rows") name ≡ false → bytes_eq (codes "warn") name ≡ false → bytes_eq (codes "help") name ≡ false → Named name
  name_version true is n1 n2 n3 n4 n5 n6 =
      inr (inl (rw (n1, n2, n3, n4, n5, n6, is) refl, asks_version (arg_by_long rules name) (rw (n1, not_around, n2, n3, n4, n5, n6, is) refl)))
  name_version false is n1 n2 n3 n4 n5 n6 =
      inr (inr (rw (n1, n2, n3, n4, n5, n6, is) refl, rw (n1, not_around, n2, n3, n4, n5, n6, is) refl))

  name_help : (b : Bool) → bytes_eq (codes "help") name ≡ b → bytes_eq (codes "all") name ≡ false → bytes_eq (codes "json") name ≡ false
      → bytes_eq (codes "quiet") name ≡ false → bytes_eq (codes "rows") name ≡ false → bytes_eq (codes "warn") name ≡ false → Named name
  name_help true is n1 n2 n3 n4 n5 = inr (inl (rw (n1, n2, n3, n4, n5, is) refl, asks_help (arg_by_long rules name) (rw (n1, not_around, n2, n3, n4, n5, is) refl)))
  name_help false is n1 n2 n3 n4 n5 = name_version (bytes_eq (codes "version") name) refl n1 n2 n3 n4 n5 is

  name_warn : (b : Bool) → bytes_eq (codes "warn") name ≡ b → bytes_eq (codes "all") name ≡ false → bytes_eq (codes "json") name ≡ false
      → bytes_eq (codes "quiet") name ≡ false → bytes_eq (codes "rows") name ≡ false → Named name
  name_warn true is n1 n2 n3 n4 =
      flag_meaning (arg_by_long rules name) (by_name name) warn (rw (n1, n2, n3, n4, is) refl) tt refl refl (rw (n1, not_around, n2, n3, n4, is) refl)
  name_warn false is n1 n2 n3 n4 = name_help (bytes_eq (codes "help") name) refl n1 n2 n3 n4 is

  name_rows : (b : Bool) → bytes_eq (codes "rows") name ≡ b → bytes_eq (codes "all") name ≡ false → bytes_eq (codes "json") name ≡ false
      → bytes_eq (codes "quiet") name ≡ false → Named name
  name_rows true is n1 n2 n3 =
      flag_meaning (arg_by_long rules name) (by_name name) rows (rw (n1, n2, n3, is) refl) tt refl refl (rw (n1, not_around, n2, n3, is) refl)
  name_rows false is n1 n2 n3 = name_warn (bytes_eq (codes "warn") name) refl n1 n2 n3 is

  name_quiet : (b : Bool) → bytes_eq (codes "quiet") name ≡ b → bytes_eq (codes "all") name ≡ false → bytes_eq (codes "json") name ≡ false → Named name
  name_quiet true is n1 n2 =
      flag_meaning (arg_by_long rules name) (by_name name) quiet (rw (n1, n2, is) refl) tt refl refl (rw (n1, not_around, n2, is) refl)
  name_quiet false is n1 n2 = name_rows (bytes_eq (codes "rows") name) refl n1 n2 is

  name_json : (b : Bool) → bytes_eq (codes "json") name ≡ b → bytes_eq (codes "all") name ≡ false → Named name
  name_json true is n1 = flag_meaning (arg_by_long rules name) (by_name name) json (rw (n1, is) refl) tt refl refl (rw (n1, not_around, is) refl)
  name_json false is n1 = name_quiet (bytes_eq (codes "quiet") name) refl n1 is

  name_all : (b : Bool) → bytes_eq (codes "all") name ≡ b → Named name
  name_all true is = flag_meaning (arg_by_long rules name) (by_name name) all (rw is refl) tt refl refl (rw is refl)
  name_all false is = name_json (bytes_eq (codes "json") name) refl is

  pub named_by : Named name
  named_by = name_all (bytes_eq (codes "all") name) refl

-- ---- letters

abbrev Lettered : ℕ → Type 0
Lettered c = Meaning (arg_by_short rules c) (by_letter c)

module _ (c : ℕ) where
  letter_version : (b : Bool) → (86 == c) ≡ b → (97 == c) ≡ false → (106 == c) ≡ false → (113 == c) ≡ false → (114 == c) ≡ false → (119 == c) ≡ false → (104 == c) ≡ false → Lettered c
  letter_version true is n1 n2 n3 n4 n5 n6 =
      inr (inl (rw (n1, n2, n3, n4, n5, n6, is) refl, asks_version (arg_by_short rules c) (rw (n1, n2, n3, n4, n5, n6, is) refl)))
  letter_version false is n1 n2 n3 n4 n5 n6 = inr (inr (rw (n1, n2, n3, n4, n5, n6, is) refl, rw (n1, n2, n3, n4, n5, n6, is) refl))

  letter_help : (b : Bool) → (104 == c) ≡ b → (97 == c) ≡ false → (106 == c) ≡ false → (113 == c) ≡ false → (114 == c) ≡ false → (119 == c) ≡ false → Lettered c
  letter_help true is n1 n2 n3 n4 n5 = inr (inl (rw (n1, n2, n3, n4, n5, is) refl, asks_help (arg_by_short rules c) (rw (n1, n2, n3, n4, n5, is) refl)))
  letter_help false is n1 n2 n3 n4 n5 = letter_version (86 == c) refl n1 n2 n3 n4 n5 is

  letter_warn : (b : Bool) → (119 == c) ≡ b → (97 == c) ≡ false → (106 == c) ≡ false → (113 == c) ≡ false → (114 == c) ≡ false → Lettered c
  letter_warn true is n1 n2 n3 n4 =
      flag_meaning (arg_by_short rules c) (by_letter c) warn (rw (n1, n2, n3, n4, is) refl) tt refl refl (rw (n1, n2, n3, n4, is) refl)
  letter_warn false is n1 n2 n3 n4 = letter_help (104 == c) refl n1 n2 n3 n4 is

  letter_rows : (b : Bool) → (114 == c) ≡ b → (97 == c) ≡ false → (106 == c) ≡ false → (113 == c) ≡ false → Lettered c
  letter_rows true is n1 n2 n3 = flag_meaning (arg_by_short rules c) (by_letter c) rows (rw (n1, n2, n3, is) refl) tt refl refl (rw (n1, n2, n3, is) refl)
  letter_rows false is n1 n2 n3 = letter_warn (119 == c) refl n1 n2 n3 is

  letter_quiet : (b : Bool) → (113 == c) ≡ b → (97 == c) ≡ false → (106 == c) ≡ false → Lettered c
  letter_quiet true is n1 n2 = flag_meaning (arg_by_short rules c) (by_letter c) quiet (rw (n1, n2, is) refl) tt refl refl (rw (n1, n2, is) refl)
  letter_quiet false is n1 n2 = letter_rows (114 == c) refl n1 n2 is

  letter_json : (b : Bool) → (106 == c) ≡ b → (97 == c) ≡ false → Lettered c
  letter_json true is n1 = flag_meaning (arg_by_short rules c) (by_letter c) json (rw (n1, is) refl) tt refl refl (rw (n1, is) refl)
  letter_json false is n1 = letter_quiet (113 == c) refl n1 is

  letter_all : (b : Bool) → (97 == c) ≡ b → Lettered c
  letter_all true is = flag_meaning (arg_by_short rules c) (by_letter c) all (rw is refl) tt refl refl (rw is refl)
  letter_all false is = letter_json (106 == c) refl is

  pub lettered_by : Lettered c
  lettered_by = letter_all (97 == c) refl

differs : (a c : ℕ) → a < 128 → 128 ≤ c → (a == c) ≡ false
differs a c low high = ne_eqb a c (λ same. omega arith)

-- what is not ASCII is no letter
pub high_letter : (c : ℕ) → 128 ≤ c → (by_letter c ≡ wrong) × (arg_by_short rules c ≡ None)
high_letter c high =
    let n1 = differs 97 c (omega arith) high in
    let n2 = differs 106 c (omega arith) high in
    let n3 = differs 113 c (omega arith) high in
    let n4 = differs 114 c (omega arith) high in
    let n5 = differs 119 c (omega arith) high in
    let n6 = differs 104 c (omega arith) high in
    let n7 = differs 86 c (omega arith) high in
    (rw (n1, n2, n3, n4, n5, n6, n7) refl, rw (n1, n2, n3, n4, n5, n6, n7) refl)
