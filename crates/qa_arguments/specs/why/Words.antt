-- What the arguments ask for, word by word.
use Rattle.std.specs.Prelude.{◌++◌, ◌==◌, ◌&&◌, ◌||◌, ℕ, Bool, not, pos, true, false, List, [], ◌∷◌}
use Rattle.std.specs.Prelude.{map, codes, find, Option, Some, None, is_some, if◌then◌else◌}
use Rattle.std.specs.List.{list_any}
use Rattle.std.specs.Str.{bytes_eq}
use Rattle.std.specs.Str.Parse.{digits_value, without_leading_sign}
use Rattle.clap.specs.Lexer.{long_of, short_of}
use Rattle.clap.specs.ValueTests.{is_signed_in}
use Rattle.qa_arguments.specs.why.Asked.{Request, Wanted, exclusive, refuses, shows, tells, told_of}

-- what words say: an option that stands alone, the option `around` with its value, a file, that the
-- help or the version is wanted, or what means nothing
pub data Item : Type 0 where
  all : Item
  json : Item
  quiet : Item
  rows : Item
  warn : Item
  around : List ℕ → Item
  file : List ℕ → Item
  shown : Item
  wrong : Item

-- ---- what the words say

-- an option by its long name, which is not `around`
abbrev pub by_name : List ℕ → Item
by_name name =
    if bytes_eq (codes "all") name then all
    else (if bytes_eq (codes "json") name then json
    else (if bytes_eq (codes "quiet") name then quiet
    else (if bytes_eq (codes "rows") name then rows
    else (if bytes_eq (codes "warn") name then warn
    else (if bytes_eq (codes "help") name || bytes_eq (codes "version") name then shown
    else wrong)))))

-- an option by its letter: a, j, q, r, w; h and V
abbrev pub by_letter : ℕ → Item
by_letter letter =
    if 97 == letter then all
    else (if 106 == letter then json
    else (if 113 == letter then quiet
    else (if 114 == letter then rows
    else (if 119 == letter then warn
    else (if 104 == letter || 86 == letter then shown
    else wrong)))))

-- a long name with what stands behind its `=`, before these items and those behind a value that is
-- awaited
abbrev pub named : List ℕ → Option (List ℕ) → List Item → List Item → List Item
named name (Some value) items behind =
    if bytes_eq (codes "around") name then around value ∷ items else wrong ∷ items
named name None items behind =
    if bytes_eq (codes "around") name then behind else by_name name ∷ items

-- a word that has letters behind a hyphen, or is a file
abbrev pub lettered : List ℕ → Option (List ℕ) → List Item → List Item
lettered word (Some letters) items = map by_letter letters ++ items
lettered word None items = file word ∷ items

abbrev pub said : List ℕ → Option (List ℕ × Option (List ℕ)) → List Item → List Item → List Item
said word (Some (name, value)) items behind = named name value items behind
said word None items behind = lettered word (short_of word) items

-- a word is an option, or `--`
abbrev pub is_option : List ℕ → Bool
is_option word = bytes_eq word (codes "--") || (is_some (long_of word) || is_some (short_of word))

abbrev mutual
  -- what words say, of which those behind `--` are files
  pub items_in : List (List ℕ) → List Item
  items_in [] = []
  items_in (word ∷ rest) =
      if bytes_eq word (codes "--") then map file rest
      else said word (long_of word) (items_in rest) (items_behind rest)

  -- the same behind `--around`, whose value is the next word
  pub items_behind : List (List ℕ) → List Item
  items_behind [] = wrong ∷ []
  items_behind (word ∷ rest) = if is_option word then wrong ∷ [] else around word ∷ items_in rest

-- ---- what they ask for

-- the option of an item, or `FILE`
abbrev pub name_of : Item → List ℕ
name_of all = codes "all"
name_of json = codes "json"
name_of quiet = codes "quiet"
name_of rows = codes "rows"
name_of warn = codes "warn"
name_of (around value) = codes "around"
name_of (file name) = codes "FILE"
name_of _ = []

abbrev pub has : List ℕ → List Item → Bool
has name items = list_any (λ item. bytes_eq (name_of item) name) items

-- the text is a number from 0 to 1000
abbrev pub is_lines : List ℕ → Bool
is_lines text = is_signed_in (pos 0) (pos 1000) text

-- the number of lines that is asked for, or 0
abbrev pub lines_in : List Item → ℕ
lines_in [] = 0
lines_in (around value ∷ rest) = digits_value 10 (without_leading_sign value)
lines_in (item ∷ rest) = lines_in rest

abbrev pub files_in : List Item → List (List ℕ)
files_in [] = []
files_in (file name ∷ rest) = name ∷ files_in rest
files_in (item ∷ rest) = files_in rest

abbrev pub inquiry : List Item → Wanted
inquiry items = record {
  told = told_of (has (codes "all") items) (has (codes "rows") items) (has (codes "json") items);
  quiet = has (codes "quiet") items;
  warn = has (codes "warn") items;
  around = lines_in items;
  files = files_in items;
}

-- an item means nothing behind these: an option was given already, or the number of lines is none
abbrev pub is_wrong : List Item → Item → Bool
is_wrong done (file name) = false
is_wrong done (around value) = has (codes "around") done || not (is_lines value)
is_wrong done wrong = true
is_wrong done item = has (name_of item) done

-- two options are among the items
abbrev pub have : List Item → List ℕ × List ℕ → Bool
have items pair = has pair.0 items && has pair.1 items

-- what items ask for, behind those that are done
abbrev pub asked_behind : List Item → List Item → Request
asked_behind done [] =
    if is_some (find (have done) exclusive) then refuses else tells (inquiry done)
asked_behind done (shown ∷ rest) = shows
asked_behind done (item ∷ rest) =
    if is_wrong done item then refuses else asked_behind (done ++ item ∷ []) rest

-- what the arguments behind the program's name ask for
abbrev pub asked : List (List ℕ) → Request
asked words = asked_behind [] (items_in words)
