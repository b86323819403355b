-- What the arguments ask for, and the parser that reads them.
use Rattle.std.specs.Prelude.{◌^◌, ◌++◌, ◌&&◌, ℕ, Bool, pos, true, false, List, [], ◌∷◌, map, codes}
use Rattle.std.specs.Prelude.{find, nat_lt, Option, Some, is_some, option_and_then, unwrap_or}
use Rattle.std.specs.Prelude.{if◌then◌else◌}
use Rattle.std.specs.Option.{option_map_or}
use Rattle.std.specs.Str.{bytes_eq}
use Rattle.std.specs.Str.Parse.{digits_value, without_leading_plus}
use Rattle.clap.specs.Simple.{App, new_app, new_rule, on_top, with_rule}
use Rattle.clap.specs.ValueTests.{is_numeral}
use Rattle.clap.specs.Walk.{Row, Rule, all_of, one_of}
use Rattle.clap.specs.declared.builder.action.ArgAction.TheVariants.{Set, Append, SetTrue}
use Rattle.clap.specs.declared.builder.value_parser.ValueParser.TheVariants.{Signed}
use Rattle.clap.specs.declared.parser.matches.ValueSource.{ValueSource}
use Rattle.clap.specs.declared.parser.matches.ValueSource.TheVariants.{CommandLine}
use Rattle.clap.specs.declared.error.kind.ErrorKind.{ErrorKind}
use Rattle.clap.specs.declared.error.kind.ErrorKind.TheVariants as kinds
use Rattle.qa_arguments.specs.declared.why.arguments.Asked.{Asked}
use Rattle.qa_arguments.specs.declared.why.arguments.Asked.TheVariants as asked
use Rattle.qa_arguments.specs.declared.why.arguments.Inquiry.{Inquiry}
use Rattle.qa_arguments.specs.declared.why.arguments.Told.{Told}
use Rattle.qa_arguments.specs.declared.why.arguments.Told.TheVariants as told
use Rattle.qa_format.specs.declared.form.Form.TheVariants as form

-- ---- what is asked for

-- what an inquiry says
pub record Wanted : Type 0 where
  pub told : Told
  pub quiet : Bool
  pub warn : Bool
  pub around : ℕ
  pub files : List (List ℕ)

-- to tell of traces; for a text, the help or the version; or for nothing
pub data Request : Type 0 where
  tells : Wanted → Request
  shows : Request
  refuses : Request

abbrev pub wanted : Inquiry → Wanted
wanted inquiry = record {
  told = inquiry.told;
  quiet = inquiry.quiet;
  warn = inquiry.warn;
  around = inquiry.around;
  files = map (λ name. name.now) inquiry.files.items;
}

abbrev pub request : Asked → Request
request (asked.Why inquiry) = tells (wanted inquiry)
request (asked.Text text) = shows
request (asked.Nothing text) = refuses

-- ---- the parser, as the definitions of `clap` see it

-- an option with no value, by its long name and a character
abbrev pub flag_rule : List ℕ → ℕ → Rule
flag_rule name short =
    record (new_rule name) { long = Some name; short = Some short; action = Some SetTrue }

-- an option whose value is a number of lines, up to 1000
abbrev pub around_rule : Rule
around_rule = record (new_rule (codes "around")) {
  long = Some (codes "around");
  action = Some Set;
  value_names = 1;
  parser = Some (Signed (pos 0) (pos 1000));
}

abbrev pub files_rule : Rule
files_rule = record (new_rule (codes "FILE")) { action = Some Append }

abbrev pub parser_alone : App
parser_alone =
    on_top (λ s. record s { no_binary_name = true; has_version = true })
    (new_app (codes "qaudit-why"))

abbrev pub parser_of_arguments : App
parser_of_arguments =
    with_rule (with_rule (with_rule (with_rule (with_rule (with_rule (with_rule parser_alone
    (flag_rule (codes "all") 97)) around_rule) (flag_rule (codes "json") 106))
    (flag_rule (codes "quiet") 113))
    (flag_rule (codes "rows") 114)) (flag_rule (codes "warn") 119)) files_rule

-- ---- what its matches ask for

-- an option with no value was given
abbrev pub flag_in : List ℕ → List Row → Bool
flag_in name rows = option_map_or (λ text. bytes_eq text (codes "true")) (one_of name rows) false

-- the number of 16 bits that a text is, or 0
abbrev pub number_or_zero : List ℕ → ℕ
number_or_zero text =
    let digits = without_leading_plus text in
    if is_numeral digits
    && nat_lt (digits_value 10 digits) (2 ^ 16) then digits_value 10 digits else 0

-- the number that an option was given, or 0
abbrev pub number_in : List ℕ → List Row → ℕ
number_in name rows = option_map_or number_or_zero (one_of name rows) 0

-- what is told, by the options `all`, `rows` and `json`
abbrev pub told_of : Bool → Bool → Bool → Told
told_of all true json = if all then told.AllRows else told.Rows
told_of all false json =
    (if all then told.All else told.Why) (if json then form.Json else form.Text)

abbrev pub wanted_in : List Row → Wanted
wanted_in rows = record {
  told =
      told_of (flag_in (codes "all") rows) (flag_in (codes "rows") rows)
      (flag_in (codes "json") rows);
  quiet = flag_in (codes "quiet") rows;
  warn = flag_in (codes "warn") rows;
  around = number_in (codes "around") rows;
  files = unwrap_or (all_of (codes "FILE") rows) [];
}

-- the arguments gave a value, which is no default
abbrev pub by_words : Option ValueSource → Bool
by_words (Some CommandLine) = true
by_words _ = false

-- an option was given
abbrev pub is_given : List ℕ → List Row → Bool
is_given name rows =
    by_words (option_and_then (λ row. row.source) (find (λ row. bytes_eq row.id name) rows))

-- the options that exclude each other
abbrev pub exclusive : List (List ℕ × List ℕ)
exclusive =
    (codes "rows", codes "json") ∷ (codes "rows", codes "quiet") ∷ (codes "rows", codes "warn")
    ∷ (codes "rows", codes "around") ∷ []

-- two options were given
abbrev pub are_given : List Row → List ℕ × List ℕ → Bool
are_given rows pair = is_given pair.0 rows && is_given pair.1 rows

-- the first two that were given and exclude each other
abbrev pub clash_in : List Row → Option (List ℕ × List ℕ)
clash_in rows = find (are_given rows) exclusive

-- what is said of them
unfoldable pub clash_text : List ℕ → List ℕ → List ℕ
clash_text one other =
    codes "error: the argument '--" ++ one ++ codes "' cannot be used with '--" ++ other
    ++ codes "'\n\nUsage: qaudit-why [OPTIONS] [FILE]...\n\nFor more information, try '--help'.\n"

-- the parser ends so where its help or its version is asked for
abbrev pub is_shown : ErrorKind → Bool
is_shown kinds.DisplayHelp = true
is_shown kinds.DisplayVersion = true
is_shown _ = false

abbrev pub request_of_kind : ErrorKind → Request
request_of_kind kind = if is_shown kind then shows else refuses

-- what matches ask for: nothing, where two options exclude each other
abbrev pub asked_in : List Row → Request
asked_in rows = if is_some (clash_in rows) then refuses else tells (wanted_in rows)
