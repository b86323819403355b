-- What the arguments of the command line ask for, and the parser that reads them.
use Rattle.std.specs.Prelude.{◌≡◌, ◌⊎◌, ◌==◌, ◌&&◌, ℕ, Bool, true, false, List, [], ◌∷◌, map, codes}
use Rattle.std.specs.Prelude.{length, nat_le, is_some, slice_get, Option, Some, None, option_map}
use Rattle.std.specs.Prelude.{option_and_then, unwrap_or, if◌then◌else◌}
use Rattle.std.specs.Option.{option_to_list}
use Rattle.std.specs.Str.{bytes_eq, chars}
use Rattle.clap.specs.Simple.{App, new_app, new_rule, on_top, with_rule, with_subcommand}
use Rattle.clap.specs.Walk.{Row, Rule, all_of, first_of}
use Rattle.clap.specs.declared.builder.action.ArgAction.TheVariants.{Set, Append}
use Rattle.clap.specs.declared.error.kind.ErrorKind.{ErrorKind}
use Rattle.clap.specs.declared.error.kind.ErrorKind.TheVariants as kinds
use Rattle.qa_arguments.specs.declared.parsing.Subcommand.{Subcommand}
use Rattle.qa_arguments.specs.declared.parsing.Subcommand.TheVariants.{Check, Explain}
use Rattle.qa_arguments.specs.declared.fault.ArgumentsFault.{ArgumentsFault}
use Rattle.qa_arguments.specs.declared.fault.ArgumentsFault.TheVariants.{OutOfMemory, Refused}

-- ---- what they ask for

-- an option: a hyphen, and a character behind it
abbrev pub is_option : List ℕ → Bool
is_option [] = false
is_option (byte ∷ rest) = byte == 45 && is_some (slice_get (chars rest) 0)

-- the names of files among the arguments behind a subcommand. Up to the first `--` none may be an
-- option; behind it all are names
abbrev pub names_in : List (List ℕ) → Option (List (List ℕ))
names_in [] = Some []
names_in (argument ∷ rest) =
    if bytes_eq argument (codes "--") then Some rest
    else (if is_option argument then None else option_map (λ names. argument ∷ names)
    (names_in rest))

-- a subcommand with its files, of which `explain` has one at most
abbrev pub asked_of : List ℕ → List (List ℕ) → Option (List ℕ × List (List ℕ))
asked_of command names =
    if bytes_eq (codes "check") command then Some (codes "check", names)
    else (if bytes_eq (codes "explain") command
    && nat_le (length names) 1 then Some (codes "explain", names) else None)

-- what the arguments behind the program's name ask for
abbrev pub asked : List (List ℕ) → Option (List ℕ × List (List ℕ))
asked [] = None
asked (command ∷ rest) = option_and_then (asked_of command) (names_in rest)

-- the same of a subcommand that was read
abbrev pub request : Subcommand → List ℕ × List (List ℕ)
request (Check files) = (codes "check", map (λ file. file.now) files.items)
request (Explain file) = (codes "explain", option_to_list (option_map (λ name. name.now) file))

-- the name of a subcommand
abbrev pub IsCommand : List ℕ → Type 0
IsCommand command = (command ≡ codes "check") ⊎ (command ≡ codes "explain")

-- ---- the parser, as the definitions of `clap` see it

abbrev pub many_files : Rule
many_files = record (new_rule (codes "FILE")) { action = Some Append }

abbrev pub one_file : Rule
one_file = record (new_rule (codes "FILE")) { action = Some Set }

abbrev pub without_help : App → App
without_help = on_top (λ s. record s { disable_help_flag = true })

abbrev pub check_parser : App
check_parser = with_rule (without_help (new_app (codes "check"))) many_files

abbrev pub explain_parser : App
explain_parser = with_rule (without_help (new_app (codes "explain"))) one_file

abbrev pub parser_alone : App
parser_alone =
    on_top (λ s. record s {
      no_binary_name = true;
      disable_help_subcommand = true;
      subcommand_required = true;
    }) (without_help (new_app (codes "qaudit")))

abbrev pub parser_of_arguments : App
parser_of_arguments =
    with_subcommand (with_subcommand parser_alone check_parser.top) explain_parser.top

-- the files of a subcommand, by what its parser found
pub record HasFiles (command : List ℕ) (names : List (List ℕ)) (rows : List Row) : Type 0 where
  pub all : command ≡ codes "check" → unwrap_or (all_of (codes "FILE") rows) [] ≡ names
  pub first : command ≡ codes "explain" → option_to_list (first_of (codes "FILE") rows) ≡ names

-- the failure of a parse with an error of this kind
abbrev pub fault_of_kind : ErrorKind → ArgumentsFault
fault_of_kind kinds.OutOfMemory = OutOfMemory
fault_of_kind _ = Refused
