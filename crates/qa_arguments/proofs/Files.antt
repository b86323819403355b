-- How the definitions of `clap` read the words behind a subcommand.
use Rattle.std.proofs.Common.{◌≡◌, ◌∙◌, ℕ, Bool, cond, true, false, List, [], ◌∷◌, ◌++◌, fold, Option, Some, None, refl, sym, ap, ap₂, append_assoc, append-nil, codes, bytes_eq}
use Rattle.std.specs.Prelude.{option_map, unwrap_or}
use Rattle.std.specs.Option.{option_to_list}
use Rattle.clap.specs.Faults.{check_fault, defaults_fault, level_fault, settle_fault, step_fault, turn_fault, walk_fault}
use Rattle.clap.specs.Kinds.{Kinds, or_else}
use Rattle.clap.specs.Simple.{Shape, built_leaf, filled, inherited, marked_built, on_top, rows_at, with_leaf_noted}
use Rattle.clap.specs.Walk.{Held, Row, Rule, Step, Text, Waiting, Walk, after_step, all_of, finished, first_of, idle, nothing_held, positional, reading_by, settled, value, walked, word_met}
use Rattle.clap.specs.declared.parser.matches.ValueSource.TheVariants.{CommandLine}
use Rattle.clap.specs.declared.error.kind.ErrorKind.TheVariants.{UnknownArgument}
use Rattle.qa_arguments.specs.Arguments.{check_parser, explain_parser, is_option, many_files, names_in, parser_of_arguments}
use Rattle.qa_arguments.proofs.Words.{Fails, HasNoOption, IsFlag, IsPlain, Runs, WaitsForNone, fail_later, fail_now, fault_dashes, fault_flag, fault_plain, flag_word, met_dashes, met_plain, no_names, or_else_none, plain_word, run_more, run_none, turn_of, walked_of}

-- ---- the subcommands, once the parser is built

abbrev pub above : Shape
above = (on_top with_leaf_noted (on_top marked_built parser_of_arguments)).top

abbrev pub check_shape : Shape
check_shape = built_leaf (inherited above check_parser.top)

abbrev pub explain_shape : Shape
explain_shape = built_leaf (inherited above explain_parser.top)

abbrev pub many : List Rule
many = check_shape.rules

abbrev pub one : List Rule
one = explain_shape.rules

many_names_none : HasNoOption many
many_names_none = record { long = λ name. refl; short = λ c. refl }

one_names_none : HasNoOption one
one_names_none = record { long = λ name. refl; short = λ c. refl }

-- ---- any number of files

-- the files that were met, where one was: all but the last, and the last
abbrev Met : Type 0
Met = Option (List Text × Text)

abbrev all_met : Met → List Text
all_met None = []
all_met (Some (front, last)) = front ++ last ∷ []

abbrev one_more_met : Met → Text → Met
one_more_met None word = Some ([], word)
one_more_met (Some (front, last)) word = Some (front ++ last ∷ [], word)

abbrev many_rows : List Text → List Row
many_rows [] = []
many_rows (file ∷ files) = record {
  id = codes "FILE";
  values = file ∷ files;
  count = None;
  source = Some CommandLine;
  reading = reading_by (filled many_files);
} ∷ []

abbrev rows_met : Met → List Row
rows_met None = []
rows_met (Some (front, last)) = many_rows front

abbrev pending_met : Met → Option (Text × List Text)
pending_met None = None
pending_met (Some (front, last)) = Some (codes "FILE", last ∷ [])

abbrev many_waits : Met → Waiting
many_waits None = idle
many_waits (Some (front, last)) = positional

abbrev many_held : Met → Held
many_held met = record { rows = rows_met met; pending = pending_met met; skip = 0 }

-- where the walk stands that met these files, and `--` or not
abbrev at_many : Met → Bool → Walk
at_many met is_trailing = record {
  held = many_held met;
  waiting = many_waits met;
  position = 1;
  is_trailing = is_trailing;
  stopped = None;
}

more_met : (met : Met) (word : Text) (words : List Text) → all_met (one_more_met met word) ++ words ≡ all_met met ++ word ∷ words
more_met None word words = refl
more_met (Some (front, last)) word words = append_assoc (front ++ last ∷ []) (word ∷ []) words

-- the walk goes on to these files
record ManyRuns (met : Met) (is_trailing : Bool) (words names : List Text) : Type 0 where
  end : Met
  ends_trailing : Bool
  runs : Runs check_shape [] (at_many met is_trailing) words (at_many end ends_trailing)
  files : all_met end ≡ all_met met ++ names

many_runs_none : (met : Met) (is_trailing : Bool) → ManyRuns met is_trailing [] []
many_runs_none met is_trailing = record {
  end = met;
  ends_trailing = is_trailing;
  runs = run_none check_shape [] (at_many met is_trailing);
  files = sym (append-nil (all_met met));
}

-- a word that is a file
many_runs_more : (met : Met) (a b : Bool) (word : Text) (words names : List Text) → turn_fault check_shape [] (at_many met a) word ≡ []
    → walked many [] (at_many met a) word ≡ at_many (one_more_met met word) b → ManyRuns (one_more_met met word) b words names
    → ManyRuns met a (word ∷ words) (word ∷ names)
many_runs_more met a b word words names fine is later = record {
  end = later.end;
  ends_trailing = later.ends_trailing;
  runs = run_more check_shape [] (at_many met a) (at_many (one_more_met met word) b) (at_many later.end later.ends_trailing) word words fine is later.runs;
  files = later.files ∙ more_met met word names;
}

-- a value behind `--`
many_trailing_turn : (met : Met) (word : Text) → turn_fault check_shape [] (at_many met true) word ≡ []
many_trailing_turn None word = refl
many_trailing_turn (Some ([], last)) word = refl
many_trailing_turn (Some (file ∷ files, last)) word = refl

many_trailing_walk : (met : Met) (word : Text) → walked many [] (at_many met true) word ≡ at_many (one_more_met met word) true
unfolding walked
many_trailing_walk None word = refl
many_trailing_walk (Some ([], last)) word = refl
many_trailing_walk (Some (file ∷ files, last)) word = refl

many_trailing : (met : Met) (words : List Text) → ManyRuns met true words words
many_trailing met [] = many_runs_none met true
many_trailing met (word ∷ words) =
    many_runs_more met true true word words words (many_trailing_turn met word) (many_trailing_walk met word) (many_trailing (one_more_met met word) words)

-- a plain word
waits_for_none : (met : Met) → WaitsForNone (many_waits met)
waits_for_none None = tt
waits_for_none (Some (front, last)) = tt

many_met : (met : Met) (word : Text) → IsPlain word
    → ◌≡◌ {A = Held × Step} (word_met many [] false (many_waits met) 1 word (many_held met)) (many_held met, value)
many_met met word plain =
    met_plain many [] (many_waits met) 1 word (rows_met met) (pending_met met) (no_names (many_waits met) word) (waits_for_none met) plain

many_plain_turn : (met : Met) (word : Text) → IsPlain word → turn_fault check_shape [] (at_many met false) word ≡ []
many_plain_turn met word plain =
    turn_of check_shape [] (at_many met false) word [] (many_held met, value) refl
    (fault_plain check_shape [] (many_waits met) word (rows_met met) (pending_met met) (no_names (many_waits met) word) plain)
    (many_met met word plain) ∙ fits met
  where
    fits : (m : Met) → step_fault check_shape 1 (many_held m) value ≡ []
    fits None = refl
    fits (Some ([], last)) = refl
    fits (Some (file ∷ files, last)) = refl

many_plain_walk : (met : Met) (word : Text) → IsPlain word → walked many [] (at_many met false) word ≡ at_many (one_more_met met word) false
many_plain_walk met word plain = walked_of many [] (at_many met false) word _ refl (many_met met word plain) ∙ takes met
  where
    takes : (m : Met) → after_step many word (at_many m false) (many_held m) value ≡ at_many (one_more_met m word) false
    takes None = refl
    takes (Some ([], last)) = refl
    takes (Some (file ∷ files, last)) = refl

-- what comes of the words, by the names in them
abbrev ManyEnds : Met → List Text → Option (List Text) → Type 0
ManyEnds met words None = Fails check_shape [] (at_many met false) words
ManyEnds met words (Some names) = ManyRuns met false words names

many_lift : (met : Met) (word : Text) (words : List Text) (o : Option (List Text)) → IsPlain word → ManyEnds (one_more_met met word) words o
    → ManyEnds met (word ∷ words) (option_map (λ names. word ∷ names) o)
many_lift met word words None plain fails =
    fail_later check_shape [] (at_many met false) (at_many (one_more_met met word) false) word words (many_plain_turn met word plain) (many_plain_walk met word plain) fails
many_lift met word words (Some names) plain later =
    many_runs_more met false false word words names (many_plain_turn met word plain) (many_plain_walk met word plain) later

many_dashes : (met : Met) (word : Text) (words : List Text) → bytes_eq word (codes "--") ≡ true → ManyRuns met false (word ∷ words) words
many_dashes met word words is =
    let trailing_met = met_dashes many [] (many_waits met) 1 word (many_held met) (no_names (many_waits met) word) is in
    let later = many_trailing met words in
    record {
      end = later.end;
      ends_trailing = later.ends_trailing;
      runs = run_more check_shape [] (at_many met false) (at_many met true) (at_many later.end later.ends_trailing) word words
          (turn_of check_shape [] (at_many met false) word [] _ refl
          (fault_dashes check_shape [] (many_waits met) word (many_held met) (no_names (many_waits met) word) is) trailing_met)
          (walked_of many [] (at_many met false) word _ refl trailing_met) later.runs;
      files = later.files;
    }

many_word : (met : Met) (word : Text) (words : List Text) (dashes : Bool) → bytes_eq word (codes "--") ≡ dashes → (flag : Bool) → is_option word ≡ flag
    → ManyEnds (one_more_met met word) words (names_in words)
    → ManyEnds met (word ∷ words) (cond dashes (Some words) (cond flag None (option_map (λ names. word ∷ names) (names_in words))))
many_word met word words true is flag _ later = many_dashes met word words is
many_word met word words false is true named later =
    fail_now check_shape [] (at_many met false) word words UnknownArgument []
    (turn_of check_shape [] (at_many met false) word (UnknownArgument ∷ []) _ refl
    (fault_flag check_shape [] (many_waits met) word (rows_met met) (pending_met met) many_names_none (no_names (many_waits met) word) (flag_word word is named)) refl)
many_word met word words false is false named later = many_lift met word words (names_in words) (plain_word word is named) later

many_ends : (met : Met) (words : List Text) → ManyEnds met words (names_in words)
many_ends met [] = many_runs_none met false
many_ends met (word ∷ words) =
    many_word met word words (bytes_eq word (codes "--")) refl (is_option word) refl (many_ends (one_more_met met word) words)

-- ---- what `check` makes of its words

-- the last tests
abbrev last_fault : Shape → Walk → Kinds
last_fault s w = or_else (settle_fault s.rules s.args_override_self w.held)
    (or_else (defaults_fault (settled s.rules w.held).rows s.rules) (check_fault s (finished s.rules w.held) false))

many_last : (met : Met) (is_trailing : Bool) → last_fault check_shape (at_many met is_trailing) ≡ []
unfolding defaults_fault
many_last None is_trailing = refl
many_last (Some ([], last)) is_trailing = refl
many_last (Some (file ∷ files, last)) is_trailing = refl

level_of : (s : Shape) (words : List Text) (end : Walk) (w : Walk) → Runs s [] w words end
    → or_else (walk_fault s [] w words) (or_else [] (last_fault s (fold (walked s.rules []) w words))) ≡ last_fault s end
level_of s words end w runs = ap₂ (λ (k : Kinds) (x : Walk). or_else k (or_else [] (last_fault s x))) runs.fine runs.ends

many_ended : (words names : List Text) → names_in words ≡ Some names → ManyRuns None false words names
many_ended words names is = let ends : ManyEnds None words (Some names) = rw is at (many_ends None words) in ends

pub check_takes : (words names : List Text) → names_in words ≡ Some names → level_fault check_shape [] nothing_held words false [] ≡ []
check_takes words names is =
    let ends = many_ended words names is in
    level_of check_shape words (at_many ends.end ends.ends_trailing) (at_many None false) ends.runs ∙ many_last ends.end ends.ends_trailing

pub check_refuses : (words : List Text) → names_in words ≡ None → level_fault check_shape [] nothing_held words false [] ≡ [] → ⊥
check_refuses words is none =
    let fails : ManyEnds None words None = rw is at (many_ends None words) in
    fails (or_else_none _ _ none)

many_all : (met : Met) → unwrap_or (all_of (codes "FILE") (finished many (many_held met))) [] ≡ all_met met
many_all None = refl
many_all (Some ([], last)) = refl
many_all (Some (file ∷ files, last)) = refl

pub check_reads : (words names : List Text) → names_in words ≡ Some names → unwrap_or (all_of (codes "FILE") (rows_at check_shape words).1) [] ≡ names
check_reads words names is =
    let ends = many_ended words names is in
    ap (λ (w : Walk). unwrap_or (all_of (codes "FILE") (finished many w.held)) []) ends.runs.ends ∙ (many_all ends.end ∙ ends.files)

-- ---- one file at most

abbrev one_pending : Option Text → Option (Text × List Text)
one_pending None = None
one_pending (Some file) = Some (codes "FILE", file ∷ [])

abbrev one_position : Option Text → ℕ
one_position None = 1
one_position (Some file) = 2

abbrev pub one_held : Option Text → Held
one_held file = record { rows = []; pending = one_pending file; skip = 0 }

abbrev pub at_one : Option Text → Bool → Walk
at_one file is_trailing = record {
  held = one_held file;
  waiting = idle;
  position = one_position file;
  is_trailing = is_trailing;
  stopped = None;
}

-- what comes of the words, by the names in them
abbrev OneRuns : Option Text → Bool → List Text → Option Text → Type 0
OneRuns file is_trailing words end = (later : Bool) × Runs explain_shape [] (at_one file is_trailing) words (at_one end later)

abbrev OneFails : Option Text → Bool → List Text → Type 0
OneFails file is_trailing words = Fails explain_shape [] (at_one file is_trailing) words

abbrev OneEnds : Option Text → Bool → List Text → List Text → Type 0
OneEnds None is_trailing words [] = OneRuns None is_trailing words None
OneEnds None is_trailing words (name ∷ []) = OneRuns None is_trailing words (Some name)
OneEnds None is_trailing words (name ∷ more ∷ names) = OneFails None is_trailing words
OneEnds (Some file) is_trailing words [] = OneRuns (Some file) is_trailing words (Some file)
OneEnds (Some file) is_trailing words (name ∷ names) = OneFails (Some file) is_trailing words

-- one word was met, of which comes no fault
abbrev Goes : Option Text → Bool → Text → Option Text → Bool → Type 0
Goes file is_trailing word next later =
    (turn_fault explain_shape [] (at_one file is_trailing) word ≡ []) × (walked one [] (at_one file is_trailing) word ≡ at_one next later)

one_runs : (file next end : Option Text) (a b : Bool) (word : Text) (words : List Text) → Goes file a word next b → OneRuns next b words end
    → OneRuns file a (word ∷ words) end
one_runs file next end a b word words goes (later, runs) =
    (later, run_more explain_shape [] (at_one file a) (at_one next b) (at_one end later) word words goes.0 goes.1 runs)

one_fails : (file next : Option Text) (a b : Bool) (word : Text) (words : List Text) → Goes file a word next b → OneFails next b words
    → OneFails file a (word ∷ words)
one_fails file next a b word words goes fails = fail_later explain_shape [] (at_one file a) (at_one next b) word words goes.0 goes.1 fails

-- the first file
one_first : (a b : Bool) (word : Text) (words names : List Text) → Goes None a word (Some word) b → OneEnds (Some word) b words names
    → OneEnds None a (word ∷ words) (word ∷ names)
one_first a b word words [] goes runs = one_runs None (Some word) (Some word) a b word words goes runs
one_first a b word words (name ∷ names) goes fails = one_fails None (Some word) a b word words goes fails

-- a word that is no file
one_passes : (file : Option Text) (a b : Bool) (word : Text) (words names : List Text) → Goes file a word file b → OneEnds file b words names
    → OneEnds file a (word ∷ words) names
one_passes None a b word words [] goes runs = one_runs None None None a b word words goes runs
one_passes None a b word words (name ∷ []) goes runs = one_runs None None (Some name) a b word words goes runs
one_passes None a b word words (name ∷ more ∷ names) goes fails = one_fails None None a b word words goes fails
one_passes (Some file) a b word words [] goes runs = one_runs (Some file) (Some file) (Some file) a b word words goes runs
one_passes (Some file) a b word words (name ∷ names) goes fails = one_fails (Some file) (Some file) a b word words goes fails

-- behind `--`
one_goes_trailing : (word : Text) → Goes None true word (Some word) true
unfolding walked
one_goes_trailing word = (refl, refl)

one_strays_trailing : (file word : Text) → turn_fault explain_shape [] (at_one (Some file) true) word ≡ UnknownArgument ∷ []
one_strays_trailing file word = refl

one_trailing : (file : Option Text) (words : List Text) → OneEnds file true words words
one_trailing None [] = (true, run_none explain_shape [] (at_one None true))
one_trailing (Some file) [] = (true, run_none explain_shape [] (at_one (Some file) true))
one_trailing None (word ∷ words) = one_first true true word words words (one_goes_trailing word) (one_trailing (Some word) words)
one_trailing (Some file) (word ∷ words) = fail_now explain_shape [] (at_one (Some file) true) word words UnknownArgument [] (one_strays_trailing file word)

-- before it
one_goes_dashes : (file : Option Text) (word : Text) → bytes_eq word (codes "--") ≡ true → Goes file false word file true
one_goes_dashes file word is =
    let met = met_dashes one [] idle (one_position file) word (one_held file) refl is in (
      turn_of explain_shape [] (at_one file false) word [] _ refl (fault_dashes explain_shape [] idle word (one_held file) refl is) met,
      walked_of one [] (at_one file false) word _ refl met,
    )

one_goes_plain : (word : Text) → IsPlain word → Goes None false word (Some word) false
one_goes_plain word plain =
    let met = met_plain one [] idle 1 word [] None refl tt plain in (
      turn_of explain_shape [] (at_one None false) word [] _ refl (fault_plain explain_shape [] idle word [] None refl plain) met,
      walked_of one [] (at_one None false) word _ refl met,
    )

one_strays : (file word : Text) (words : List Text) → IsPlain word → OneFails (Some file) false (word ∷ words)
one_strays file word words plain =
    fail_now explain_shape [] (at_one (Some file) false) word words UnknownArgument []
    (turn_of explain_shape [] (at_one (Some file) false) word [] _ refl
    (fault_plain explain_shape [] idle word [] (one_pending (Some file)) refl plain)
    (met_plain one [] idle 2 word [] (one_pending (Some file)) refl tt plain))

one_refuses : (file : Option Text) (word : Text) (words : List Text) → IsFlag word → OneFails file false (word ∷ words)
one_refuses file word words flag =
    fail_now explain_shape [] (at_one file false) word words UnknownArgument []
    (turn_of explain_shape [] (at_one file false) word (UnknownArgument ∷ []) _ refl
    (fault_flag explain_shape [] idle word [] (one_pending file) one_names_none refl flag) refl)

abbrev OneAsked : Option Text → List Text → Option (List Text) → Type 0
OneAsked file words None = OneFails file false words
OneAsked file words (Some names) = OneEnds file false words names

one_lift : (word : Text) (words : List Text) (o : Option (List Text)) → IsPlain word → OneAsked (Some word) words o
    → OneAsked None (word ∷ words) (option_map (λ names. word ∷ names) o)
one_lift word words None plain fails = one_fails None (Some word) false false word words (one_goes_plain word plain) fails
one_lift word words (Some names) plain ends = one_first false false word words names (one_goes_plain word plain) ends

one_more : (file word : Text) (words : List Text) (o : Option (List Text)) → IsPlain word
    → OneAsked (Some file) (word ∷ words) (option_map (λ names. word ∷ names) o)
one_more file word words None plain = one_strays file word words plain
one_more file word words (Some names) plain = one_strays file word words plain

one_word : (file : Option Text) (word : Text) (words : List Text) (dashes : Bool) → bytes_eq word (codes "--") ≡ dashes → (flag : Bool) → is_option word ≡ flag
    → OneAsked (Some word) words (names_in words)
    → OneAsked file (word ∷ words) (cond dashes (Some words) (cond flag None (option_map (λ names. word ∷ names) (names_in words))))
one_word file word words true is flag _ later = one_passes file false true word words words (one_goes_dashes file word is) (one_trailing file words)
one_word file word words false is true named later = one_refuses file word words (flag_word word is named)
one_word None word words false is false named later = one_lift word words (names_in words) (plain_word word is named) later
one_word (Some file) word words false is false named later = one_more file word words (names_in words) (plain_word word is named)

one_ends : (file : Option Text) (words : List Text) → OneAsked file words (names_in words)
one_ends None [] = (false, run_none explain_shape [] (at_one None false))
one_ends (Some file) [] = (false, run_none explain_shape [] (at_one (Some file) false))
one_ends file (word ∷ words) = one_word file word words (bytes_eq word (codes "--")) refl (is_option word) refl (one_ends (Some word) words)

-- ---- what `explain` makes of its words

one_last : (file : Option Text) (is_trailing : Bool) → last_fault explain_shape (at_one file is_trailing) ≡ []
unfolding defaults_fault
one_last None is_trailing = refl
one_last (Some file) is_trailing = refl

one_read : (file : Option Text) → option_to_list (first_of (codes "FILE") (finished one (one_held file))) ≡ option_to_list file
one_read None = refl
one_read (Some file) = refl

-- `explain` takes the words, and this file is in them
pub record Explains (words : List Text) (file : Option Text) : Type 0 where
  pub takes : level_fault explain_shape [] nothing_held words false [] ≡ []
  pub reads : option_to_list (first_of (codes "FILE") (rows_at explain_shape words).1) ≡ option_to_list file

explains_by : (words : List Text) (file : Option Text) → OneRuns None false words file → Explains words file
explains_by words file (later, runs) = record {
  takes = level_of explain_shape words (at_one file later) (at_one None false) runs ∙ one_last file later;
  reads = ap (λ (w : Walk). option_to_list (first_of (codes "FILE") (finished one w.held))) runs.ends ∙ one_read file;
}

pub explain_none : (words : List Text) → names_in words ≡ Some [] → Explains words None
explain_none words is =
    let ends : OneAsked None words (Some []) = rw is at (one_ends None words) in
    explains_by words None ends

pub explain_one : (words : List Text) (name : Text) → names_in words ≡ Some (name ∷ []) → Explains words (Some name)
explain_one words name is =
    let ends : OneAsked None words (Some (name ∷ [])) = rw is at (one_ends None words) in
    explains_by words (Some name) ends

refused_by : (words : List Text) → OneFails None false words → level_fault explain_shape [] nothing_held words false [] ≡ [] → ⊥
refused_by words fails none = fails (or_else_none _ _ none)

pub explain_more : (words : List Text) (name next : Text) (names : List Text) → names_in words ≡ Some (name ∷ next ∷ names)
    → level_fault explain_shape [] nothing_held words false [] ≡ [] → ⊥
explain_more words name next names is =
    let fails : OneAsked None words (Some (name ∷ next ∷ names)) = rw is at (one_ends None words) in
    refused_by words fails

pub explain_refuses : (words : List Text) → names_in words ≡ None → level_fault explain_shape [] nothing_held words false [] ≡ [] → ⊥
explain_refuses words is =
    let fails : OneAsked None words None = rw is at (one_ends None words) in
    refused_by words fails
