-- What the definitions of `clap` make of the whole command line.
use Rattle.std.proofs.Common.{◌≡◌, ◌∙◌, ◌⊎◌, inl, inr, Bool, true, false, List, [], ◌∷◌, ◌++◌, length, fold, Option, Some, None, refl, sym, ap, ap₂, append_assoc, append-nil, codes, bytes_eq, nat_le, is_some, Result, Ok, Err, arith}
use Rattle.std.proofs.lemmas.Bool.{lt-leb}
use Rattle.std.specs.Prelude.{option_map, option_and_then, unwrap_or}
use Rattle.std.specs.Option.{option_to_list}
use Rattle.std.specs.Prelude.{Box}
use Rattle.std.specs.Box.{box_value}
use Rattle.clap.proofs.WalkLemmas.{first_value-rows, raw_values-rows}
use Rattle.clap.specs.Faults.{is_simple_and_free, check_fault, defaults_fault, entered_fault, fault_of, settle_fault, turn_fault, walk_fault}
use Rattle.clap.specs.Kinds.{FailsBy, IsAmong, Kinds, or_else}
use Rattle.clap.specs.Matches.{first_value, matched_of, raw_values, subcommand_name_of}
use Rattle.clap.specs.Simple.{App, HasMatchesOf, Shape, is_simple, subcommand_rows, subcommand_rows_of, built, entered, names_of, rows_at, subcommand_of}
use Rattle.clap.specs.Walk.{Names, Row, Text, Walk, rows_of, all_of, finished, first_of, idle, nothing_held, settled, subcommand_met, walked}
use Rattle.clap.specs.declared.error.Error.{Error}
use Rattle.clap.specs.declared.error.kind.ErrorKind.{ErrorKind}
use Rattle.clap.specs.declared.parser.matches.ArgMatches.{ArgMatches}
use Rattle.clap.specs.declared.parser.matches.ArgMatches.TheViews.{out-SubCommand}
use Rattle.clap.specs.declared.parser.matches.Found.{Found}
use Rattle.clap.specs.declared.parser.matches.SubCommand.{SubCommand}
use Rattle.clap.specs.declared.error.kind.ErrorKind.TheVariants as kinds
use Rattle.clap.specs.declared.error.kind.ErrorKind.TheVariants.{InvalidSubcommand, MissingSubcommand, UnknownArgument}
use Rattle.qa_arguments.specs.Arguments.{HasFiles, IsCommand, fault_of_kind, request, asked, asked_of, is_option, names_in, parser_of_arguments}
use Rattle.qa_arguments.specs.declared.parsing.Subcommand.{Subcommand}
use Rattle.qa_arguments.specs.declared.fault.ArgumentsFault.{ArgumentsFault}
use Rattle.qa_arguments.specs.declared.fault.ArgumentsFault.TheVariants.{OutOfMemory, Refused}
use Rattle.qa_arguments.proofs.Words.{Fails, HasNoOption, Runs, fail_later, fail_now, fault_dashes, fault_flag, fault_plain, flag_word, met_dashes, met_plain, or_else_none, plain_word, run_more, run_none, turn_of, walked_of}
use Rattle.qa_arguments.proofs.Files.{check_reads, check_refuses, check_shape, check_takes, explain_more, explain_none, explain_one, explain_refuses, explain_shape, Explains}

abbrev whole : App
whole = built parser_of_arguments

abbrev top : Shape
top = whole.top

abbrev subcommands : Names
subcommands = names_of whole

-- where the walk stands before the first word, and once it met `--`
abbrev at_start : Bool → Walk
at_start is_trailing = record { held = nothing_held; waiting = idle; position = 1; is_trailing = is_trailing; stopped = None }

-- where it stands behind a subcommand
abbrev at_stop : Text → List Text → Walk
at_stop name words = record { held = nothing_held; waiting = idle; position = 1; is_trailing = false; stopped = Some (name, words) }

-- ---- the walk

no_options : HasNoOption []
no_options = record { long = λ name. refl; short = λ c. refl }

stop_goes : (name : Text) (front : List Text) (word : Text) → walked [] subcommands (at_stop name front) word ≡ at_stop name (front ++ word ∷ [])
unfolding walked
stop_goes name front word = refl

stop_runs : (name : Text) (front words : List Text) → Runs top subcommands (at_stop name front) words (at_stop name (front ++ words))
stop_runs name front [] = rw append-nil (run_none top subcommands (at_stop name front))
stop_runs name front (word ∷ words) =
    let later : Runs top subcommands (at_stop name (front ++ word ∷ [])) words (at_stop name (front ++ word ∷ words)) =
    rw (← append_assoc front (word ∷ []) words) (stop_runs name (front ++ word ∷ []) words) in
    run_more top subcommands (at_stop name front) (at_stop name (front ++ word ∷ [])) _ word words refl (stop_goes name front word) later

check_met : (word : Text) → bytes_eq (codes "check") word ≡ true → subcommand_met subcommands idle word ≡ Some (codes "check")
check_met word is = rw is refl

explain_met : (word : Text) → bytes_eq (codes "check") word ≡ false → bytes_eq (codes "explain") word ≡ true
    → subcommand_met subcommands idle word ≡ Some (codes "explain")
explain_met word other is = rw (other, is) refl

none_met : (word : Text) → bytes_eq (codes "check") word ≡ false → bytes_eq (codes "explain") word ≡ false → subcommand_met subcommands idle word ≡ None
none_met word check explain = rw (check, explain) refl

check_turn : (word : Text) → subcommand_met subcommands idle word ≡ Some (codes "check") → turn_fault top subcommands (at_start false) word ≡ []
check_turn word met = rw met refl

explain_turn : (word : Text) → subcommand_met subcommands idle word ≡ Some (codes "explain") → turn_fault top subcommands (at_start false) word ≡ []
explain_turn word met = rw met refl

subcommand_walk : (word name : Text) → subcommand_met subcommands idle word ≡ Some name → walked [] subcommands (at_start false) word ≡ at_stop name []
unfolding walked
subcommand_walk word name met = rw met refl

check_runs : (word : Text) (words : List Text) → bytes_eq (codes "check") word ≡ true
    → Runs top subcommands (at_start false) (word ∷ words) (at_stop (codes "check") words)
check_runs word words is =
    let met = check_met word is in
    run_more top subcommands (at_start false) (at_stop (codes "check") []) _ word words (check_turn word met) (subcommand_walk word (codes "check") met)
    (stop_runs (codes "check") [] words)

explain_runs : (word : Text) (words : List Text) → bytes_eq (codes "check") word ≡ false → bytes_eq (codes "explain") word ≡ true
    → Runs top subcommands (at_start false) (word ∷ words) (at_stop (codes "explain") words)
explain_runs word words other is =
    let met = explain_met word other is in
    run_more top subcommands (at_start false) (at_stop (codes "explain") []) _ word words (explain_turn word met) (subcommand_walk word (codes "explain") met)
    (stop_runs (codes "explain") [] words)

-- ---- the faults

-- the faults of the whole, where the walk has these and ends there
abbrev faults_at : Kinds → Walk → Kinds
faults_at faults w = or_else faults (or_else (entered_fault whole w.stopped)
    (or_else (settle_fault top.rules top.args_override_self w.held)
    (or_else (defaults_fault (settled top.rules w.held).rows top.rules)
    (check_fault top (finished top.rules w.held) (is_some (entered whole w.stopped))))))

fault_is : (words : List Text) → fault_of parser_of_arguments words
    ≡ faults_at (walk_fault top subcommands (at_start false) words) (fold (walked [] subcommands) (at_start false) words)
fault_is words = refl

fault_by : (words : List Text) (end : Walk) → Runs top subcommands (at_start false) words end
    → fault_of parser_of_arguments words ≡ faults_at [] end
fault_by words end runs = fault_is words ∙ ap₂ faults_at runs.fine runs.ends

-- a walk that fails
failed : (words : List Text) → Fails top subcommands (at_start false) words → fault_of parser_of_arguments words ≡ [] → ⊥
failed words fails none = fails (or_else_none _ _ (sym (fault_is words) ∙ none))

-- no subcommand
abbrev Missing : Kinds
Missing = MissingSubcommand ∷ []

missing : (is_trailing : Bool) → faults_at [] (at_start is_trailing) ≡ Missing
unfolding defaults_fault
missing is_trailing = refl

no_words : fault_of parser_of_arguments [] ≡ Missing
no_words = fault_by [] (at_start false) (run_none top subcommands (at_start false)) ∙ missing false

not_none : (k : Kinds) → k ≡ Missing → k ≡ [] → ⊥
not_none k is none = let same : Missing ≡ [] = sym is ∙ none in cc

-- another word than the name of a subcommand
stray_trailing : (word : Text) → turn_fault top subcommands (at_start true) word ≡ UnknownArgument ∷ InvalidSubcommand ∷ []
stray_trailing word = refl

other_dashes : (word : Text) (words : List Text) → subcommand_met subcommands idle word ≡ None → bytes_eq word (codes "--") ≡ true
    → fault_of parser_of_arguments (word ∷ words) ≡ [] → ⊥
other_dashes word [] none is =
    let met = met_dashes [] subcommands idle 1 word nothing_held none is in
    let goes = run_more top subcommands (at_start false) (at_start true) (at_start true) word []
    (turn_of top subcommands (at_start false) word [] _ refl (fault_dashes top subcommands idle word nothing_held none is) met)
    (walked_of [] subcommands (at_start false) word _ refl met) (run_none top subcommands (at_start true)) in
    not_none _ (fault_by (word ∷ []) (at_start true) goes ∙ missing true)
other_dashes word (next ∷ words) none is =
    let met = met_dashes [] subcommands idle 1 word nothing_held none is in
    failed (word ∷ next ∷ words)
    (fail_later top subcommands (at_start false) (at_start true) word (next ∷ words)
    (turn_of top subcommands (at_start false) word [] _ refl (fault_dashes top subcommands idle word nothing_held none is) met)
    (walked_of [] subcommands (at_start false) word _ refl met)
    (fail_now top subcommands (at_start true) next words UnknownArgument (InvalidSubcommand ∷ []) (stray_trailing next)))

other_word : (word : Text) (words : List Text) (dashes : Bool) → bytes_eq word (codes "--") ≡ dashes → (flag : Bool) → is_option word ≡ flag
    → subcommand_met subcommands idle word ≡ None → fault_of parser_of_arguments (word ∷ words) ≡ [] → ⊥
other_word word words true is flag _ none = other_dashes word words none is
other_word word words false is true named none =
    failed (word ∷ words)
    (fail_now top subcommands (at_start false) word words UnknownArgument []
    (turn_of top subcommands (at_start false) word (UnknownArgument ∷ []) _ refl
    (fault_flag top subcommands idle word [] None no_options none (flag_word word is named)) refl))
other_word word words false is false named none =
    let plain = plain_word word is named in
    failed (word ∷ words)
    (fail_now top subcommands (at_start false) word words UnknownArgument (InvalidSubcommand ∷ [])
    (turn_of top subcommands (at_start false) word [] _ refl (fault_plain top subcommands idle word [] None none plain)
    (met_plain [] subcommands idle 1 word [] None none tt plain)))

-- ---- what a parse gives

is_free : is_simple_and_free parser_of_arguments ≡ true
is_free = refl

is_simple_parser : is_simple parser_of_arguments ≡ true
is_simple_parser = refl

-- the parser takes the arguments where they ask for something, and then reads this
abbrev pub Reads : List Text → Option (Text × List Text) → Type 0
Reads arguments None = fault_of parser_of_arguments arguments ≡ [] → ⊥
Reads arguments (Some (command, names)) = (fault_of parser_of_arguments arguments ≡ [])
    × ((rows : List Row) × (subcommand_of parser_of_arguments arguments ≡ Some (command, rows)) × HasFiles command names rows × IsCommand command)

or_else-nil : (a : Kinds) → a ≡ [] → or_else a [] ≡ []
or_else-nil a is = rw is refl

-- behind `check`
check_faults : (word : Text) (words : List Text) → bytes_eq (codes "check") word ≡ true
    → fault_of parser_of_arguments (word ∷ words) ≡ faults_at [] (at_stop (codes "check") words)
check_faults word words is = fault_by (word ∷ words) (at_stop (codes "check") words) (check_runs word words is)

check_subcommand : (word : Text) (words : List Text) → bytes_eq (codes "check") word ≡ true
    → subcommand_of parser_of_arguments (word ∷ words) ≡ Some (codes "check", (rows_at check_shape words).1)
check_subcommand word words is = ap (λ (w : Walk). entered whole w.stopped) (check_runs word words is).ends

check_files : (words names : List Text) → names_in words ≡ Some names → HasFiles (codes "check") names (rows_at check_shape words).1
check_files words names is = record {
  all = λ _. check_reads words names is;
  first = λ other. let same : true ≡ false = ap (bytes_eq (codes "check")) other in cc;
}

check_read : (word : Text) (words : List Text) → bytes_eq (codes "check") word ≡ true
    → (o : Option (List Text)) → names_in words ≡ o
    → Reads (word ∷ words) (option_and_then (asked_of word) o)
unfolding defaults_fault
check_read word words is None names = λ none.
    check_refuses words names (or_else_none _ _ (sym (check_faults word words is) ∙ none))
check_read word words is (Some files) names =
    rw is (
      check_faults word words is ∙ or_else-nil _ (check_takes words files names),
      ((rows_at check_shape words).1, check_subcommand word words is, check_files words files names, inl refl),
    )

-- behind `explain`
explain_faults : (word : Text) (words : List Text) → bytes_eq (codes "check") word ≡ false → bytes_eq (codes "explain") word ≡ true
    → fault_of parser_of_arguments (word ∷ words) ≡ faults_at [] (at_stop (codes "explain") words)
explain_faults word words other is = fault_by (word ∷ words) (at_stop (codes "explain") words) (explain_runs word words other is)

explain_subcommand : (word : Text) (words : List Text) → bytes_eq (codes "check") word ≡ false → bytes_eq (codes "explain") word ≡ true
    → subcommand_of parser_of_arguments (word ∷ words) ≡ Some (codes "explain", (rows_at explain_shape words).1)
explain_subcommand word words other is = ap (λ (w : Walk). entered whole w.stopped) (explain_runs word words other is).ends

explain_files : (words : List Text) (file : Option Text) → Explains words file → HasFiles (codes "explain") (option_to_list file) (rows_at explain_shape words).1
explain_files words file explains = record {
  all = λ other. let same : false ≡ true = ap (bytes_eq (codes "check")) other in cc;
  first = λ _. explains.reads;
}

explain_by : (word : Text) (words : List Text) → bytes_eq (codes "check") word ≡ false → bytes_eq (codes "explain") word ≡ true
    → (file : Option Text) → Explains words file → Reads (word ∷ words) (Some (codes "explain", option_to_list file))
unfolding defaults_fault
explain_by word words other is file explains = (
  explain_faults word words other is ∙ or_else-nil _ explains.takes,
  ((rows_at explain_shape words).1, explain_subcommand word words other is, explain_files words file explains, inr refl),
)

explain_read : (word : Text) (words : List Text) → bytes_eq (codes "check") word ≡ false → bytes_eq (codes "explain") word ≡ true
    → (o : Option (List Text)) → names_in words ≡ o → Reads (word ∷ words) (option_and_then (asked_of word) o)
unfolding defaults_fault
explain_read word words other is None names = λ none.
    explain_refuses words names (or_else_none _ _ (sym (explain_faults word words other is) ∙ none))
explain_read word words other is (Some []) names = rw (other, is) (explain_by word words other is None (explain_none words names))
explain_read word words other is (Some (file ∷ [])) names =
    rw (other, is) (explain_by word words other is (Some file) (explain_one words file names))
explain_read word words other is (Some (file ∷ next ∷ files)) names =
    let many : nat_le (length (file ∷ next ∷ files)) 1 ≡ false = lt-leb _ _ (omega arith) in
    rw (other, is, many) (λ none. explain_more words file next files names (or_else_none _ _ (sym (explain_faults word words other is) ∙ none)))

-- behind another word
other_read : (word : Text) (words : List Text) → bytes_eq (codes "check") word ≡ false → bytes_eq (codes "explain") word ≡ false
    → (o : Option (List Text)) → Reads (word ∷ words) (option_and_then (asked_of word) o)
other_read word words check explain None = other_word word words _ refl _ refl (none_met word check explain)
other_read word words check explain (Some names) = rw (check, explain) (other_word word words _ refl _ refl (none_met word check explain))

by_command : (word : Text) (words : List Text) → (check : Bool) → bytes_eq (codes "check") word ≡ check → (explain : Bool) → bytes_eq (codes "explain") word ≡ explain
    → Reads (word ∷ words) (option_and_then (asked_of word) (names_in words))
by_command word words true is explain _ = check_read word words is (names_in words) refl
by_command word words false other true is = explain_read word words other is (names_in words) refl
by_command word words false check false explain = other_read word words check explain (names_in words)

pub reads : (arguments : List Text) → Reads arguments (asked arguments)
reads [] = not_none _ no_words
reads (word ∷ words) = by_command word words (bytes_eq (codes "check") word) refl (bytes_eq (codes "explain") word) refl

-- what a parse took
pub record Takes (arguments : List Text) : Type 0 where
  pub command : Text
  pub names : List Text
  pub rows : List Row
  pub asks : asked arguments ≡ Some (command, names)
  pub subcommand : subcommand_of parser_of_arguments arguments ≡ Some (command, rows)
  pub files : HasFiles command names rows
  pub is_command : IsCommand command

takes_by : (arguments : List Text) (o : Option (Text × List Text)) → asked arguments ≡ o → Reads arguments o → fault_of parser_of_arguments arguments ≡ []
    → Takes arguments
takes_by arguments None is refused fine = absurd (refused fine)
takes_by arguments (Some (command, names)) is (none, (rows, subcommand, files, is_command)) fine = record {
  command = command;
  names = names;
  rows = rows;
  asks = is;
  subcommand = subcommand;
  files = files;
  is_command = is_command;
}

pub takes : (arguments : List Text) → fault_of parser_of_arguments arguments ≡ [] → Takes arguments
takes arguments fine = takes_by arguments (asked arguments) refl (reads arguments) fine

-- a fault comes only where nothing is asked for
refuses_by : (arguments : List Text) (k : ErrorKind) (o : Option (Text × List Text)) → Reads arguments o → IsAmong k (fault_of parser_of_arguments arguments) → o ≡ None
refuses_by arguments k None refused fault = refl
refuses_by arguments k (Some (command, names)) (fine, rest) fault = let none : IsAmong k [] = rw fine at fault in absurd none

pub refuses : (arguments : List Text) (k : ErrorKind) → IsAmong k (fault_of parser_of_arguments arguments) → asked arguments ≡ None
refuses arguments k fault = refuses_by arguments k (asked arguments) (reads arguments) fault

-- ---- what `parse` makes of it

kind_or : (k : ErrorKind) → (fault_of_kind k ≡ OutOfMemory) ⊎ (fault_of_kind k ≡ Refused)
kind_or kinds.OutOfMemory = inl refl
kind_or k = inr refl

refused_with : (arguments : List Text) (k : ErrorKind) (failure : ArgumentsFault) → failure ≡ fault_of_kind k → asked arguments ≡ None
    → (failure ≡ OutOfMemory) ⊎ ((failure ≡ Refused) × (asked arguments ≡ None))
refused_with arguments k failure is none = elim (kind_or k) [ inl memory ↦ inl (is ∙ memory) | inr other ↦ inr (is ∙ other, none) ]

-- the failure of a parse that is refused
pub refusal : (arguments : List Text) (k : ErrorKind) (failure : ArgumentsFault) → failure ≡ fault_of_kind k
    → (k ≡ kinds.OutOfMemory) ⊎ IsAmong k (fault_of parser_of_arguments arguments) → (failure ≡ OutOfMemory) ⊎ ((failure ≡ Refused) × (asked arguments ≡ None))
refusal arguments k failure is fault =
    elim fault [
      | inl memory ↦ inl (is ∙ ap fault_of_kind memory)
      | inr among ↦ refused_with arguments k failure is (refuses arguments k among)
    ]

-- the faults of a parse, of which each is among these
pub fails_by : {T : Type 0} (app : App) (arguments : List Text) (r : Result T Error) → app ≡ parser_of_arguments
    → (is_simple_and_free app ≡ true → FailsBy (fault_of app arguments) r) → FailsBy (fault_of parser_of_arguments arguments) r
fails_by app arguments r same fails = rw same at (fails (ap is_simple_and_free same ∙ is_free))

module _ {Z : Type 0} where
  name_of_rows : (o : Option (Box SubCommand Z)) → option_map (λ b. (out-SubCommand (box_value b)).name.now) o ≡ option_map (λ (p : Text × List Row). p.0) (subcommand_rows o)
  name_of_rows None = refl
  name_of_rows (Some b) = refl

some_is : {A : Type 0} (x y : A) → Some x ≡ Some y → x ≡ y
some_is x y same = ap (λ (o : Option _). unwrap_or o x) same

-- the subcommand that it found
pub found : (arguments : List Text) (m : ArgMatches) → (t : Takes arguments) → HasMatchesOf parser_of_arguments arguments m → subcommand_rows_of m ≡ Some (t.command, t.rows)
found arguments m t matches = (matches is_simple_parser).1 ∙ t.subcommand

pub name_found : (m : ArgMatches) (name command : Text) (rows : List Row) → Some name ≡ subcommand_name_of m → subcommand_rows_of m ≡ Some (command, rows)
    → name ≡ command
name_found m name command rows named met = some_is name command (named ∙ (name_of_rows _ ∙ ap (option_map (λ (p : Text × List Row). p.0)) met))

pub rows_found : (m : ArgMatches) (has rows : List Row) (command : Text) → Some has ≡ option_map (λ (p : Text × List Row). p.1) (subcommand_rows_of m)
    → subcommand_rows_of m ≡ Some (command, rows) → has ≡ rows
rows_found m has rows command is met = some_is has rows (is ∙ ap (option_map (λ (p : Text × List Row). p.1)) met)

pub none_found : (m : ArgMatches) → None ≡ option_map (λ (p : Text × List Row). p.1) (subcommand_rows_of m)
    → (command : Text) (rows : List Row) → subcommand_rows_of m ≡ Some (command, rows) → IsCommand command → ⊥
none_found m none command rows met is =
    let some : None ≡ Some rows = none ∙ ap (option_map (λ (p : Text × List Row). p.1)) met in
    cc

-- ---- the names that the subcommand's parser found

pub files_found : (f : Found) (names : List Text) → Some names ≡ option_map raw_values (matched_of f (codes "FILE"))
    → names ≡ unwrap_or (all_of (codes "FILE") (rows_of f)) []
files_found f names is = ap (λ (o : Option (List Text)). unwrap_or o []) (is ∙ raw_values-rows f (codes "FILE"))

pub no_files_found : (f : Found) → None ≡ option_map raw_values (matched_of f (codes "FILE")) → [] ≡ unwrap_or (all_of (codes "FILE") (rows_of f)) []
no_files_found f is = ap (λ (o : Option (List Text)). unwrap_or o []) (is ∙ raw_values-rows f (codes "FILE"))

pub file_found : (f : Found) (name : Option Text) → name ≡ first_value f (codes "FILE") → option_to_list name ≡ option_to_list (first_of (codes "FILE") (rows_of f))
file_found f name is = ap option_to_list (is ∙ first_value-rows f (codes "FILE"))

-- ---- the subcommand that is made of the name and the files that were found

pub check_of : (m : ArgMatches) (name : Text) (has : List Row) (files : List Text) → Some name ≡ subcommand_name_of m
    → Some has ≡ option_map (λ (p : Text × List Row). p.1) (subcommand_rows_of m) → name ≡ codes "check" → files ≡ unwrap_or (all_of (codes "FILE") has) []
    → (command : Text) (rows : List Row) (names : List Text) → subcommand_rows_of m ≡ Some (command, rows) → HasFiles command names rows
    → ◌≡◌ {A = Text × List Text} (codes "check", files) (command, names)
check_of m name has files named found_rows check files_are command rows names met meets =
    let command_is : command ≡ codes "check" = sym (name_found m name command rows named met) ∙ check in
    let rows_are : has ≡ rows = rows_found m has rows command found_rows met in
    ap₂ (λ (c : Text) (all : List Text). (c, all)) (sym command_is)
    (files_are ∙ (ap (λ (r : List Row). unwrap_or (all_of (codes "FILE") r) []) rows_are ∙ meets.all command_is))

pub explain_of : (m : ArgMatches) (name : Text) (has : List Row) (files : List Text) → Some name ≡ subcommand_name_of m
    → Some has ≡ option_map (λ (p : Text × List Row). p.1) (subcommand_rows_of m) → name ≡ codes "explain" → files ≡ option_to_list (first_of (codes "FILE") has)
    → (command : Text) (rows : List Row) (names : List Text) → subcommand_rows_of m ≡ Some (command, rows) → HasFiles command names rows
    → ◌≡◌ {A = Text × List Text} (codes "explain", files) (command, names)
explain_of m name has files named found_rows explain files_are command rows names met meets =
    let command_is : command ≡ codes "explain" = sym (name_found m name command rows named met) ∙ explain in
    let rows_are : has ≡ rows = rows_found m has rows command found_rows met in
    ap₂ (λ (c : Text) (all : List Text). (c, all)) (sym command_is)
    (files_are ∙ (ap (λ (r : List Row). option_to_list (first_of (codes "FILE") r)) rows_are ∙ meets.first command_is))

pub no_command_of : (m : ArgMatches) (name : Text) → Some name ≡ subcommand_name_of m → (name ≡ codes "check" → ⊥) → (name ≡ codes "explain" → ⊥)
    → (command : Text) (rows : List Row) → subcommand_rows_of m ≡ Some (command, rows) → IsCommand command → ⊥
no_command_of m name named not_check not_explain command rows met is =
    let name_is : name ≡ command = name_found m name command rows named met in
    elim is [ inl check ↦ not_check (name_is ∙ check) | inr explain ↦ not_explain (name_is ∙ explain) ]

-- ---- what it returns

pub request_of : (arguments : List Text) (t : Takes arguments) (m : ArgMatches) → subcommand_rows_of m ≡ Some (t.command, t.rows) → (subcommand : Subcommand)
    → ((name : Text) (rows : List Row) (names : List Text) → subcommand_rows_of m ≡ Some (name, rows) → HasFiles name names rows → request subcommand ≡ (name, names))
    → asked arguments ≡ Some (request subcommand)
request_of arguments t m met subcommand is = t.asks ∙ ap (λ (r : Text × List Text). Some r) (sym (is t.command t.rows t.names met t.files))

pub not_a_command : (arguments : List Text) (t : Takes arguments) (m : ArgMatches) → subcommand_rows_of m ≡ Some (t.command, t.rows) → (failure : ArgumentsFault)
    → (failure ≡ OutOfMemory) ⊎ ((failure ≡ Refused) × ((name : Text) (rows : List Row) → subcommand_rows_of m ≡ Some (name, rows) → IsCommand name → ⊥))
    → (failure ≡ OutOfMemory) ⊎ ((failure ≡ Refused) × (asked arguments ≡ None))
not_a_command arguments t m met failure is = elim is [ inl memory ↦ inl memory | inr other ↦ absurd (other.1 t.command t.rows met t.is_command) ]
