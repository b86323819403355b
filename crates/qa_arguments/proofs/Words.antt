-- How the definitions of `clap` read the words of a command line.
use Rattle.std.proofs.Common.{◌≡◌, ◌∙◌, ◌==◌, ◌&&◌, ◌⊎◌, inl, inr, ℕ, Bool, true, false, List, [], ◌∷◌, fold, Option, Some, None, refl, sym, ap, ap₂, codes, is_some, slice_get, bytes_eq, eqb-true}
use Rattle.std.specs.Str.{chars}
use Rattle.clap.specs.Faults.{flags_fault, step_fault, turn_fault, walk_fault, word_fault}
use Rattle.clap.specs.Kinds.{Kinds, or_else}
use Rattle.clap.specs.Lexer.{long_of, name_and_value, short_of}
use Rattle.clap.specs.Simple.{Shape}
use Rattle.clap.specs.Walk.{Held, Names, Row, Rule, Step, Text, Waiting, Walk, after_step, arg_by_long, arg_by_short, bundle_met, idle, option, positional, subcommand_met, trailing, value, walked, walked_from, word_met}
use Rattle.clap.specs.declared.error.kind.ErrorKind.{ErrorKind}
use Rattle.clap.specs.declared.error.kind.ErrorKind.TheVariants.{UnknownArgument}
use Rattle.qa_arguments.specs.Arguments.{is_option}

-- ---- what a word is

-- the word is no option and not `--`
pub record IsPlain (word : Text) : Type 0 where
  pub dashes : bytes_eq word (codes "--") ≡ false
  pub long : long_of word ≡ None
  pub short : (short_of word ≡ None) ⊎ ((flags : Text) × (short_of word ≡ Some flags) × (slice_get (chars flags) 0 ≡ None))

-- the word is an option, with a long name or a short one
pub record IsFlag (word : Text) : Type 0 where
  pub dashes : bytes_eq word (codes "--") ≡ false
  pub named : ((p : Text × Option Text) × (long_of word ≡ Some p))
      ⊎ ((long_of word ≡ None) × ((x : ℕ) × (rest : Text) × (c : ℕ) × (short_of word ≡ Some (x ∷ rest)) × (slice_get (chars (x ∷ rest)) 0 ≡ Some c)))

none_of : (o : Option ℕ) → is_some o ≡ false → o ≡ None
none_of None h = refl
none_of (Some c) h = cc

some_of : (o : Option ℕ) → is_some o ≡ true → (c : ℕ) × (o ≡ Some c)
some_of None h = cc
some_of (Some c) h = (c, refl)

both : (a b : Bool) → (a && b) ≡ true → (a ≡ true) × (b ≡ true)
both true b h = (refl, h)
both false b h = cc

hyphen_is_char : (rest : Text) → is_some (slice_get (chars (45 ∷ rest)) 0) ≡ true
unfolding chars
hyphen_is_char [] = refl
hyphen_is_char (x ∷ rest) = refl

nothing_has_no_char : is_some (slice_get (chars []) 0) ≡ false
unfolding chars
nothing_has_no_char = refl

plain_second : (byte x : ℕ) (rest : Text) (second : Bool) → (x == 45) ≡ second → (byte == 45) ≡ true
    → bytes_eq (byte ∷ x ∷ rest) (codes "--") ≡ false → is_some (slice_get (chars (x ∷ rest)) 0) ≡ false → IsPlain (byte ∷ x ∷ rest)
plain_second byte x rest true is hyphen dashes none =
    let e : x ≡ 45 = eqb-true x 45 is in
    let some : is_some (slice_get (chars (x ∷ rest)) 0) ≡ true = rw e (hyphen_is_char rest) in
    cc
plain_second byte x rest false is hyphen dashes none = record {
  dashes = dashes;
  long = rw (hyphen, is) refl;
  short = inr (x ∷ rest, rw (hyphen, is) refl, none_of (slice_get (chars (x ∷ rest)) 0) none);
}

plain_behind : (byte : ℕ) (rest : Text) → (byte == 45) ≡ true → bytes_eq (byte ∷ rest) (codes "--") ≡ false
    → is_some (slice_get (chars rest) 0) ≡ false → IsPlain (byte ∷ rest)
plain_behind byte [] hyphen dashes none = record { dashes = dashes; long = rw hyphen refl; short = inl (rw hyphen refl) }
plain_behind byte (x ∷ rest) hyphen dashes none = plain_second byte x rest (x == 45) refl hyphen dashes none

plain_first : (byte : ℕ) (rest : Text) (first : Bool) → (byte == 45) ≡ first → bytes_eq (byte ∷ rest) (codes "--") ≡ false
    → (first && is_some (slice_get (chars rest) 0)) ≡ false → IsPlain (byte ∷ rest)
plain_first byte rest true is dashes none = plain_behind byte rest is dashes none
plain_first byte rest false is dashes none = record { dashes = dashes; long = rw is refl; short = inl (rw is refl) }

pub plain_word : (word : Text) → bytes_eq word (codes "--") ≡ false → is_option word ≡ false → IsPlain word
plain_word [] dashes none = record { dashes = dashes; long = refl; short = inl refl }
plain_word (byte ∷ rest) dashes none = plain_first byte rest (byte == 45) refl dashes none

flag_second : (byte x : ℕ) (rest : Text) (second : Bool) → (x == 45) ≡ second → (byte == 45) ≡ true
    → bytes_eq (byte ∷ x ∷ rest) (codes "--") ≡ false → is_some (slice_get (chars (x ∷ rest)) 0) ≡ true → IsFlag (byte ∷ x ∷ rest)
flag_second byte x [] true is hyphen dashes some =
    let two : bytes_eq (byte ∷ x ∷ []) (codes "--") ≡ true = rw (hyphen, is) refl in
    cc
flag_second byte x (y ∷ rest) true is hyphen dashes some = record {
  dashes = dashes;
  named = inl (name_and_value (y ∷ rest), rw (hyphen, is) refl);
}
flag_second byte x rest false is hyphen dashes some =
    let char = some_of (slice_get (chars (x ∷ rest)) 0) some in
    record {
      dashes = dashes;
      named = inr (rw (hyphen, is) refl, (x, rest, char.0, rw (hyphen, is) refl, char.1));
    }

flag_behind : (byte : ℕ) (rest : Text) → (byte == 45) ≡ true → bytes_eq (byte ∷ rest) (codes "--") ≡ false
    → is_some (slice_get (chars rest) 0) ≡ true → IsFlag (byte ∷ rest)
flag_behind byte [] hyphen dashes some = let none = nothing_has_no_char in cc
flag_behind byte (x ∷ rest) hyphen dashes some = flag_second byte x rest (x == 45) refl hyphen dashes some

pub flag_word : (word : Text) → bytes_eq word (codes "--") ≡ false → is_option word ≡ true → IsFlag word
flag_word [] dashes some = cc
flag_word (byte ∷ rest) dashes some =
    let parts = both (byte == 45) (is_some (slice_get (chars rest) 0)) some in
    flag_behind byte rest parts.0 dashes parts.1

-- ---- what a parse makes of a word that names no subcommand

-- nothing waits for the value of an option
abbrev pub WaitsForNone : Waiting → Type 0
WaitsForNone idle = Unit {0}
WaitsForNone (option id) = ⊥
WaitsForNone positional = Unit {0}

-- the rules name no option
pub record HasNoOption (rules : List Rule) : Type 0 where
  pub long : (name : Text) → arg_by_long rules name ≡ None
  pub short : (c : ℕ) → arg_by_short rules c ≡ None

abbrev pub held : List Row → Option (Text × List Text) → Held
held rows pending = record { rows = rows; pending = pending; skip = 0 }

abbrev Parts : Type 0
Parts = Held × Step

abbrev Short : Text → Type 0
Short word = (short_of word ≡ None) ⊎ ((flags : Text) × (short_of word ≡ Some flags) × (slice_get (chars flags) 0 ≡ None))

met_by : (rules : List Rule) (names : Names) (waiting : Waiting) (position : ℕ) (word : Text) (rows : List Row) (pending : Option (Text × List Text))
    → subcommand_met names waiting word ≡ None → WaitsForNone waiting → bytes_eq word (codes "--") ≡ false → long_of word ≡ None → Short word
    → ◌≡◌ {A = Parts} (word_met rules names false waiting position word (held rows pending)) (held rows pending, value)
unfolding bundle_met
met_by rules names idle position word rows pending none waits dashes long (inl short) = rw (none, dashes, long, short) refl
met_by rules names idle position word rows pending none waits dashes long (inr ([], short, char)) = rw (none, dashes, long, short) refl
met_by rules names idle position word rows pending none waits dashes long (inr (x ∷ rest, short, char)) = rw (none, dashes, long, short, char) refl
met_by rules names (option id) position word rows pending none waits dashes long short = absurd waits
met_by rules names positional position word rows pending none waits dashes long (inl short) = rw (dashes, long, short) refl
met_by rules names positional position word rows pending none waits dashes long (inr ([], short, char)) = rw (dashes, long, short) refl
met_by rules names positional position word rows pending none waits dashes long (inr (x ∷ rest, short, char)) = rw (dashes, long, short, char) refl

-- a plain word is a value
pub met_plain : (rules : List Rule) (names : Names) (waiting : Waiting) (position : ℕ) (word : Text) (rows : List Row) (pending : Option (Text × List Text))
    → subcommand_met names waiting word ≡ None → WaitsForNone waiting → IsPlain word
    → ◌≡◌ {A = Parts} (word_met rules names false waiting position word (held rows pending)) (held rows pending, value)
met_plain rules names waiting position word rows pending none waits plain =
    met_by rules names waiting position word rows pending none waits plain.dashes plain.long plain.short

fault_by : (s : Shape) (names : Names) (waiting : Waiting) (word : Text) (rows : List Row) (pending : Option (Text × List Text))
    → subcommand_met names waiting word ≡ None → bytes_eq word (codes "--") ≡ false → long_of word ≡ None → Short word
    → word_fault s names false waiting word (held rows pending) ≡ []
unfolding flags_fault
fault_by s names waiting word rows pending none dashes long (inl short) = rw (none, dashes, long, short) refl
fault_by s names waiting word rows pending none dashes long (inr ([], short, char)) = rw (none, dashes, long, short) refl
fault_by s names waiting word rows pending none dashes long (inr (x ∷ rest, short, char)) = rw (none, dashes, long, short, char) refl

pub fault_plain : (s : Shape) (names : Names) (waiting : Waiting) (word : Text) (rows : List Row) (pending : Option (Text × List Text))
    → subcommand_met names waiting word ≡ None → IsPlain word → word_fault s names false waiting word (held rows pending) ≡ []
fault_plain s names waiting word rows pending none plain = fault_by s names waiting word rows pending none plain.dashes plain.long plain.short

-- an option is unknown
pub fault_flag : (s : Shape) (names : Names) (waiting : Waiting) (word : Text) (rows : List Row) (pending : Option (Text × List Text))
    → HasNoOption s.rules → subcommand_met names waiting word ≡ None → IsFlag word
    → word_fault s names false waiting word (held rows pending) ≡ UnknownArgument ∷ []
unfolding flags_fault
fault_flag s names waiting word rows pending without none flag = elim flag.named [
  | inl named ↦ rw (none, flag.dashes, named.1, without.long named.0.0) refl
  | inr short ↦ rw (none, flag.dashes, short.0, short.1.3, short.1.4, without.short short.1.2) refl
]

-- `--` begins what follows
pub met_dashes : (rules : List Rule) (names : Names) (waiting : Waiting) (position : ℕ) (word : Text) (h : Held)
    → subcommand_met names waiting word ≡ None → bytes_eq word (codes "--") ≡ true
    → ◌≡◌ {A = Parts} (word_met rules names false waiting position word h) (h, trailing position)
met_dashes rules names waiting position word h none dashes = rw (none, dashes) refl

pub fault_dashes : (s : Shape) (names : Names) (waiting : Waiting) (word : Text) (h : Held)
    → subcommand_met names waiting word ≡ None → bytes_eq word (codes "--") ≡ true → word_fault s names false waiting word h ≡ []
fault_dashes s names waiting word h none dashes = rw (none, dashes) refl

-- without subcommands a word names none
pub no_names : (waiting : Waiting) (word : Text) → subcommand_met [] waiting word ≡ None
no_names idle word = refl
no_names (option id) word = refl
no_names positional word = refl

-- ---- turns and walks

-- a turn at a word that is no option, by what it met
pub turn_of : (s : Shape) (names : Names) (w : Walk) (word : Text) (faults : Kinds) (met : Parts) → w.stopped ≡ None
    → word_fault s names w.is_trailing w.waiting word w.held ≡ faults
    → ◌≡◌ {A = Parts} (word_met s.rules names w.is_trailing w.waiting w.position word w.held) met
    → turn_fault s names w word ≡ or_else faults (step_fault s w.position met.0 met.1)
turn_of s names w word faults met going fault is =
    rw going (ap₂ (λ (k : Kinds) (m : Parts). or_else k (step_fault s w.position m.0 m.1)) fault is)

pub walked_of : (rules : List Rule) (names : Names) (w : Walk) (word : Text) (met : Parts) → w.stopped ≡ None
    → ◌≡◌ {A = Parts} (word_met rules names w.is_trailing w.waiting w.position word w.held) met
    → walked rules names w word ≡ after_step rules word w met.0 met.1
unfolding walked
walked_of rules names w word met going is =
    ap (λ (o : Option (Text × List Text)). walked_from rules names o w word) going ∙ ap (λ (m : Parts). after_step rules word w m.0 m.1) is

-- the parse of the words goes on to this end
pub record Runs (s : Shape) (names : Names) (w : Walk) (words : List Text) (end : Walk) : Type 0 where
  pub fine : walk_fault s names w words ≡ []
  pub ends : fold (walked s.rules names) w words ≡ end

-- the parse of the words fails
abbrev pub Fails : Shape → Names → Walk → List Text → Type 0
Fails s names w words = walk_fault s names w words ≡ [] → ⊥

pub run_none : (s : Shape) (names : Names) (w : Walk) → Runs s names w [] w
unfolding walk_fault
run_none s names w = record { fine = refl; ends = refl }

pub run_more : (s : Shape) (names : Names) (w next end : Walk) (word : Text) (words : List Text) → turn_fault s names w word ≡ []
    → walked s.rules names w word ≡ next → Runs s names next words end → Runs s names w (word ∷ words) end
unfolding walk_fault
run_more s names w next end word words fine is runs = record {
  fine = ap₂ or_else fine (ap (λ (x : Walk). walk_fault s names x words) is ∙ runs.fine);
  ends = ap (λ (x : Walk). fold (walked s.rules names) x words) is ∙ runs.ends;
}

pub fail_now : (s : Shape) (names : Names) (w : Walk) (word : Text) (words : List Text) (k : ErrorKind) (ks : Kinds) → turn_fault s names w word ≡ k ∷ ks
    → Fails s names w (word ∷ words)
unfolding walk_fault
fail_now s names w word words k ks bad = λ none.
    let same : k ∷ ks ≡ [] = sym (ap (λ (x : Kinds). or_else x (walk_fault s names (walked s.rules names w word) words)) bad) ∙ none in
    cc

pub fail_later : (s : Shape) (names : Names) (w next : Walk) (word : Text) (words : List Text) → turn_fault s names w word ≡ []
    → walked s.rules names w word ≡ next → Fails s names next words → Fails s names w (word ∷ words)
unfolding walk_fault
fail_later s names w next word words fine is fails = λ none.
    fails (sym (ap₂ or_else fine (ap (λ (x : Walk). walk_fault s names x words) is)) ∙ none)

pub or_else_none : (a b : Kinds) → or_else a b ≡ [] → a ≡ []
or_else_none [] b none = refl
or_else_none (k ∷ ks) b none = cc
