-- What the arguments ask for is what the definitions of `clap` find in them.
use Rattle.std.proofs.Common.{◌≡◌, ◌∙◌, ◌⊎◌, ◌≤◌, ◌==◌, eqb-true, arith, inl, inr, ℕ, Bool, cond, true, false, List, [], ◌∷◌, ◌++◌, map, length, Option, Some, None, refl, sym, ap, ap₂, codes, bytes_eq, IfOk, IsErr, IsUtf8, String, string_bytes, ◌&&◌}
use Rattle.std.specs.Prelude.{Ok, Err, Result}
use Rattle.std.specs.declared.alloc.AllocError.{AllocError}
use Rattle.std.proofs.lemmas.Slice.Eq.{bytes_eq-Decides}
use Rattle.clap.specs.Faults.{flags_fault, long_fault, react_fault, settle_fault, step_fault, turn_fault, word_fault}
use Rattle.clap.proofs.FaultLemmas.{leaf_fault}
use Rattle.clap.specs.Faults.{fault_of}
use Rattle.clap.specs.Kinds.{IsAmong, Kinds, or_else}
use Rattle.clap.specs.Simple.{built, matches_of}
use Rattle.std.proofs.lemmas.Str.{IsUtf8-string_bytes}
use Rattle.clap.specs.Lexer.{long_of, short_of}
use Rattle.clap.specs.Walk.{Held, Outcome, Row, Rule, Step, Text, Waiting, Walk, after_flag, after_step, arg_by_long, bundle_met, done, idle, is_pending, long_met, next, nothing_held, option, plain, positional, pushed, settled, settled_rows, subcommand_met, takes_values, trailing, used, value, waits, walked, word_met}
use Rattle.clap.specs.declared.error.kind.ErrorKind.{ErrorKind}
use Rattle.clap.specs.declared.error.kind.ErrorKind.TheVariants.{InvalidValue, OutOfMemory, TooManyValues, UnknownArgument}
use Rattle.qa_arguments.specs.why.Asked.{Request, asked_in, parser_of_arguments, refuses, request, request_of_kind, shows}
use Rattle.qa_arguments.specs.declared.why.arguments.Asked.{Asked}
use Rattle.qa_arguments.specs.why.Words.{Item, around, asked, asked_behind, by_letter, by_name, file, is_wrong, items_behind, items_in, named}
use Rattle.qa_arguments.proofs.why_lemmas.Letters.{Letters, asks_fault, begins, fails_as, fails_first, letters, letters_doomed, option_doomed, unknown}
use Rattle.qa_arguments.proofs.why_lemmas.Meaning.{Acts, Meaning, named_by}
use Rattle.qa_arguments.proofs.why_lemmas.Rows.{Holds, around_built, files_built, one_more, or_none, rule_for, rules, shape, values_for}
use Rattle.qa_arguments.proofs.why_lemmas.Turns.{FailsAs, Gives, Pending, Stands, asked_not, asked_right, at, fails_end, faults, gives_end, gives_more, gives_now, held, not_right, reacts, reacts_not, right, stands_more}

abbrev Parts : Type 0
Parts = Held × Step

-- nothing waits for the value of an option
abbrev WaitsForNone : Waiting → Type 0
WaitsForNone (option id) = ⊥
WaitsForNone _ = Unit {0}

no_names : (waiting : Waiting) (word : Text) → subcommand_met [] waiting word ≡ None
no_names idle word = refl
no_names (option id) word = refl
no_names positional word = refl

-- ---- one turn

turn_at : (found : List Row) (pending : Pending) (waiting : Waiting) (is_trailing : Bool) (word : Text) (faults : Kinds) (met : Parts)
    → word_fault shape [] is_trailing waiting word (held found pending) ≡ faults
    → ◌≡◌ {A = Parts} (word_met rules [] is_trailing waiting 1 word (held found pending)) met
    → turn_fault shape [] (at found pending waiting is_trailing) word ≡ or_else faults (step_fault shape 1 met.0 met.1)
turn_at found pending waiting is_trailing word faults met fault is = ap₂ (λ (k : Kinds) (m : Parts). or_else k (step_fault shape 1 m.0 m.1)) fault is

walked_at : (found : List Row) (pending : Pending) (waiting : Waiting) (is_trailing : Bool) (word : Text) (met : Parts)
    → ◌≡◌ {A = Parts} (word_met rules [] is_trailing waiting 1 word (held found pending)) met
    → walked rules [] (at found pending waiting is_trailing) word ≡ after_step rules word (at found pending waiting is_trailing) met.0 met.1
unfolding walked
walked_at found pending waiting is_trailing word met is = ap (λ (m : Parts). after_step rules word (at found pending waiting is_trailing) m.0 m.1) is

-- a word that is a value of a positional
and_never : {X : Type 0} (b : Bool) (x y : X) → cond (b && false) x y ≡ y
and_never true x y = refl
and_never false x y = refl

file_fault : (found : List Row) (pending : Pending) → step_fault shape 1 (held found pending) value ≡ settle_fault rules false (held found pending)
file_fault found pending = and_never (is_pending files_built pending) [] (settle_fault rules false (held found pending))

abbrev file_waits : Text → Pending
file_waits word = Some (codes "FILE", word ∷ [])

file_walk : (found : List Row) (pending : Pending) (waiting : Waiting) (is_trailing : Bool) (word : Text)
    → after_step rules word (at found pending waiting is_trailing) (held found pending) value ≡ at (settled_rows rules pending found) (file_waits word) positional is_trailing
file_walk found pending waiting is_trailing word =
    ap₂ (λ (h : Held) (t : Bool). record { held = pushed (codes "FILE") word h; waiting = positional; position = 1; is_trailing = t; stopped = None })
    (and_never (is_pending files_built pending) (held found pending) (settled rules (held found pending))) (or_none is_trailing)

file_stands : (had : List Item) (found : List Row) (pending : Pending) (word : Text) → Stands had found pending
    → Stands (had ++ file word ∷ []) (settled_rows rules pending found) (file_waits word)
file_stands had found pending word stands = record { fine = refl; holds = one_more had (settled_rows rules pending found) (file word) tt stands.holds }

-- a word that is a value, where a walk stands or fails
abbrev IsValue : List Row → Pending → Waiting → Bool → Text → Type 0
IsValue found pending waiting is_trailing word = (word_fault shape [] is_trailing waiting word (held found pending) ≡ [])
    × ◌≡◌ {A = Parts} (word_met rules [] is_trailing waiting 1 word (held found pending)) (held found pending, value)

value_turn : (found : List Row) (pending : Pending) (waiting : Waiting) (is_trailing : Bool) (word : Text) → IsValue found pending waiting is_trailing word
    → turn_fault shape [] (at found pending waiting is_trailing) word ≡ settle_fault rules false (held found pending)
value_turn found pending waiting is_trailing word (fault, met) = turn_at found pending waiting is_trailing word [] _ fault met ∙ file_fault found pending

value_gives : (had : List Item) (found : List Row) (pending : Pending) (waiting : Waiting) (is_trailing : Bool) (word : Text) (words : List Text) (r : Request)
    → IsValue found pending waiting is_trailing word → Stands had found pending
    → Gives (at (settled_rows rules pending found) (file_waits word) positional is_trailing) words r → Gives (at found pending waiting is_trailing) (word ∷ words) r
value_gives had found pending waiting is_trailing word words r is stands later =
    gives_more _ _ word words r (value_turn found pending waiting is_trailing word is ∙ stands.fine)
    (walked_at found pending waiting is_trailing word _ is.1 ∙ file_walk found pending waiting is_trailing word) later

value_fails : (found : List Row) (pending : Pending) (waiting : Waiting) (is_trailing : Bool) (word : Text) (words : List Text)
    → IsValue found pending waiting is_trailing word → FailsAs (settle_fault rules false (held found pending)) refuses
    → Gives (at found pending waiting is_trailing) (word ∷ words) refuses
value_fails found pending waiting is_trailing word words is fails =
    gives_now _ word words refuses (fails_as _ _ refuses (value_turn found pending waiting is_trailing word is) fails)

-- ---- behind `--`

pub trailing_gives : (words : List Text) (had : List Item) (found : List Row) (pending : Pending) (waiting : Waiting) → Stands had found pending
    → Gives (at found pending waiting true) words (asked_behind had (map file words))
trailing_gives [] had found pending waiting stands = gives_end had found pending waiting true stands
trailing_gives (word ∷ words) had found pending waiting stands =
    value_gives had found pending waiting true word words _ (refl, refl) stands
    (trailing_gives words (had ++ file word ∷ []) (settled_rows rules pending found) (file_waits word) positional (file_stands had found pending word stands))

trailing_fails : (words : List Text) (found : List Row) (pending : Pending) (waiting : Waiting) → FailsAs (settle_fault rules false (held found pending)) refuses
    → Gives (at found pending waiting true) words refuses
trailing_fails [] found pending waiting fails = fails_end found pending waiting true refuses fails
trailing_fails (word ∷ words) found pending waiting fails = value_fails found pending waiting true word words (refl, refl) fails

dashes_give : (found : List Row) (pending : Pending) (waiting : Waiting) (word : Text) (words : List Text) (r : Request) → bytes_eq word (codes "--") ≡ true
    → Gives (at found pending waiting true) words r → Gives (at found pending waiting false) (word ∷ words) r
dashes_give found pending waiting word words r is later =
    gives_more _ _ word words r
    (turn_at found pending waiting false word [] (held found pending, trailing 1) (rw (no_names waiting word, is) refl) (rw (no_names waiting word, is) refl))
    (walked_at found pending waiting false word (held found pending, trailing 1) (rw (no_names waiting word, is) refl)) later

-- ---- a word that is an option

record IsFlagWord (found : List Row) (pending : Pending) (waiting : Waiting) (word : Text) (faults : Kinds) (met : Held × Outcome) : Type 0 where
  fault : word_fault shape [] false waiting word (held found pending) ≡ faults
  meets : ◌≡◌ {A = Parts} (word_met rules [] false waiting 1 word (held found pending)) (after_flag rules waiting word met.0 met.1)

flag_fails : (found : List Row) (pending : Pending) (waiting : Waiting) (word : Text) (words : List Text) (faults : Kinds) (met : Held × Outcome) (r : Request)
    → IsFlagWord found pending waiting word faults met → FailsAs faults r → Gives (at found pending waiting false) (word ∷ words) r
flag_fails found pending waiting word words faults met r is fails =
    gives_now _ word words r (fails_as _ _ r (turn_at found pending waiting false word faults _ is.fault is.meets) (fails_first faults _ r fails))

flag_goes : (found : List Row) (pending : Pending) (waiting : Waiting) (word : Text) (words : List Text) (faults : Kinds) (met : Held × Outcome) (r : Request)
    → IsFlagWord found pending waiting word faults met → faults ≡ [] → (after : List Row) (left : Pending) → met ≡ (held after left, done)
    → Gives (at after left idle false) words r → Gives (at found pending waiting false) (word ∷ words) r
flag_goes found pending waiting word words faults met r is fine after left ends later =
    let meets : ◌≡◌ {A = Parts} (word_met rules [] false waiting 1 word (held found pending)) (held after left, next idle) =
    is.meets ∙ ap (λ (m : Held × Outcome). after_flag rules waiting word m.0 m.1) ends in
    gives_more _ _ word words r (turn_at found pending waiting false word [] _ (is.fault ∙ fine) meets) (walked_at found pending waiting false word _ meets) later

flag_waits : (found : List Row) (pending : Pending) (waiting : Waiting) (word : Text) (words : List Text) (faults : Kinds) (met : Held × Outcome) (r : Request)
    → IsFlagWord found pending waiting word faults met → faults ≡ [] → (after : List Row) (left : Pending) (id : Text) → met ≡ (held after left, waits id)
    → Gives (at after left (option id) false) words r → Gives (at found pending waiting false) (word ∷ words) r
flag_waits found pending waiting word words faults met r is fine after left id ends later =
    let meets : ◌≡◌ {A = Parts} (word_met rules [] false waiting 1 word (held found pending)) (held after left, next (option id)) =
    is.meets ∙ ap (λ (m : Held × Outcome). after_flag rules waiting word m.0 m.1) ends in
    gives_more _ _ word words r (turn_at found pending waiting false word [] _ (is.fault ∙ fine) meets) (walked_at found pending waiting false word _ meets) later

-- ---- what a word is

record IsLong (word : Text) : Type 0 where
  dashes : bytes_eq word (codes "--") ≡ false
  name : Text
  behind : Option Text
  is : long_of word ≡ Some (name, behind)

record IsShort (word : Text) : Type 0 where
  dashes : bytes_eq word (codes "--") ≡ false
  long : long_of word ≡ None
  letter : ℕ
  more : Text
  is : short_of word ≡ Some (letter ∷ more)
  begins : word ≡ 45 ∷ letter ∷ more

record IsPlain (word : Text) : Type 0 where
  dashes : bytes_eq word (codes "--") ≡ false
  long : long_of word ≡ None
  short : short_of word ≡ None

abbrev WordIs : Text → Type 0
WordIs word = (bytes_eq word (codes "--") ≡ true) ⊎ (IsLong word ⊎ (IsShort word ⊎ IsPlain word))

short_second : (byte x : ℕ) (rest : Text) (second : Bool) → (x == 45) ≡ second → byte ≡ 45 → (byte == 45) ≡ true → bytes_eq (byte ∷ x ∷ rest) (codes "--") ≡ false
    → long_of (byte ∷ x ∷ rest) ≡ None → WordIs (byte ∷ x ∷ rest)
short_second byte x rest true is hyphen test dashes long = inr (inr (inr (record { dashes = dashes; long = long; short = rw (test, is) refl })))
short_second byte x rest false is hyphen test dashes long = inr (inr (inl (record {
  dashes = dashes;
  long = long;
  letter = x;
  more = rest;
  is = rw (test, is) refl;
  begins = ap (λ (y : ℕ). y ∷ x ∷ rest) hyphen;
})))

short_by : (word : Text) → bytes_eq word (codes "--") ≡ false → long_of word ≡ None → WordIs word
short_by [] dashes long = inr (inr (inr (record { dashes = dashes; long = long; short = refl })))
short_by (byte ∷ rest) dashes long = go (byte == 45) refl rest dashes long
  where
    go : (b : Bool) → (byte == 45) ≡ b → (rest : Text) → bytes_eq (byte ∷ rest) (codes "--") ≡ false → long_of (byte ∷ rest) ≡ None → WordIs (byte ∷ rest)
    go false is rest dashes long = inr (inr (inr (record { dashes = dashes; long = long; short = rw is refl })))
    go true is [] dashes long = inr (inr (inr (record { dashes = dashes; long = long; short = rw is refl })))
    go true is (x ∷ rest) dashes long = short_second byte x rest (x == 45) refl (eqb-true byte 45 is) is dashes long

word_is : (word : Text) → WordIs word
word_is word = go (bytes_eq word (codes "--")) refl (long_of word) refl
  where
    go : (b : Bool) → bytes_eq word (codes "--") ≡ b → (o : Option (Text × Option Text)) → long_of word ≡ o → WordIs word
    go true is o long = inl is
    go false is (Some p) long = inr (inl (record { dashes = is; name = p.0; behind = p.1; is = long }))
    go false is None long = short_by word is long

rest_text : (letters : Text) → IsUtf8 (45 ∷ letters) → IsUtf8 letters
rest_text letters text = elim (begins 45 letters text) [
  | inl ascii ↦ ascii.rest
  | inr high ↦ let bad : 128 ≤ 45 = high.byte in absurd (omega arith)
]

-- ---- what the words of each sort meet

long_word : (found : List Row) (pending : Pending) (waiting : Waiting) (word : Text) → (long : IsLong word)
    → IsFlagWord found pending waiting word (long_fault rules false (arg_by_long rules long.name) long.behind (held found pending))
    (long_met rules (arg_by_long rules long.name) long.behind (held found pending))
long_word found pending waiting word long = record {
  fault = rw (no_names waiting word, long.dashes, long.is) refl;
  meets = rw (no_names waiting word, long.dashes, long.is) refl;
}

short_word : (found : List Row) (pending : Pending) (waiting : Waiting) (word : Text) → (short : IsShort word)
    → IsFlagWord found pending waiting word (flags_fault rules false (length (short.letter ∷ short.more)) (short.letter ∷ short.more) 0 (held found pending))
    (bundle_met rules (length (short.letter ∷ short.more)) (short.letter ∷ short.more) 0 plain (held found pending))
short_word found pending waiting word short = record {
  fault = rw (no_names waiting word, short.dashes, short.long, short.is) refl;
  meets = rw (no_names waiting word, short.dashes, short.long, short.is) refl;
}

plain_word : (found : List Row) (pending : Pending) (waiting : Waiting) (word : Text) → WaitsForNone waiting → IsPlain word → IsValue found pending waiting false word
plain_word found pending idle word none is = (rw (is.dashes, is.long, is.short) refl, rw (is.dashes, is.long, is.short) refl)
plain_word found pending (option id) word none is = absurd none
plain_word found pending positional word none is = (rw (is.dashes, is.long, is.short) refl, rw (is.dashes, is.long, is.short) refl)

-- ---- where a fault comes of what is pending

long_doomed : (o : Option Rule) (v : Option Text) (h : Held) → FailsAs (settle_fault rules false h) refuses → FailsAs (long_fault rules false o v h) refuses
long_doomed None v h fails = unknown
long_doomed (Some a) v h fails = go (takes_values a) refl v
  where
    go : (b : Bool) → takes_values a ≡ b → (v : Option Text) → FailsAs (long_fault rules false (Some a) v h) refuses
    go true is v = rw is (option_doomed a v h refuses fails)
    go false is None = rw is (fails_first (settle_fault rules false h) _ refuses fails)
    go false is (Some text) = rw is (record { kind = TooManyValues; is = refl; asks = refl })

-- each word is a text
abbrev pub AreTexts : List Text → Type 0
AreTexts [] = Unit {0}
AreTexts (word ∷ words) = IsUtf8 word × AreTexts words

short_text : (word : Text) → (short : IsShort word) → IsUtf8 word → IsUtf8 (short.letter ∷ short.more)
short_text word short text = rest_text (short.letter ∷ short.more) (rw short.begins at text)

-- an option, where a fault comes of what is pending
option_fails : (found : List Row) (pending : Pending) (waiting : Waiting) (word : Text) (words : List Text) → IsUtf8 word → FailsAs (settle_fault rules false (held found pending)) refuses
    → IsLong word ⊎ IsShort word → Gives (at found pending waiting false) (word ∷ words) refuses
option_fails found pending waiting word words text fails (inl long) =
    flag_fails found pending waiting word words _ _ refuses (long_word found pending waiting word long) (long_doomed (arg_by_long rules long.name) long.behind (held found pending) fails)
option_fails found pending waiting word words text fails (inr short) =
    flag_fails found pending waiting word words _ _ refuses (short_word found pending waiting word short)
    (letters_doomed short.letter short.more (held found pending) (short_text word short text) fails)

word_fails : (found : List Row) (pending : Pending) (waiting : Waiting) (word : Text) (words : List Text) → IsUtf8 word → WaitsForNone waiting
    → FailsAs (settle_fault rules false (held found pending)) refuses → WordIs word → Gives (at found pending waiting false) (word ∷ words) refuses
word_fails found pending waiting word words text none fails (inl is) =
    dashes_give found pending waiting word words refuses is (trailing_fails words found pending waiting fails)
word_fails found pending waiting word words text none fails (inr (inl long)) = option_fails found pending waiting word words text fails (inl long)
word_fails found pending waiting word words text none fails (inr (inr (inl short))) = option_fails found pending waiting word words text fails (inr short)
word_fails found pending waiting word words text none fails (inr (inr (inr is))) =
    value_fails found pending waiting false word words (plain_word found pending waiting word none is) fails

doomed : (found : List Row) (pending : Pending) (waiting : Waiting) (words : List Text) → AreTexts words → WaitsForNone waiting
    → FailsAs (settle_fault rules false (held found pending)) refuses → Gives (at found pending waiting false) words refuses
doomed found pending waiting [] texts none fails = fails_end found pending waiting false refuses fails
doomed found pending waiting (word ∷ words) texts none fails = word_fails found pending waiting word words texts.0 none fails (word_is word)

-- ---- where a walk stands

abbrev awaits : Pending
awaits = Some (codes "around", [])

-- what the words that are left ask for, where no value is awaited, and behind `--around`
record Reads (words : List Text) : Type 0 where
  later : (had : List Item) (found : List Row) (pending : Pending) (waiting : Waiting) → Stands had found pending → WaitsForNone waiting
      → Gives (at found pending waiting false) words (asked_behind had (items_in words))
  behind : (had : List Item) (found : List Row) → Holds had found
      → Gives (at found awaits (option (codes "around")) false) words (asked_behind had (items_behind words))

abbrev with_item : Item → List Row → Pending → List Row
with_item item found pending = used (rule_for item) (values_for item) (settled_rows rules pending found)

gives_as : (w : Walk) (words : List Text) (r s : Request) → r ≡ s → Gives w words s → Gives w words r
gives_as w words r s same gives = rw same gives

-- an item that does something, met by an option
acts_give : (had : List Item) (found : List Row) (pending : Pending) (waiting : Waiting) (word : Text) (words : List Text) (item : Item) (faults more : Kinds) (met : Held × Outcome)
    → IsFlagWord found pending waiting word faults met → Stands had found pending → Acts item
    → faults ≡ or_else (react_fault rules false (rule_for item) (values_for item) (held found pending)) []
    → met ≡ (held (with_item item found pending) None, done) → Reads words
    → Gives (at found pending waiting false) (word ∷ words) (asked_behind had (item ∷ items_in words))
acts_give had found pending waiting word words item faults more met is stands acts faults_are ends reads = go (is_wrong had item) refl
  where
    go : (b : Bool) → is_wrong had item ≡ b → Gives (at found pending waiting false) (word ∷ words) (asked_behind had (item ∷ items_in words))
    go true bad =
        gives_as _ _ _ refuses (asked_not had item (items_in words) acts bad)
        (flag_fails found pending waiting word words faults met refuses is (fails_as _ _ refuses faults_are (fails_first _ _ refuses (reacts_not had found pending item stands acts bad))))
    go false good =
        gives_as _ _ _ (asked_behind (had ++ item ∷ []) (items_in words)) (asked_right had item (items_in words) acts good)
        (flag_goes found pending waiting word words faults met _ is
        (faults_are ∙ ap (λ (k : Kinds). or_else k []) (reacts had found pending item stands acts good)) (with_item item found pending) None ends
        (reads.later (had ++ item ∷ []) (with_item item found pending) None idle (stands_more had found pending item stands acts good) tt))

or_nothing : (k : Kinds) → k ≡ or_else k []
or_nothing [] = refl
or_nothing (x ∷ xs) = refl

-- `--around`
name_is : (name : Text) → bytes_eq (codes "around") name ≡ true → arg_by_long rules name ≡ Some around_built
name_is name is = sym (ap (arg_by_long rules) ((bytes_eq-Decides (codes "around") name).0 is))

around_value : (had : List Item) (found : List Row) (pending : Pending) (waiting : Waiting) (word : Text) (words : List Text) (name text : Text)
    → IsFlagWord found pending waiting word (long_fault rules false (arg_by_long rules name) (Some text) (held found pending))
    (long_met rules (arg_by_long rules name) (Some text) (held found pending))
    → bytes_eq (codes "around") name ≡ true → Stands had found pending → Reads words
    → Gives (at found pending waiting false) (word ∷ words) (asked_behind had (around text ∷ items_in words))
around_value had found pending waiting word words name text is around_is stands reads =
    let rule = name_is name around_is in
    acts_give had found pending waiting word words (around text) _ [] _ is stands tt
    (ap (λ (o : Option Rule). long_fault rules false o (Some text) (held found pending)) rule ∙ or_nothing _)
    (ap (λ (o : Option Rule). long_met rules o (Some text) (held found pending)) rule) reads

around_alone : (had : List Item) (found : List Row) (pending : Pending) (waiting : Waiting) (word : Text) (words : List Text) (name : Text)
    → IsFlagWord found pending waiting word (long_fault rules false (arg_by_long rules name) None (held found pending))
    (long_met rules (arg_by_long rules name) None (held found pending))
    → bytes_eq (codes "around") name ≡ true → Stands had found pending → Reads words
    → Gives (at found pending waiting false) (word ∷ words) (asked_behind had (items_behind words))
around_alone had found pending waiting word words name is around_is stands reads =
    let rule = name_is name around_is in
    flag_waits found pending waiting word words _ _ _ is
    (ap (λ (o : Option Rule). long_fault rules false o None (held found pending)) rule ∙ stands.fine)
    (settled_rows rules pending found) awaits (codes "around")
    (ap (λ (o : Option Rule). long_met rules o None (held found pending)) rule)
    (reads.behind had (settled_rows rules pending found) stands.holds)

-- another option with a value
needless : (o : Option Rule) (item : Item) (text : Text) (h : Held) → Meaning o item → FailsAs (long_fault rules false o (Some text) h) refuses
needless o item text h (inl flag) = record { kind = TooManyValues; is = rw (flag.is, flag.takes) refl; asks = refl }
needless o item text h (inr (inl (is, asks))) = record {
  kind = TooManyValues;
  is = ap (λ (r : Option Rule). long_fault rules false r (Some text) h) asks.is ∙ rw asks.takes refl;
  asks = refl;
}
needless o item text h (inr (inr (is, none))) = record { kind = UnknownArgument; is = rw none refl; asks = refl }

-- and with none
name_gives : (had : List Item) (found : List Row) (pending : Pending) (waiting : Waiting) (word : Text) (words : List Text) (o : Option Rule) (item : Item)
    → IsFlagWord found pending waiting word (long_fault rules false o None (held found pending)) (long_met rules o None (held found pending))
    → Stands had found pending → Reads words → Meaning o item
    → Gives (at found pending waiting false) (word ∷ words) (asked_behind had (item ∷ items_in words))
name_gives had found pending waiting word words o item is stands reads (inl flag) =
    acts_give had found pending waiting word words item _ [] _ is stands flag.acts (rw (flag.is, flag.takes, flag.alone) (or_nothing _)) (rw (flag.is, flag.takes, flag.alone) refl) reads
name_gives had found pending waiting word words o item is stands reads (inr (inl (shown_is, asks))) =
    rw shown_is (flag_fails found pending waiting word words _ _ shows is
    (fails_as _ _ shows (ap (λ (r : Option Rule). long_fault rules false r None (held found pending)) asks.is ∙ rw asks.takes refl)
    (asks_fault o had found pending asks stands)))
name_gives had found pending waiting word words o item is stands reads (inr (inr (wrong_is, none))) =
    rw wrong_is (flag_fails found pending waiting word words _ _ refuses is (record { kind = UnknownArgument; is = rw none refl; asks = refl }))

long_gives : (had : List Item) (found : List Row) (pending : Pending) (waiting : Waiting) (word : Text) (words : List Text) (name : Text) (text : Option Text)
    → IsFlagWord found pending waiting word (long_fault rules false (arg_by_long rules name) text (held found pending)) (long_met rules (arg_by_long rules name) text (held found pending))
    → Stands had found pending → Reads words → (b : Bool) → bytes_eq (codes "around") name ≡ b
    → Gives (at found pending waiting false) (word ∷ words) (asked_behind had (named name text (items_in words) (items_behind words)))
long_gives had found pending waiting word words name None is stands reads true around_is =
    rw around_is (around_alone had found pending waiting word words name is around_is stands reads)
long_gives had found pending waiting word words name (Some text) is stands reads true around_is =
    rw around_is (around_value had found pending waiting word words name text is around_is stands reads)
long_gives had found pending waiting word words name None is stands reads false other =
    rw other (name_gives had found pending waiting word words (arg_by_long rules name) (by_name name) is stands reads (named_by name other))
long_gives had found pending waiting word words name (Some text) is stands reads false other =
    rw other (flag_fails found pending waiting word words _ _ refuses is (needless (arg_by_long rules name) (by_name name) text (held found pending) (named_by name other)))

short_gives : (had : List Item) (found : List Row) (pending : Pending) (waiting : Waiting) (word : Text) (words : List Text) (short : IsShort word) → Stands had found pending → Reads words
    → Letters had found pending (short.letter ∷ short.more) plain
    → Gives (at found pending waiting false) (word ∷ words) (asked_behind had (map by_letter (short.letter ∷ short.more) ++ items_in words))
short_gives had found pending waiting word words short stands reads (inl run) =
    gives_as _ _ _ (asked_behind run.later (items_in words)) (run.asks (items_in words))
    (flag_goes found pending waiting word words _ _ _ (short_word found pending waiting word short) run.fine run.rows run.waits run.met
    (reads.later run.later run.rows run.waits idle run.stands tt))
short_gives had found pending waiting word words short stands reads (inr end) =
    gives_as _ _ _ end.asked (sym (end.asks (items_in words)))
    (flag_fails found pending waiting word words _ _ end.asked (short_word found pending waiting word short) end.fails)

word_gives : (had : List Item) (found : List Row) (pending : Pending) (waiting : Waiting) (word : Text) (words : List Text) → IsUtf8 word → Stands had found pending
    → WaitsForNone waiting → Reads words → WordIs word → Gives (at found pending waiting false) (word ∷ words) (asked_behind had (items_in (word ∷ words)))
word_gives had found pending waiting word words text stands none reads (inl is) =
    rw is (dashes_give found pending waiting word words _ is (trailing_gives words had found pending waiting stands))
word_gives had found pending waiting word words text stands none reads (inr (inl long)) =
    rw (long.dashes, long.is) (long_gives had found pending waiting word words long.name long.behind (long_word found pending waiting word long) stands reads _ refl)
word_gives had found pending waiting word words text stands none reads (inr (inr (inl short))) =
    rw (short.dashes, short.long, short.is) (short_gives had found pending waiting word words short stands reads
    (letters (short.letter ∷ short.more) had found pending plain stands (short_text word short text)))
word_gives had found pending waiting word words text stands none reads (inr (inr (inr is))) =
    rw (is.dashes, is.long, is.short) (value_gives had found pending waiting false word words _ (plain_word found pending waiting word none is) stands
    (reads.later (had ++ file word ∷ []) (settled_rows rules pending found) (file_waits word) positional (file_stands had found pending word stands) tt))

-- ---- behind `--around`

awaited_fault : (found : List Row) → FailsAs (settle_fault rules false (held found awaits)) refuses
awaited_fault found = record { kind = InvalidValue; is = refl; asks = refl }

abbrev valued : Text → Pending
valued word = Some (codes "around", word ∷ [])

value_goes : (found : List Row) (word : Text) (words : List Text) (r : Request) → IsPlain word → Gives (at found (valued word) idle false) words r
    → Gives (at found awaits (option (codes "around")) false) (word ∷ words) r
value_goes found word words r is later =
    let met : ◌≡◌ {A = Parts} (word_met rules [] false (option (codes "around")) 1 word (held found awaits)) (held found (valued word), next idle) =
    rw (is.dashes, is.long, is.short) refl in
    gives_more _ _ word words r (turn_at found awaits (option (codes "around")) false word [] _ (rw (is.dashes, is.long, is.short) refl) met)
    (walked_at found awaits (option (codes "around")) false word _ met) later

awaited_value : (had : List Item) (found : List Row) (word : Text) (words : List Text) → AreTexts words → Holds had found → Reads words → IsPlain word
    → Gives (at found awaits (option (codes "around")) false) (word ∷ words) (asked_behind had (around word ∷ items_in words))
awaited_value had found word words texts holds reads is = go (is_wrong had (around word)) refl
  where
    go : (b : Bool) → is_wrong had (around word) ≡ b → Gives (at found awaits (option (codes "around")) false) (word ∷ words) (asked_behind had (around word ∷ items_in words))
    go true bad =
        gives_as _ _ _ refuses (asked_not had (around word) (items_in words) tt bad)
        (value_goes found word words refuses is (doomed found (valued word) idle words texts tt (not_right had found (around word) holds tt bad)))
    go false good =
        let r = right had found (around word) holds tt good in
        gives_as _ _ _ (asked_behind (had ++ around word ∷ []) (items_in words)) (asked_right had (around word) (items_in words) tt good)
        (value_goes found word words _ is (reads.later (had ++ around word ∷ []) found (valued word) idle
        (record { fine = r.fine; holds = one_more had found (around word) r.says holds }) tt))

awaited_gives : (had : List Item) (found : List Row) (word : Text) (words : List Text) → IsUtf8 word → AreTexts words → Holds had found → Reads words → WordIs word
    → Gives (at found awaits (option (codes "around")) false) (word ∷ words) (asked_behind had (items_behind (word ∷ words)))
awaited_gives had found word words text texts holds reads (inl is) =
    rw is (dashes_give found awaits (option (codes "around")) word words refuses is (trailing_fails words found awaits (option (codes "around")) (awaited_fault found)))
awaited_gives had found word words text texts holds reads (inr (inl long)) =
    rw (long.dashes, long.is) (option_fails found awaits (option (codes "around")) word words text (awaited_fault found) (inl long))
awaited_gives had found word words text texts holds reads (inr (inr (inl short))) =
    rw (short.dashes, short.long, short.is) (option_fails found awaits (option (codes "around")) word words text (awaited_fault found) (inr short))
awaited_gives had found word words text texts holds reads (inr (inr (inr is))) =
    rw (is.dashes, is.long, is.short) (awaited_value had found word words texts holds reads is)

-- ---- all words

reads_none : Reads []
reads_none = record {
  later = λ had found pending waiting stands none. gives_end had found pending waiting false stands;
  behind = λ had found holds. fails_end found awaits (option (codes "around")) false refuses (awaited_fault found);
}

reads_more : (word : Text) (words : List Text) → IsUtf8 word → AreTexts words → Reads words → Reads (word ∷ words)
reads_more word words text texts reads = record {
  later = λ had found pending waiting stands none. word_gives had found pending waiting word words text stands none reads (word_is word);
  behind = λ had found holds. awaited_gives had found word words text texts holds reads (word_is word);
}

reads_all : (words : List Text) → AreTexts words → Reads words
reads_all [] texts = reads_none
reads_all (word ∷ words) texts = reads_more word words texts.0 texts.1 (reads_all words texts.1)

pub walk_gives : (words : List Text) → AreTexts words → Gives (at [] None idle false) words (asked words)
walk_gives words texts = (reads_all words texts).later [] [] None idle (record { fine = refl; holds = record { are = λ name. refl; counted = tt } }) tt

-- ---- what a parse gives

pub arguments_are_texts : {Z : Type 0} (arguments : List (String Z)) → AreTexts (map string_bytes arguments)
arguments_are_texts [] = tt
arguments_are_texts (argument ∷ arguments) = (IsUtf8-string_bytes argument, arguments_are_texts arguments)

fault_is : (words : List Text) → fault_of parser_of_arguments words ≡ faults (at [] None idle false) words
fault_is words = leaf_fault (built parser_of_arguments) nothing_held words refl

-- what the parser finds asks for this
asked_for : (words : List Text) → AreTexts words → ((fault_of parser_of_arguments words ≡ []) × (asked_in (matches_of parser_of_arguments words) ≡ asked words))
    ⊎ FailsAs (fault_of parser_of_arguments words) (asked words)
asked_for words texts = elim (walk_gives words texts) [
  | inl good ↦ inl (fault_is words ∙ good.0, good.1)
  | inr bad ↦ inr (fails_as _ _ (asked words) (fault_is words) bad)
]

among_one : (k kind : ErrorKind) (faults : Kinds) → faults ≡ kind ∷ [] → IsAmong k faults → k ≡ kind
among_one k kind faults is among = elim (rw is at among) [ inl same ↦ same | inr none ↦ absurd none ]

kind_asks : (words : List Text) → AreTexts words → (k : ErrorKind) → IsAmong k (fault_of parser_of_arguments words) → request_of_kind k ≡ asked words
kind_asks words texts k among = elim (asked_for words texts) [
  | inl good ↦ let none : IsAmong k [] = rw good.0 at among in absurd none
  | inr bad ↦ ap request_of_kind (among_one k bad.kind _ bad.is among) ∙ bad.asks
]

matches_ask : (words : List Text) → AreTexts words → fault_of parser_of_arguments words ≡ [] → asked_in (matches_of parser_of_arguments words) ≡ asked words
matches_ask words texts none = elim (asked_for words texts) [
  | inl good ↦ good.1
  | inr bad ↦ let same : [] ≡ bad.kind ∷ [] = sym none ∙ bad.is in cc
]

-- what is made of an error of the parser
pub asked_with : (result : Result Asked AllocError) (words : List Text) (k : ErrorKind) → AreTexts words → (k ≡ OutOfMemory → IsErr result)
    → IfOk result (λ a. request a ≡ request_of_kind k) → (k ≡ OutOfMemory) ⊎ IsAmong k (fault_of parser_of_arguments words)
    → IfOk result (λ a. request a ≡ asked words)
asked_with (Err fault) words k texts memory is fails = tt
asked_with (Ok a) words k texts memory is (inl out) = (let bad = memory out in cc)
asked_with (Ok a) words k texts memory is (inr among) = is ∙ kind_asks words texts k among

-- and of its matches
pub asked_without : (result : Result Asked AllocError) (words : List Text) (found : List Row) → AreTexts words → fault_of parser_of_arguments words ≡ []
    → found ≡ matches_of parser_of_arguments words → IfOk result (λ a. request a ≡ asked_in found) → IfOk result (λ a. request a ≡ asked words)
asked_without (Err fault) words found texts none same is = tt
asked_without (Ok a) words found texts none same is = is ∙ (ap asked_in same ∙ matches_ask words texts none)
