-- What a walk makes of the letters behind a hyphen.
use Rattle.std.proofs.Common.{◌≡◌, ◌∙◌, ◌⊎◌, ◌≤◌, inl, inr, ℕ, Bool, suc, true, false, List, [], ◌∷◌, ◌++◌, map, drop, length, Option, Some, None, refl, sym, ap, ap₂, slice_get, IsUtf8, arith}
use Rattle.std.specs.Char.{encode_utf8}
use Rattle.std.specs.Str.{chars, encode_utf8_all}
use Rattle.std.proofs.lemmas.Bool.{cases_lt}
use Rattle.std.proofs.lemmas.Str.{IsUtf8-past_char, byte_from_char, char_from_byte, chars_past_char, encode_ascii}
use Rattle.clap.specs.Faults.{flags_fault, option_fault, react_fault, settle_fault, short_fault}
use Rattle.clap.specs.Kinds.{Kinds, or_else}
use Rattle.clap.specs.Walk.{Held, Outcome, Row, Rule, Text, arg_by_short, attached_value, bundle_met, done, reacted, settled_rows, short_met, takes_values, used}
use Rattle.clap.specs.declared.error.kind.ErrorKind.TheVariants.{UnknownArgument}
use Rattle.qa_arguments.specs.why.Asked.{Request, refuses, shows}
use Rattle.qa_arguments.specs.why.Words.{Item, asked_behind, by_letter, is_wrong, shown, wrong}
use Rattle.qa_arguments.proofs.why_lemmas.Meaning.{Asks, IsFlagAt, Meaning, high_letter, lettered_by}
use Rattle.qa_arguments.proofs.why_lemmas.Rows.{rule_for, rules, values_for}
use Rattle.qa_arguments.proofs.why_lemmas.Turns.{FailsAs, Pending, Stands, asked_not, asked_right, held, reacts, reacts_not, stands_more}

abbrev pub outcome_behind : Text → Outcome → Outcome
outcome_behind [] so_far = so_far
outcome_behind (x ∷ xs) so_far = done

-- ---- the first character

-- a text begins with an ASCII character, or with one that is none
pub record BeginsAscii (x : ℕ) (xs : List ℕ) : Type 0 where
  pub first : slice_get (chars (x ∷ xs)) 0 ≡ Some x
  pub one : length (encode_utf8 x) ≡ 1
  pub rest : IsUtf8 xs

pub record BeginsHigh (x : ℕ) (xs : List ℕ) : Type 0 where
  pub char : ℕ
  pub first : slice_get (chars (x ∷ xs)) 0 ≡ Some char
  pub high : 128 ≤ char
  pub byte : 128 ≤ x

first_of_text : (x : ℕ) (xs rest : List ℕ) (c : ℕ) → IsUtf8 (x ∷ xs) → x ∷ xs ≡ encode_utf8 c ++ rest → slice_get (chars (x ∷ xs)) 0 ≡ Some c
first_of_text x xs rest c text is = rw (chars_past_char (x ∷ xs) rest c text is) refl

tail_is : (x : ℕ) (xs rest : List ℕ) → x ∷ xs ≡ x ∷ rest → rest ≡ xs
tail_is x xs rest is = sym (ap (drop 1) is)

begins_by : (x : ℕ) (xs rest : List ℕ) (c : ℕ) → IsUtf8 (x ∷ xs) → x ∷ xs ≡ encode_utf8 c ++ rest → BeginsAscii x xs ⊎ BeginsHigh x xs
begins_by x xs rest c text is =
    elim (cases_lt c 128) [
      | inl low ↦
          let byte : x ≡ c = byte_from_char (x ∷ xs) rest c is low in
          let spells : encode_utf8 c ≡ c ∷ [] = encode_ascii c low in
          let is_c : x ∷ xs ≡ c ∷ rest = is ∙ ap (λ (e : List ℕ). e ++ rest) spells in
          let same : rest ≡ xs = sym (ap (drop 1) is_c) in
          inl (record {
            first = first_of_text x xs rest c text is ∙ ap Some (sym byte);
            one = ap length (ap encode_utf8 byte ∙ spells);
            rest = rw same at (IsUtf8-past_char (x ∷ xs) rest c text is);
          })
      | inr high ↦ inr (record {
        char = c;
        first = first_of_text x xs rest c text is;
        high = high;
        byte = elim (cases_lt x 128) [
          | inl low ↦
              let char : c ≡ x = char_from_byte (x ∷ xs) rest c is low (omega arith) in
              absurd (omega arith)
          | inr byte ↦ byte
        ];
      })
    ]

pub begins : (x : ℕ) (xs : List ℕ) → IsUtf8 (x ∷ xs) → BeginsAscii x xs ⊎ BeginsHigh x xs
begins x xs text = go text.0 text.1.1
  where
    go : (cs : List ℕ) → encode_utf8_all cs ≡ x ∷ xs → BeginsAscii x xs ⊎ BeginsHigh x xs
    go [] is = cc
    go (c ∷ cs) is = begins_by x xs (encode_utf8_all cs) c text (sym is)

-- ---- letters where a fault comes of what is pending

pub fails_first : (first next : Kinds) (r : Request) → FailsAs first r → FailsAs (or_else first next) r
fails_first first next r fails = record { kind = fails.kind; is = ap (λ (k : Kinds). or_else k next) fails.is; asks = fails.asks }

pub option_doomed : (a : Rule) (value : Option Text) (h : Held) (r : Request) → FailsAs (settle_fault rules false h) r → FailsAs (option_fault rules false a value h) r
option_doomed a None h r fails = fails
option_doomed a (Some value) h r fails = fails_first (settle_fault rules false h) _ r fails

pub unknown : FailsAs (UnknownArgument ∷ []) refuses
unknown = record { kind = UnknownArgument; is = refl; asks = refl }

pub short_doomed : (o : Option Rule) (rest : Text) (h : Held) (next : Held → Kinds) → FailsAs (settle_fault rules false h) refuses
    → FailsAs (short_fault rules false o rest h next) refuses
short_doomed None rest h next fails = unknown
short_doomed (Some a) rest h next fails = go (takes_values a) refl
  where
    go : (b : Bool) → takes_values a ≡ b → FailsAs (short_fault rules false (Some a) rest h next) refuses
    go true is = rw is (option_doomed a (attached_value rest) h refuses fails)
    go false is = rw is (fails_first (react_fault rules false a [] h) (next (reacted rules a [] h)) refuses (fails_first (settle_fault rules false h) _ refuses fails))

-- the first of some letters
flags_of : (x : ℕ) (xs : List ℕ) (c : ℕ) (h : Held) → slice_get (chars (x ∷ xs)) 0 ≡ Some c
    → flags_fault rules false (suc (length xs)) (x ∷ xs) 0 h
    ≡ short_fault rules false (arg_by_short rules c) (drop (length (encode_utf8 c)) (x ∷ xs)) h (flags_fault rules false (length xs) (drop (length (encode_utf8 c)) (x ∷ xs)) 0)
unfolding flags_fault
flags_of x xs c h first = rw first refl

met_of : (x : ℕ) (xs : List ℕ) (c : ℕ) (so_far : Outcome) (h : Held) → slice_get (chars (x ∷ xs)) 0 ≡ Some c
    → bundle_met rules (suc (length xs)) (x ∷ xs) 0 so_far h
    ≡ short_met rules (arg_by_short rules c) (drop (length (encode_utf8 c)) (x ∷ xs)) h (bundle_met rules (length xs) (drop (length (encode_utf8 c)) (x ∷ xs)) 0 done)
unfolding bundle_met
met_of x xs c so_far h first = rw first refl

pub fails_as : (a b : Kinds) (r : Request) → a ≡ b → FailsAs b r → FailsAs a r
fails_as a b r same fails = record { kind = fails.kind; is = same ∙ fails.is; asks = fails.asks }

pub letters_doomed : (x : ℕ) (xs : List ℕ) (h : Held) → IsUtf8 (x ∷ xs) → FailsAs (settle_fault rules false h) refuses
    → FailsAs (flags_fault rules false (suc (length xs)) (x ∷ xs) 0 h) refuses
letters_doomed x xs h text fails = elim (begins x xs text) [
  | inl ascii ↦ fails_as _ _ refuses (flags_of x xs x h ascii.first) (short_doomed (arg_by_short rules x) _ h _ fails)
  | inr high ↦ fails_as _ _ refuses (flags_of x xs high.char h high.first) (short_doomed (arg_by_short rules high.char) _ h _ fails)
]

-- ---- letters where a walk stands

-- the letters are options, and the walk goes on behind them
pub record LettersRun (had : List Item) (found : List Row) (pending : Pending) (letters : Text) (so_far : Outcome) : Type 0 where
  pub later : List Item
  pub rows : List Row
  pub waits : Pending
  pub fine : flags_fault rules false (length letters) letters 0 (held found pending) ≡ []
  pub met : ◌≡◌ {A = Held × Outcome} (bundle_met rules (length letters) letters 0 so_far (held found pending)) (held rows waits, outcome_behind letters so_far)
  pub stands : Stands later rows waits
  pub asks : (more : List Item) → asked_behind had (map by_letter letters ++ more) ≡ asked_behind later more

-- the letters end the parse
pub record LettersEnd (had : List Item) (found : List Row) (pending : Pending) (letters : Text) : Type 0 where
  pub asked : Request
  pub fails : FailsAs (flags_fault rules false (length letters) letters 0 (held found pending)) asked
  pub asks : (more : List Item) → asked ≡ asked_behind had (map by_letter letters ++ more)

abbrev pub Letters : List Item → List Row → Pending → Text → Outcome → Type 0
Letters had found pending letters so_far = LettersRun had found pending letters so_far ⊎ LettersEnd had found pending letters

pub short_flag : (o : Option Rule) (item : Item) (rest : Text) (h : Held) (next : Held → Kinds) → IsFlagAt o item
    → short_fault rules false o rest h next ≡ or_else (react_fault rules false (rule_for item) (values_for item) h) (next (reacted rules (rule_for item) (values_for item) h))
short_flag o item rest h next flag = rw (flag.is, flag.takes, flag.alone) refl

met_flag : (o : Option Rule) (item : Item) (rest : Text) (h : Held) (next : Held → Held × Outcome) → IsFlagAt o item
    → short_met rules o rest h next ≡ next (reacted rules (rule_for item) (values_for item) h)
met_flag o item rest h next flag = rw (flag.is, flag.takes, flag.alone) refl

outcome_done : (xs : Text) → outcome_behind xs done ≡ done
outcome_done [] = refl
outcome_done (x ∷ xs) = refl

-- the help or the version, where no fault comes of what is pending
pub asks_fault : (o : Option Rule) (had : List Item) (found : List Row) (pending : Pending) → (asks : Asks o) → Stands had found pending
    → FailsAs (react_fault rules false asks.rule [] (held found pending)) shows
asks_fault o had found pending asks stands = record {
  kind = asks.kind;
  is = ap₂ or_else stands.fine (asks.fault (settled_rows rules pending found));
  asks = asks.shows_it;
}

short_asks : (o : Option Rule) (rest : Text) (h : Held) (next : Held → Kinds) → (asks : Asks o)
    → short_fault rules false o rest h next ≡ or_else (react_fault rules false asks.rule [] h) (next (reacted rules asks.rule [] h))
short_asks o rest h next asks = ap (λ (r : Option Rule). short_fault rules false r rest h next) asks.is ∙ rw asks.takes refl

short_none : (o : Option Rule) (rest : Text) (h : Held) (next : Held → Kinds) → o ≡ None → short_fault rules false o rest h next ≡ UnknownArgument ∷ []
short_none o rest h next none = rw none refl

letters_high : (had : List Item) (found : List Row) (pending : Pending) (x : ℕ) (xs : Text) (so_far : Outcome) → BeginsHigh x xs → Letters had found pending (x ∷ xs) so_far
letters_high had found pending x xs so_far high = inr (record {
  asked = refuses;
  fails = fails_as _ _ refuses (flags_of x xs high.char (held found pending) high.first
      ∙ short_none _ _ _ _ (high_letter high.char high.high).1) unknown;
  asks = λ more. sym (ap (λ (i : Item). asked_behind had (i ∷ map by_letter xs ++ more)) (high_letter x high.byte).0);
})

letters_unknown : (had : List Item) (found : List Row) (pending : Pending) (x : ℕ) (xs : Text) (so_far : Outcome) → BeginsAscii x xs
    → by_letter x ≡ wrong → arg_by_short rules x ≡ None → Letters had found pending (x ∷ xs) so_far
letters_unknown had found pending x xs so_far ascii is none = inr (record {
  asked = refuses;
  fails = fails_as _ _ refuses (flags_of x xs x (held found pending) ascii.first ∙ short_none _ _ _ _ none) unknown;
  asks = λ more. sym (ap (λ (i : Item). asked_behind had (i ∷ map by_letter xs ++ more)) is);
})

letters_shown : (had : List Item) (found : List Row) (pending : Pending) (x : ℕ) (xs : Text) (so_far : Outcome) → BeginsAscii x xs → Stands had found pending
    → by_letter x ≡ shown → Asks (arg_by_short rules x) → Letters had found pending (x ∷ xs) so_far
letters_shown had found pending x xs so_far ascii stands is asks = inr (record {
  asked = shows;
  fails = fails_as _ _ shows (flags_of x xs x (held found pending) ascii.first ∙ short_asks (arg_by_short rules x) _ (held found pending) _ asks)
      (fails_first _ _ shows (asks_fault (arg_by_short rules x) had found pending asks stands));
  asks = λ more. sym (ap (λ (i : Item). asked_behind had (i ∷ map by_letter xs ++ more)) is);
})

letters_again : (had : List Item) (found : List Row) (pending : Pending) (x : ℕ) (xs : Text) (so_far : Outcome) → BeginsAscii x xs → Stands had found pending
    → IsFlagAt (arg_by_short rules x) (by_letter x) → is_wrong had (by_letter x) ≡ true → Letters had found pending (x ∷ xs) so_far
letters_again had found pending x xs so_far ascii stands flag is = inr (record {
  asked = refuses;
  fails = fails_as _ _ refuses (flags_of x xs x (held found pending) ascii.first ∙ short_flag (arg_by_short rules x) (by_letter x) _ (held found pending) _ flag)
      (fails_first _ _ refuses (reacts_not had found pending (by_letter x) stands flag.acts is));
  asks = λ more. sym (asked_not had (by_letter x) (map by_letter xs ++ more) flag.acts is);
})

rest_is : (x : ℕ) (xs : Text) → BeginsAscii x xs → drop (length (encode_utf8 x)) (x ∷ xs) ≡ xs
rest_is x xs ascii = ap (λ (n : ℕ). drop n (x ∷ xs)) ascii.one

abbrev with_item : Item → List Row → Pending → List Row
with_item item found pending = used (rule_for item) (values_for item) (settled_rows rules pending found)

letters_more : (had : List Item) (found : List Row) (pending : Pending) (x : ℕ) (xs : Text) (so_far : Outcome) → BeginsAscii x xs → Stands had found pending
    → IsFlagAt (arg_by_short rules x) (by_letter x) → is_wrong had (by_letter x) ≡ false
    → Letters (had ++ by_letter x ∷ []) (with_item (by_letter x) found pending) None xs done → Letters had found pending (x ∷ xs) so_far
letters_more had found pending x xs so_far ascii stands flag is (inl run) = inl (record {
  later = run.later;
  rows = run.rows;
  waits = run.waits;
  fine = flags_of x xs x (held found pending) ascii.first
      ∙ (short_flag (arg_by_short rules x) (by_letter x) _ (held found pending) _ flag
      ∙ (ap₂ (λ (k : Kinds) (rest : Text). or_else k (flags_fault rules false (length xs) rest 0 (held (with_item (by_letter x) found pending) None)))
      (reacts had found pending (by_letter x) stands flag.acts is) (rest_is x xs ascii) ∙ run.fine));
  met = met_of x xs x so_far (held found pending) ascii.first
      ∙ (met_flag (arg_by_short rules x) (by_letter x) _ (held found pending) _ flag
      ∙ (ap (λ (rest : Text). bundle_met rules (length xs) rest 0 done (held (with_item (by_letter x) found pending) None)) (rest_is x xs ascii)
      ∙ (run.met ∙ ap (λ (o : Outcome). (held run.rows run.waits, o)) (outcome_done xs))));
  stands = run.stands;
  asks = λ more. asked_right had (by_letter x) (map by_letter xs ++ more) flag.acts is ∙ run.asks more;
})
letters_more had found pending x xs so_far ascii stands flag is (inr end) = inr (record {
  asked = end.asked;
  fails = fails_as _ _ end.asked (flags_of x xs x (held found pending) ascii.first
      ∙ (short_flag (arg_by_short rules x) (by_letter x) _ (held found pending) _ flag
      ∙ ap₂ (λ (k : Kinds) (rest : Text). or_else k (flags_fault rules false (length xs) rest 0 (held (with_item (by_letter x) found pending) None)))
      (reacts had found pending (by_letter x) stands flag.acts is) (rest_is x xs ascii))) end.fails;
  asks = λ more. end.asks more ∙ sym (asked_right had (by_letter x) (map by_letter xs ++ more) flag.acts is);
})

letters_none : (had : List Item) (found : List Row) (pending : Pending) (so_far : Outcome) → Stands had found pending → Letters had found pending [] so_far
unfolding flags_fault bundle_met
letters_none had found pending so_far stands = inl (record {
  later = had;
  rows = found;
  waits = pending;
  fine = refl;
  met = refl;
  stands = stands;
  asks = λ more. refl;
})

abbrev Later : Text → Type 0
Later xs = (had : List Item) (found : List Row) (pending : Pending) (so_far : Outcome) → Stands had found pending → IsUtf8 xs → Letters had found pending xs so_far

letters_ascii : (had : List Item) (found : List Row) (pending : Pending) (x : ℕ) (xs : Text) (so_far : Outcome) → BeginsAscii x xs → Stands had found pending → Later xs
    → Meaning (arg_by_short rules x) (by_letter x) → Letters had found pending (x ∷ xs) so_far
letters_ascii had found pending x xs so_far ascii stands later (inl flag) = go (is_wrong had (by_letter x)) refl
  where
    go : (b : Bool) → is_wrong had (by_letter x) ≡ b → Letters had found pending (x ∷ xs) so_far
    go true is = letters_again had found pending x xs so_far ascii stands flag is
    go false is = letters_more had found pending x xs so_far ascii stands flag is
        (later (had ++ by_letter x ∷ []) (with_item (by_letter x) found pending) None done (stands_more had found pending (by_letter x) stands flag.acts is) ascii.rest)
letters_ascii had found pending x xs so_far ascii stands later (inr (inl (is, asks))) = letters_shown had found pending x xs so_far ascii stands is asks
letters_ascii had found pending x xs so_far ascii stands later (inr (inr (is, none))) = letters_unknown had found pending x xs so_far ascii is none

letters_by : (had : List Item) (found : List Row) (pending : Pending) (x : ℕ) (xs : Text) (so_far : Outcome) → Stands had found pending → Later xs
    → BeginsAscii x xs ⊎ BeginsHigh x xs → Letters had found pending (x ∷ xs) so_far
letters_by had found pending x xs so_far stands later (inl ascii) = letters_ascii had found pending x xs so_far ascii stands later (lettered_by x)
letters_by had found pending x xs so_far stands later (inr high) = letters_high had found pending x xs so_far high

pub letters : (xs : Text) → Later xs
letters [] had found pending so_far stands text = letters_none had found pending so_far stands
letters (x ∷ xs) had found pending so_far stands text = letters_by had found pending x xs so_far stands (letters xs) (begins x xs text)
