-- What is written with a line.
use Rattle.std.specs.Prelude.{◌/◌, ◌++◌, ℕ, Bool, true, false, List, [], ◌∷◌}
use Rattle.std.specs.Prelude.{if◌then◌else◌}
use Rattle.std.specs.List.{list_any}
use Rattle.serde_json.specs.Data.{Members, array, no_members, put, string}
use Rattle.qa_base.specs.declared.space.TimeUnit.{TimeUnit}
use Rattle.qa_base.specs.declared.space.TimeUnit.TheVariants.{Microseconds, Nanoseconds}
use Rattle.qa_convert.specs.Guesses.{is_guess, is_of_line, texts_of}
use Rattle.qa_convert.specs.Marks.{Marks, marks_by}
use Rattle.qa_convert.specs.OwnKeys.{own_key_name}
use Rattle.qa_convert.specs.Places.{stretch_text}
use Rattle.qa_convert.specs.declared.guess.Guess.{Guess}
use Rattle.qa_convert.specs.declared.own.OwnKey.TheVariants as keys
use Rattle.qa_convert.specs.declared.place.Place.{Place}

-- nanoseconds in the unit of a trace, rounded down
abbrev pub in_unit : TimeUnit → ℕ → ℕ
in_unit Microseconds ns = ns / 1000
in_unit Nanoseconds ns = ns

-- this is among what was guessed
abbrev pub has_guess : Guess → List Guess → Bool
has_guess g gs = list_any (is_guess g) gs

-- what the line says for which these were guessed
abbrev pub marks_of : List Guess → Marks
marks_of gs = marks_by (λ g. has_guess g gs)

-- guesses with one more, which is told once
abbrev pub with_guess : Guess → List Guess → List Guess
with_guess g gs = if has_guess g gs then gs else gs ++ g ∷ []

-- some guess is of a whole line, of which the log has no record
abbrev pub are_of_line : List Guess → Bool
are_of_line gs = list_any is_of_line gs

-- members with what was guessed
abbrev pub guessed : List Guess → Members → Members
guessed [] ms = ms
guessed (g ∷ gs) ms = put (own_key_name keys.Guess) (array (texts_of (g ∷ gs))) ms

-- members with where they are from
abbrev pub placed : Bool → Place → Place → Bool → Members → Members
placed false first last guess ms = ms
placed true first last guess ms =
    put (own_key_name keys.Place)
    (string (stretch_text (record { first = first; last = last; is_guess = guess }))) ms

-- the own keys of a line that is from records that begin there: what was guessed, if anything, and
-- where it is from, if that is asked for
abbrev pub own_members : Bool → Place → Place → List Guess → Members
own_members has_places first last gs =
    placed has_places first last (are_of_line gs) (guessed gs no_members)
