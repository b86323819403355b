-- What the text of a line says of guesses, in the converter's own keys.
use Rattle.std.specs.Prelude.{ℕ, ◌||◌, Bool, false, List, Option, Some, Result, Ok}
use Rattle.std.specs.Str.{bytes_eq}
use Rattle.serde_json.specs.Data.{Data, Items, no_items, item, array, string}
use Rattle.serde_json.specs.Find.{get}
use Rattle.qa_format.specs.format.Reading.{json_of}
use Rattle.qa_convert.specs.Guesses.{guess_text}
use Rattle.qa_convert.specs.OwnKeys.{own_key_name}
use Rattle.qa_convert.specs.declared.guess.Guess.{Guess}
use Rattle.qa_convert.specs.declared.guess.Guess.TheVariants as guess
use Rattle.qa_convert.specs.declared.own.OwnKey.TheVariants as keys

-- the value is this text
abbrev pub is_text : List ℕ → Data → Bool
is_text t (string s) = bytes_eq t s
is_text t _ = false

-- some item is this text
abbrev pub has_text : List ℕ → Items → Bool
has_text t no_items = false
has_text t (item d ds) = is_text t d || has_text t ds

-- there is a value, and it is a list that has this text
abbrev pub lists : List ℕ → Option Data → Bool
lists t (Some (array ds)) = has_text t ds
lists t _ = false

-- the JSON value of a line has this guess among what it says was guessed
abbrev pub is_said : {Fault : Type 0} → Guess → Result Data Fault → Bool
is_said g (Ok d) = lists (guess_text g) (get (own_key_name keys.Guess) d)
is_said g _ = false

-- the line says that this was guessed
unfoldable pub says_guess : Guess → List ℕ → Bool
says_guess g text = is_said g (json_of text)

-- which guesses a line says: that of the size of a packet; those of the leave by which it was
-- sent, a probe's or that of the entry into recovery; that the window was not used; that of a timer
-- that expired; that keys are gone; and that the handshake is confirmed
pub record Marks : Type 0 where
  pub size : Bool
  pub probe : Bool
  pub recovery : Bool
  pub limited : Bool
  pub timer : Bool
  pub discard : Bool
  pub confirmed : Bool

abbrev pub marks_by : (Guess → Bool) → Marks
marks_by is_said = record {
  size = is_said guess.Size;
  probe = is_said guess.LeaveProbe;
  recovery = is_said guess.LeaveRecovery;
  limited = is_said guess.LimitedByWindow;
  timer = is_said guess.ProbeByCount || is_said guess.ProbeByPing || is_said guess.ProbeByRoom
      || is_said guess.ProbeByTrigger || is_said guess.LossTimer;
  discard = is_said guess.Discard;
  confirmed = is_said guess.Confirmed;
}

-- those that the text of a line says
abbrev pub marks_in : List ℕ → Marks
marks_in text = marks_by (λ g. says_guess g text)
