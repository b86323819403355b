-- That guesses can be written and read.
use Rattle.std.proofs.Common.{◌≡◌, ◌∙◌, ◌≤◌, ◌<◌, ◌+◌, ℕ, List, [], ◌∷◌, ◌++◌, ◌||◌, Bool, get_or, length, map, take, true, false, refl, sym, ap, arith}
use Rattle.std.proofs.lemmas.Bool.Decides.{Decides-eqb}
use Rattle.std.proofs.lemmas.List.{map-append, map_more}
use Rattle.std.proofs.lemmas.List.Folds.{list_any-append}
use Rattle.std.specs.Prelude.{if◌then◌else◌}
use Rattle.serde_json.specs.Data.{Data, array, item, items_depth, no_members, string}
use Rattle.serde_json.specs.View.{items_of}
use Rattle.qa_format.specs.format.Simple.{AreSimple, IsKept, is_ascii}
use Rattle.qa_convert.specs.OwnKeys.{AreOwn}
use Rattle.qa_convert.specs.Outputs.{guessed, has_guess, with_guess}
use Rattle.qa_convert.specs.Guesses.{guess_number, guess_text, is_guess, texts_of}
use Rattle.qa_convert.specs.declared.guess.Guess.{Guess}
use Rattle.qa_convert.specs.declared.guess.Guess.TheVariants as guess

text_is_ascii : (g : Guess) → is_ascii (guess_text g) ≡ true
text_is_ascii guess.DatagramByWindow = refl
text_is_ascii guess.DatagramByPacket = refl
text_is_ascii guess.DatagramLeast = refl
text_is_ascii guess.NoMaxAckDelay = refl
text_is_ascii guess.NoWindow = refl
text_is_ascii guess.HiddenWindow = refl
text_is_ascii guess.InitialRtt = refl
text_is_ascii guess.ProbeByCount = refl
text_is_ascii guess.ProbeByPing = refl
text_is_ascii guess.ProbeByRoom = refl
text_is_ascii guess.ProbeByTrigger = refl
text_is_ascii guess.Size = refl
text_is_ascii guess.SizeByGrowth = refl
text_is_ascii guess.TimerSpace = refl
text_is_ascii guess.LossTimer = refl
text_is_ascii guess.Discard = refl
text_is_ascii guess.Confirmed = refl
text_is_ascii guess.Delay = refl
text_is_ascii guess.Arrival = refl
text_is_ascii guess.Moment = refl
text_is_ascii guess.LimitedByWindow = refl
text_is_ascii guess.LeaveProbe = refl
text_is_ascii guess.LeaveRecovery = refl
text_is_ascii guess.TimeBack = refl

texts_are_simple : (gs : List Guess) → AreSimple (texts_of gs)
texts_are_simple [] = tt
texts_are_simple (g ∷ gs) = (text_is_ascii g, texts_are_simple gs)

texts_are_shallow : (gs : List Guess) → items_depth (texts_of gs) ≤ 1
texts_are_shallow [] = omega arith
texts_are_shallow (g ∷ gs) = omega (arith, texts_are_shallow gs)

pub guesses_are_kept : (gs : List Guess) → IsKept (array (texts_of gs))
guesses_are_kept gs = record { simple = texts_are_simple gs; shallow = omega (arith, texts_are_shallow gs) }

pub guessed_are_own : (gs : List Guess) → AreOwn (guessed gs no_members)
guessed_are_own [] = tt
guessed_are_own (g ∷ gs) = ((refl, refl), guesses_are_kept (g ∷ gs), tt)

-- ---- a list of them

abbrev pub text_value : Guess → Data
text_value g = string (guess_text g)

pub items_of-text_value : (gs : List Guess) → items_of (map text_value gs) ≡ texts_of gs
items_of-text_value [] = refl
items_of-text_value (g ∷ gs) = ap (item (text_value g)) (items_of-text_value gs)

-- one value more stands for one guess more
pub one_more : {X : Type 0} (f : X → Data) (values : List X) (v : X) (gs : List Guess) (i : ℕ) (g : Guess)
    → map f values ≡ map text_value (take i gs) → f v ≡ text_value g → g ≡ get_or gs i g → i < length gs
    → map f (values ++ v ∷ []) ≡ map text_value (take (i + 1) gs)
one_more f values v gs i g listed one at inside =
    map-append f values (v ∷ [])
    ∙ ap (λ xs. xs ++ f v ∷ []) listed
    ∙ ap (λ x. map text_value (take i gs) ++ x ∷ []) (one ∙ ap text_value at)
    ∙ sym (map_more text_value gs i g inside)

-- ---- whether two are one

guesses : List Guess
guesses =
    guess.DatagramByWindow ∷ guess.DatagramByPacket ∷ guess.DatagramLeast ∷ guess.NoMaxAckDelay ∷
    guess.NoWindow ∷ guess.HiddenWindow ∷ guess.InitialRtt ∷ guess.ProbeByCount ∷
    guess.ProbeByPing ∷ guess.ProbeByRoom ∷ guess.ProbeByTrigger ∷ guess.Size ∷
    guess.SizeByGrowth ∷ guess.TimerSpace ∷ guess.LossTimer ∷ guess.Discard ∷ guess.Confirmed ∷
    guess.Delay ∷ guess.Arrival ∷ guess.Moment ∷ guess.LimitedByWindow ∷ guess.LeaveProbe ∷
    guess.LeaveRecovery ∷ guess.TimeBack ∷ []

guess_of : ℕ → Guess
guess_of n = get_or guesses n guess.Size

guess_of-number : (g : Guess) → guess_of (guess_number g) ≡ g
unfolding guess_of guesses
guess_of-number guess.DatagramByWindow = refl
guess_of-number guess.DatagramByPacket = refl
guess_of-number guess.DatagramLeast = refl
guess_of-number guess.NoMaxAckDelay = refl
guess_of-number guess.NoWindow = refl
guess_of-number guess.HiddenWindow = refl
guess_of-number guess.InitialRtt = refl
guess_of-number guess.ProbeByCount = refl
guess_of-number guess.ProbeByPing = refl
guess_of-number guess.ProbeByRoom = refl
guess_of-number guess.ProbeByTrigger = refl
guess_of-number guess.Size = refl
guess_of-number guess.SizeByGrowth = refl
guess_of-number guess.TimerSpace = refl
guess_of-number guess.LossTimer = refl
guess_of-number guess.Discard = refl
guess_of-number guess.Confirmed = refl
guess_of-number guess.Delay = refl
guess_of-number guess.Arrival = refl
guess_of-number guess.Moment = refl
guess_of-number guess.LimitedByWindow = refl
guess_of-number guess.LeaveProbe = refl
guess_of-number guess.LeaveRecovery = refl
guess_of-number guess.TimeBack = refl

pub same_guess : (g h : Guess) → is_guess g h ≡ true → g ≡ h
same_guess g h is =
    sym (guess_of-number g) ∙ ap guess_of ((Decides-eqb (guess_number g) (guess_number h)).0 is) ∙ guess_of-number h

-- ---- what is among guesses

same_itself : (g : Guess) → is_guess g g ≡ true
same_itself g = (Decides-eqb (guess_number g) (guess_number g)).1 refl

there_by : (b : Bool) (g : Guess) (gs : List Guess) → has_guess g gs ≡ b → has_guess g (if b then gs else gs ++ g ∷ []) ≡ true
there_by true g gs is = is
there_by false g gs is =
    list_any-append (is_guess g) gs (g ∷ []) ∙ ap (λ b. b || (is_guess g g || false)) is ∙ ap (λ b. b || false) (same_itself g)

stays_by : (b : Bool) (h g : Guess) (gs : List Guess) → has_guess h gs ≡ true → has_guess h (if b then gs else gs ++ g ∷ []) ≡ true
stays_by true h g gs has = has
stays_by false h g gs has = list_any-append (is_guess h) gs (g ∷ []) ∙ ap (λ b. b || (is_guess h g || false)) has

-- a guess that is added is there, and what was there stays
pub guess_there : (g : Guess) (gs : List Guess) → has_guess g (with_guess g gs) ≡ true
guess_there g gs = there_by (has_guess g gs) g gs refl

pub guess_stays : (h g : Guess) (gs : List Guess) → has_guess h gs ≡ true → has_guess h (with_guess g gs) ≡ true
guess_stays h g gs has = stays_by (has_guess g gs) h g gs has
