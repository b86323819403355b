-- The line of an event says what its own keys say of guesses.
use Rattle.std.proofs.Common.{◌≡◌, ◌∙◌, ◌||◌, ℕ, List, [], ◌∷◌, Bool, true, false, Err, codes, Ordering, Less, Equal, Greater, refl, sym, ap, ap₂}
use Rattle.std.specs.Cmp.Lexicographic.{slice_cmp}
use Rattle.std.specs.List.{AllByRecursion}
use Rattle.std.specs.Ordering.{nat_cmp}
use Rattle.std.specs.Prelude.{if◌then◌else◌}
use Rattle.std.specs.Str.{bytes_eq, is_utf8}
use Rattle.json.specs.Json as json
use Rattle.json.specs.Lex.{lex, punctuate}
use Rattle.serde_json.specs.Data.{Data, Members, no_members, member, put}
use Rattle.serde_json.specs.Find.{get_member}
use Rattle.qa_base.specs.declared.event.Event.{Event}
use Rattle.qa_base.specs.values.Names.{key_name}
use Rattle.qa_format.specs.declared.fault.Fault.{Fault}
use Rattle.qa_format.specs.declared.fault.Fault.TheVariants.{NotJson}
use Rattle.qa_format.specs.declared.line.Line.TheVariants as line
use Rattle.qa_format.specs.format.Proper.{IsProperLine}
use Rattle.qa_format.specs.format.Reading.{json_of}
use Rattle.qa_format.specs.format.Simple.{AreKept, put_all}
use Rattle.qa_format.specs.format.Written.{Pairs, event_pairs, members}
use Rattle.qa_format.proofs.format.AnyOrder.{json_of-members, get_put, get_put_other}
use Rattle.qa_format.proofs.format.LinesWritten.{event_follows}
use Rattle.qa_convert.proofs.PassedOver.{apart_from, follow_kept, kept-followed, put_all-followed, same_text}
use Rattle.qa_convert.specs.Guesses.{guess_text, is_guess, texts_of}
use Rattle.qa_convert.specs.Marks.{has_text, is_said, lists, marks_by, marks_in, says_guess}
use Rattle.qa_convert.specs.Outputs.{guessed, has_guess, marks_of, own_members}
use Rattle.qa_convert.specs.OwnKeys.{AreOwn, IsOwn, followed, noted, own_text}
use Rattle.qa_convert.specs.declared.guess.Guess.{Guess}
use Rattle.qa_convert.specs.declared.guess.Guess.TheVariants as guess
use Rattle.qa_convert.specs.declared.place.Place.{Place}

-- ---- what the key of guesses gives

-- the keys of an event give nothing there
not_there : (j : List ℕ) (ps : Pairs) (found : Members) → IsOwn j → get_member j (put_all found (members ps)) ≡ get_member j found
not_there j [] found own = refl
not_there j (p ∷ ps) found own = not_there j ps (put (key_name p.0) p.1 found) own ∙ get_put_other j (key_name p.0) p.1 found (apart_from p.0 j own)

put_by : (o : Ordering) (j k : List ℕ) (d : Data) (a b : Members) → slice_cmp nat_cmp j k ≡ o → get_member j a ≡ get_member j b → get_member j (put k d a) ≡ get_member j (put k d b)
put_by Less j k d a b is same = get_put_other j k d a (λ e. cc) ∙ same ∙ sym (get_put_other j k d b (λ e. cc))
put_by Equal j k d a b is same = rw (same_text j k is) (get_put k d a ∙ sym (get_put k d b))
put_by Greater j k d a b is same = get_put_other j k d a (λ e. cc) ∙ same ∙ sym (get_put_other j k d b (λ e. cc))

put_alike : (j : List ℕ) (own a b : Members) → get_member j a ≡ get_member j b → get_member j (put_all a own) ≡ get_member j (put_all b own)
put_alike j no_members a b same = same
put_alike j (member k d own) a b same = put_alike j own (put k d a) (put k d b) (put_by (slice_cmp nat_cmp j k) j k d a b refl same)

-- ---- what is said there

own_kept : (own : Members) → AreOwn own → AreKept own
own_kept own are = kept-followed no_members own tt are

none_by : (g : Guess) (b : Bool) → is_said {Fault = Fault} g (if b then Err NotJson else Err NotJson) ≡ false
none_by g true = refl
none_by g false = refl

-- no text says nothing
none_said : (g : Guess) → says_guess g [] ≡ false
unfolding says_guess json_of json.value lex punctuate
none_said g = none_by g (is_utf8 [])

own_says : (g : Guess) (own : Members) → AreOwn own → says_guess g (own_text own) ≡ lists (guess_text g) (get_member (codes "x_guess") (put_all no_members own))
unfolding says_guess
own_says g no_members are = none_said g
own_says g (member k d own) are = ap (is_said {Fault = Fault} g) (json_of-members (member k d own) (own_kept (member k d own) are))

noted_says : (g : Guess) (e : Event) (own : Members) → IsProperLine (line.Event e) → AreOwn own → says_guess g (noted (line.Event e) own) ≡ says_guess g (own_text own)
unfolding says_guess
noted_says g e own proper are =
    let ms = members (event_pairs e) in
    ap (is_said {Fault = Fault} g) (json_of-members (followed ms own) (kept-followed ms own (follow_kept (event_pairs e) (event_follows e proper)) are))
    ∙ ap (λ ps. lists (guess_text g) (get_member (codes "x_guess") ps)) (put_all-followed no_members ms own)
    ∙ ap (lists (guess_text g)) (put_alike (codes "x_guess") own (put_all no_members ms) no_members (not_there (codes "x_guess") (event_pairs e) no_members (refl, refl)))
    ∙ sym (own_says g own are)

-- ---- what was guessed

all_guesses : List Guess
all_guesses =
    guess.DatagramByWindow ∷ guess.DatagramByPacket ∷ guess.DatagramLeast ∷ guess.NoMaxAckDelay ∷ guess.NoWindow ∷ guess.HiddenWindow ∷
    guess.InitialRtt ∷ guess.ProbeByCount ∷ guess.ProbeByPing ∷ guess.ProbeByRoom ∷ guess.ProbeByTrigger ∷ guess.Size ∷ guess.SizeByGrowth ∷
    guess.TimerSpace ∷ guess.LossTimer ∷ guess.Discard ∷ guess.Confirmed ∷ guess.Delay ∷ guess.Arrival ∷ guess.Moment ∷ guess.LimitedByWindow ∷
    guess.LeaveProbe ∷ guess.LeaveRecovery ∷ guess.TimeBack ∷ []

one_of : (P : Guess → Type 0) → AllByRecursion P all_guesses → (g : Guess) → P g
unfolding all_guesses
one_of P all guess.DatagramByWindow = all.0
one_of P all guess.DatagramByPacket = all.1.0
one_of P all guess.DatagramLeast = all.1.1.0
one_of P all guess.NoMaxAckDelay = all.1.1.1.0
one_of P all guess.NoWindow = all.1.1.1.1.0
one_of P all guess.HiddenWindow = all.1.1.1.1.1.0
one_of P all guess.InitialRtt = all.1.1.1.1.1.1.0
one_of P all guess.ProbeByCount = all.1.1.1.1.1.1.1.0
one_of P all guess.ProbeByPing = all.1.1.1.1.1.1.1.1.0
one_of P all guess.ProbeByRoom = all.1.1.1.1.1.1.1.1.1.0
one_of P all guess.ProbeByTrigger = all.1.1.1.1.1.1.1.1.1.1.0
one_of P all guess.Size = all.1.1.1.1.1.1.1.1.1.1.1.0
one_of P all guess.SizeByGrowth = all.1.1.1.1.1.1.1.1.1.1.1.1.0
one_of P all guess.TimerSpace = all.1.1.1.1.1.1.1.1.1.1.1.1.1.0
one_of P all guess.LossTimer = all.1.1.1.1.1.1.1.1.1.1.1.1.1.1.0
one_of P all guess.Discard = all.1.1.1.1.1.1.1.1.1.1.1.1.1.1.1.0
one_of P all guess.Confirmed = all.1.1.1.1.1.1.1.1.1.1.1.1.1.1.1.1.0
one_of P all guess.Delay = all.1.1.1.1.1.1.1.1.1.1.1.1.1.1.1.1.1.0
one_of P all guess.Arrival = all.1.1.1.1.1.1.1.1.1.1.1.1.1.1.1.1.1.1.0
one_of P all guess.Moment = all.1.1.1.1.1.1.1.1.1.1.1.1.1.1.1.1.1.1.1.0
one_of P all guess.LimitedByWindow = all.1.1.1.1.1.1.1.1.1.1.1.1.1.1.1.1.1.1.1.1.0
one_of P all guess.LeaveProbe = all.1.1.1.1.1.1.1.1.1.1.1.1.1.1.1.1.1.1.1.1.1.0
one_of P all guess.LeaveRecovery = all.1.1.1.1.1.1.1.1.1.1.1.1.1.1.1.1.1.1.1.1.1.1.0
one_of P all guess.TimeBack = all.1.1.1.1.1.1.1.1.1.1.1.1.1.1.1.1.1.1.1.1.1.1.1.0

-- no other guess has its text
abbrev IsAlone : Guess → Type 0
IsAlone h = AllByRecursion (λ g. bytes_eq (guess_text h) (guess_text g) ≡ is_guess h g) all_guesses

is_alone : (h : Guess) → IsAlone h
unfolding all_guesses
is_alone guess.DatagramByWindow = (refl, (refl, (refl, (refl, (refl, (refl, (refl, (refl, (refl, (refl, (refl, (refl, (refl, (refl, (refl, (refl, (refl, (refl, (refl, (refl, (refl, (refl, (refl, (refl, tt))))))))))))))))))))))))
is_alone guess.DatagramByPacket = (refl, (refl, (refl, (refl, (refl, (refl, (refl, (refl, (refl, (refl, (refl, (refl, (refl, (refl, (refl, (refl, (refl, (refl, (refl, (refl, (refl, (refl, (refl, (refl, tt))))))))))))))))))))))))
is_alone guess.DatagramLeast = (refl, (refl, (refl, (refl, (refl, (refl, (refl, (refl, (refl, (refl, (refl, (refl, (refl, (refl, (refl, (refl, (refl, (refl, (refl, (refl, (refl, (refl, (refl, (refl, tt))))))))))))))))))))))))
is_alone guess.NoMaxAckDelay = (refl, (refl, (refl, (refl, (refl, (refl, (refl, (refl, (refl, (refl, (refl, (refl, (refl, (refl, (refl, (refl, (refl, (refl, (refl, (refl, (refl, (refl, (refl, (refl, tt))))))))))))))))))))))))
is_alone guess.NoWindow = (refl, (refl, (refl, (refl, (refl, (refl, (refl, (refl, (refl, (refl, (refl, (refl, (refl, (refl, (refl, (refl, (refl, (refl, (refl, (refl, (refl, (refl, (refl, (refl, tt))))))))))))))))))))))))
is_alone guess.HiddenWindow = (refl, (refl, (refl, (refl, (refl, (refl, (refl, (refl, (refl, (refl, (refl, (refl, (refl, (refl, (refl, (refl, (refl, (refl, (refl, (refl, (refl, (refl, (refl, (refl, tt))))))))))))))))))))))))
is_alone guess.InitialRtt = (refl, (refl, (refl, (refl, (refl, (refl, (refl, (refl, (refl, (refl, (refl, (refl, (refl, (refl, (refl, (refl, (refl, (refl, (refl, (refl, (refl, (refl, (refl, (refl, tt))))))))))))))))))))))))
is_alone guess.ProbeByCount = (refl, (refl, (refl, (refl, (refl, (refl, (refl, (refl, (refl, (refl, (refl, (refl, (refl, (refl, (refl, (refl, (refl, (refl, (refl, (refl, (refl, (refl, (refl, (refl, tt))))))))))))))))))))))))
is_alone guess.ProbeByPing = (refl, (refl, (refl, (refl, (refl, (refl, (refl, (refl, (refl, (refl, (refl, (refl, (refl, (refl, (refl, (refl, (refl, (refl, (refl, (refl, (refl, (refl, (refl, (refl, tt))))))))))))))))))))))))
is_alone guess.ProbeByRoom = (refl, (refl, (refl, (refl, (refl, (refl, (refl, (refl, (refl, (refl, (refl, (refl, (refl, (refl, (refl, (refl, (refl, (refl, (refl, (refl, (refl, (refl, (refl, (refl, tt))))))))))))))))))))))))
is_alone guess.ProbeByTrigger = (refl, (refl, (refl, (refl, (refl, (refl, (refl, (refl, (refl, (refl, (refl, (refl, (refl, (refl, (refl, (refl, (refl, (refl, (refl, (refl, (refl, (refl, (refl, (refl, tt))))))))))))))))))))))))
is_alone guess.Size = (refl, (refl, (refl, (refl, (refl, (refl, (refl, (refl, (refl, (refl, (refl, (refl, (refl, (refl, (refl, (refl, (refl, (refl, (refl, (refl, (refl, (refl, (refl, (refl, tt))))))))))))))))))))))))
is_alone guess.SizeByGrowth = (refl, (refl, (refl, (refl, (refl, (refl, (refl, (refl, (refl, (refl, (refl, (refl, (refl, (refl, (refl, (refl, (refl, (refl, (refl, (refl, (refl, (refl, (refl, (refl, tt))))))))))))))))))))))))
is_alone guess.TimerSpace = (refl, (refl, (refl, (refl, (refl, (refl, (refl, (refl, (refl, (refl, (refl, (refl, (refl, (refl, (refl, (refl, (refl, (refl, (refl, (refl, (refl, (refl, (refl, (refl, tt))))))))))))))))))))))))
is_alone guess.LossTimer = (refl, (refl, (refl, (refl, (refl, (refl, (refl, (refl, (refl, (refl, (refl, (refl, (refl, (refl, (refl, (refl, (refl, (refl, (refl, (refl, (refl, (refl, (refl, (refl, tt))))))))))))))))))))))))
is_alone guess.Discard = (refl, (refl, (refl, (refl, (refl, (refl, (refl, (refl, (refl, (refl, (refl, (refl, (refl, (refl, (refl, (refl, (refl, (refl, (refl, (refl, (refl, (refl, (refl, (refl, tt))))))))))))))))))))))))
is_alone guess.Confirmed = (refl, (refl, (refl, (refl, (refl, (refl, (refl, (refl, (refl, (refl, (refl, (refl, (refl, (refl, (refl, (refl, (refl, (refl, (refl, (refl, (refl, (refl, (refl, (refl, tt))))))))))))))))))))))))
is_alone guess.Delay = (refl, (refl, (refl, (refl, (refl, (refl, (refl, (refl, (refl, (refl, (refl, (refl, (refl, (refl, (refl, (refl, (refl, (refl, (refl, (refl, (refl, (refl, (refl, (refl, tt))))))))))))))))))))))))
is_alone guess.Arrival = (refl, (refl, (refl, (refl, (refl, (refl, (refl, (refl, (refl, (refl, (refl, (refl, (refl, (refl, (refl, (refl, (refl, (refl, (refl, (refl, (refl, (refl, (refl, (refl, tt))))))))))))))))))))))))
is_alone guess.Moment = (refl, (refl, (refl, (refl, (refl, (refl, (refl, (refl, (refl, (refl, (refl, (refl, (refl, (refl, (refl, (refl, (refl, (refl, (refl, (refl, (refl, (refl, (refl, (refl, tt))))))))))))))))))))))))
is_alone guess.LimitedByWindow = (refl, (refl, (refl, (refl, (refl, (refl, (refl, (refl, (refl, (refl, (refl, (refl, (refl, (refl, (refl, (refl, (refl, (refl, (refl, (refl, (refl, (refl, (refl, (refl, tt))))))))))))))))))))))))
is_alone guess.LeaveProbe = (refl, (refl, (refl, (refl, (refl, (refl, (refl, (refl, (refl, (refl, (refl, (refl, (refl, (refl, (refl, (refl, (refl, (refl, (refl, (refl, (refl, (refl, (refl, (refl, tt))))))))))))))))))))))))
is_alone guess.LeaveRecovery = (refl, (refl, (refl, (refl, (refl, (refl, (refl, (refl, (refl, (refl, (refl, (refl, (refl, (refl, (refl, (refl, (refl, (refl, (refl, (refl, (refl, (refl, (refl, (refl, tt))))))))))))))))))))))))
is_alone guess.TimeBack = (refl, (refl, (refl, (refl, (refl, (refl, (refl, (refl, (refl, (refl, (refl, (refl, (refl, (refl, (refl, (refl, (refl, (refl, (refl, (refl, (refl, (refl, (refl, (refl, tt))))))))))))))))))))))))

alone : (h g : Guess) → bytes_eq (guess_text h) (guess_text g) ≡ is_guess h g
alone h = one_of (λ g. bytes_eq (guess_text h) (guess_text g) ≡ is_guess h g) (is_alone h)

pub texts_have : (h : Guess) → (gs : List Guess) → has_text (guess_text h) (texts_of gs) ≡ has_guess h gs
texts_have h [] = refl
texts_have h (g ∷ gs) = ap₂ (λ a b. a || b) (alone h g) (texts_have h gs)

listed : (h : Guess) → (has_places : Bool) (first last : Place) (gs : List Guess)
    → lists (guess_text h) (get_member (codes "x_guess") (put_all no_members (own_members has_places first last gs))) ≡ has_guess h gs
listed h false first last [] = refl
listed h false first last (g ∷ gs) = texts_have h (g ∷ gs)
listed h true first last [] = refl
listed h true first last (g ∷ gs) = texts_have h (g ∷ gs)

placed_said : (h : Guess) → (has_places : Bool) (first last : Place) (gs : List Guess) → AreOwn (own_members has_places first last gs)
    → says_guess h (own_text (own_members has_places first last gs)) ≡ has_guess h gs
placed_said h has_places first last gs are = own_says h (own_members has_places first last gs) are ∙ listed h has_places first last gs

guess_said : (h : Guess) → (gs : List Guess) → AreOwn (guessed gs no_members) → says_guess h (own_text (guessed gs no_members)) ≡ has_guess h gs
guess_said h [] are = none_said h
guess_said h (g ∷ gs) are = own_says h (guessed (g ∷ gs) no_members) are ∙ texts_have h (g ∷ gs)

-- ---- the marks of a line

alike : (p q : Guess → Bool) → ((g : Guess) → p g ≡ q g) → marks_by p ≡ marks_by q
alike p q same =
    rw (
      same guess.Size,
      same guess.LeaveProbe,
      same guess.LeaveRecovery,
      same guess.LimitedByWindow,
      same guess.ProbeByCount,
      same guess.ProbeByPing,
      same guess.ProbeByRoom,
      same guess.ProbeByTrigger,
      same guess.LossTimer,
      same guess.Discard,
      same guess.Confirmed,
    ) refl

-- no text has marks
pub no_marks : marks_in [] ≡ marks_of []
no_marks = alike (λ g. says_guess g []) (λ g. has_guess g []) none_said

pub noted_marks : (e : Event) (own : Members) → IsProperLine (line.Event e) → AreOwn own → marks_in (noted (line.Event e) own) ≡ marks_in (own_text own)
noted_marks e own proper are = alike (λ g. says_guess g (noted (line.Event e) own)) (λ g. says_guess g (own_text own)) (λ g. noted_says g e own proper are)

-- the own keys of a line say what was guessed
pub says_guessed : (has_places : Bool) (first last : Place) (gs : List Guess) → AreOwn (own_members has_places first last gs)
    → marks_in (own_text (own_members has_places first last gs)) ≡ marks_of gs
says_guessed has_places first last gs are =
    alike (λ g. says_guess g (own_text (own_members has_places first last gs))) (λ g. has_guess g gs) (λ g. placed_said g has_places first last gs are)

pub guesses_said : (gs : List Guess) → AreOwn (guessed gs no_members) → marks_in (own_text (guessed gs no_members)) ≡ marks_of gs
guesses_said gs are = alike (λ g. says_guess g (own_text (guessed gs no_members))) (λ g. has_guess g gs) (λ g. guess_said g gs are)
