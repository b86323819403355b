-- At which line lines are judged, of bytes and of bytes that are put behind others.
use Rattle.std.proofs.Common.{◌≡◌, ◌∙◌, ◌<◌, inl, inr, ℕ, List, [], ◌∷◌, ◌++◌, length, true, cond, Option, Some, None, append_assoc, is_some, refl, sym, ap, arith}
use Rattle.std.proofs.lemmas.Bool.{cases_Bool}
use Rattle.std.proofs.lemmas.List.{append-nil}
use Rattle.std.specs.Option.{option_or}
use Rattle.std.specs.Prelude.{IsSome}
use Rattle.qa_base.specs.machine.Packets.{history_of}
use Rattle.qa_check.specs.Audit.{ReadsEnoughBy}
use Rattle.qa_check.specs.Places.{good_lines, judged_at}
use Rattle.qa_check.specs.Standing.{Held, HoldsRun, Judges, StandsBy, StandsFor, by}
use Rattle.qa_format.specs.declared.verdict.Verdict.{Verdict}
use Rattle.qa_format.specs.format.Lines.{line_limit, cut, ended_lines, unended, last_line, lines}
use Rattle.qa_format.specs.format.Reading.{reading}
use Rattle.qa_format.specs.verdicts.Explain.{Telling, told_after, told_line, told_of, told}
use Rattle.qa_format.specs.verdicts.Verdict.{Judging, header_in, events_in, stop_after, first_stop, verdict, AreGood, AreDecided, IsFixed}
use Rattle.qa_format.proofs.verdicts.Cuts.{lines_append, last_line_at, first_line, first_line_is_long, first_line_stands}
use Rattle.qa_format.proofs.verdicts.Fixed.{fixed_stays, long_stops}
use Rattle.qa_format.proofs.verdicts.Rows.{told_of-snoc}
use Rattle.qa_format.proofs.verdicts.Stops.{first_stop-snoc, no_stop_or_stop, or_parts}

-- where a line is judged
abbrev pub Place : Type 0
Place = List (List ℕ) × Option (List ℕ)

-- a line that is not good behind good ones, whatever follows
pub judged_bad : (judging : Judging) (before ls more : List (List ℕ)) (l : List ℕ) → first_stop judging before ls ≡ None → is_some (stop_after judging (before ++ ls) l) ≡ true
    → judged_at judging before (ls ++ l ∷ more) ≡ (before ++ ls, Some l)
judged_bad judging before [] more l good bad =
    let stop : is_some (stop_after judging before l) ≡ true = rw append-nil at bad in
    rw (stop, append-nil) refl
judged_bad judging before (m ∷ ls) more l good bad =
    let parts = or_parts (stop_after judging before m) (first_stop judging (before ++ m ∷ []) ls) good in
    rw parts.0 (rw append_assoc at (judged_bad judging (before ++ m ∷ []) ls more l parts.1 (rw append_assoc bad)))

-- good lines, at their end
pub judged_good : (judging : Judging) (before ls : List (List ℕ)) → first_stop judging before ls ≡ None → judged_at judging before ls ≡ (before ++ ls, None)
judged_good judging before [] good = rw append-nil refl
judged_good judging before (m ∷ ls) good =
    let parts = or_parts (stop_after judging before m) (first_stop judging (before ++ m ∷ []) ls) good in
    rw parts.0 (rw append_assoc at (judged_good judging (before ++ m ∷ []) ls parts.1))

either : (o p : Option Verdict) (a x y : Place) → is_some (option_or o p) ≡ true → (is_some p ≡ true → x ≡ y) → cond (is_some o) a x ≡ cond (is_some o) a y
either None p a x y bad same = same bad
either (Some v) p a x y bad same = refl

-- lines behind lines of which one is not good
pub judged_stays : (judging : Judging) (before ls more : List (List ℕ)) → is_some (first_stop judging before ls) ≡ true → judged_at judging before (ls ++ more) ≡ judged_at judging before ls
judged_stays judging before [] more bad = cc
judged_stays judging before (l ∷ ls) more bad =
    either (stop_after judging before l) (first_stop judging (before ++ l ∷ []) ls) _ _ _ bad (λ later. judged_stays judging (before ++ l ∷ []) ls more later)

-- ---- what a checker of good lines holds

not_both : (o : Option Verdict) → o ≡ None → IsSome o → ⊥
not_both None none some = cc
not_both (Some v) none some = cc

open_by : {L : Type 0} (judges : Judges L) (v : Option Verdict) (ledger : Option L) (count last : ℕ) (ls : List (List ℕ)) → StandsBy judges v ledger count last ls → AreGood (by judges) ls
    → HoldsRun judges ledger (header_in reading ls) (history_of (events_in reading ls))
open_by judges None ledger count last ls is good = is.1
open_by judges (Some v) ledger count last ls is good = absurd (not_both (first_stop (by judges) [] ls) good is.0)

-- the ledger of their events
pub holds_of_good : {L : Type 0} (judges : Judges L) (held : Held L) (ls : List (List ℕ)) → StandsFor judges held ls → AreGood (by judges) ls
    → HoldsRun judges held.ledger (header_in reading ls) (history_of (events_in reading ls))
holds_of_good judges held ls is good = open_by judges held.verdict held.ledger held.lines held.last_event ls is good

lines_by : {L : Type 0} (judges : Judges L) (v : Option Verdict) (ledger : Option L) (count last : ℕ) (ls : List (List ℕ)) → StandsBy judges v ledger count last ls → AreGood (by judges) ls → count ≡ length ls
lines_by judges None ledger count last ls is good = is.2
lines_by judges (Some v) ledger count last ls is good = absurd (not_both (first_stop (by judges) [] ls) good is.0)

-- how many they are
pub lines_of_good : {L : Type 0} (judges : Judges L) (held : Held L) (ls : List (List ℕ)) → StandsFor judges held ls → AreGood (by judges) ls → held.lines ≡ length ls
lines_of_good judges held ls is good = lines_by judges held.verdict held.ledger held.lines held.last_event ls is good

none_by : {L : Type 0} (judges : Judges L) (v : Option Verdict) (ledger : Option L) (count last : ℕ) (ls : List (List ℕ)) → StandsBy judges v ledger count last ls → AreGood (by judges) ls → v ≡ None
none_by judges None ledger count last ls is good = refl
none_by judges (Some v) ledger count last ls is good = absurd (not_both (first_stop (by judges) [] ls) good is.0)

-- and that no verdict is fixed
pub undecided_of_good : {L : Type 0} (judges : Judges L) (held : Held L) (ls : List (List ℕ)) → StandsFor judges held ls → AreGood (by judges) ls → held.verdict ≡ None
undecided_of_good judges held ls is good = none_by judges held.verdict held.ledger held.lines held.last_event ls is good

-- ---- at a line, and at the end

stop_behind : (judging : Judging) (ls : List (List ℕ)) (l : List ℕ) → AreGood judging ls → AreDecided judging (ls ++ l ∷ []) → is_some (stop_after judging ls l) ≡ true
stop_behind judging ls l good bad = ap is_some (sym (first_stop-snoc judging [] ls l good)) ∙ bad

-- where bytes are judged in which one line is not good
pub place_at_line : (judging : Judging) (bytes : List ℕ) (ls more : List (List ℕ)) (l : List ℕ) → AreGood judging ls → AreDecided judging (ls ++ l ∷ []) → lines bytes ≡ (ls ++ l ∷ []) ++ more
    → judged_at judging [] (lines bytes) ≡ (ls, Some l)
place_at_line judging bytes ls more l good bad are =
    ap (judged_at judging []) (are ∙ append_assoc ls (l ∷ []) more) ∙ judged_bad judging [] ls more l good (stop_behind judging ls l good bad)

-- and of bytes in which all are
pub place_at_end : (judging : Judging) (bytes : List ℕ) (ls : List (List ℕ)) → AreGood judging ls → lines bytes ≡ ls → judged_at judging [] (lines bytes) ≡ (ls, None)
place_at_end judging bytes ls good are = ap (judged_at judging []) are ∙ judged_good judging [] ls good

-- the good lines of bytes in which one is not good
pub good_at_line : (judging : Judging) (bytes : List ℕ) (ls more : List (List ℕ)) (l : List ℕ) → AreGood judging ls → AreDecided judging (ls ++ l ∷ []) → lines bytes ≡ (ls ++ l ∷ []) ++ more
    → good_lines judging bytes ≡ ls
good_at_line judging bytes ls more l good bad are = ap (λ (p : Place). p.0) (place_at_line judging bytes ls more l good bad are)

-- and of bytes in which all are
pub good_at_end : (judging : Judging) (bytes : List ℕ) (ls : List (List ℕ)) → AreGood judging ls → lines bytes ≡ ls → good_lines judging bytes ≡ ls
good_at_end judging bytes ls good are = ap (λ (p : Place). p.0) (place_at_end judging bytes ls good are)

-- the good lines come first
judged_begin : (judging : Judging) (before ls : List (List ℕ)) → (more : List (List ℕ)) × (before ++ ls ≡ (judged_at judging before ls).0 ++ more)
judged_begin judging before [] = ([], refl)
judged_begin judging before (l ∷ ls) = elim (cases_Bool (is_some (stop_after judging before l))) [
  | inl bad ↦ rw bad (l ∷ ls, refl)
  | inr good ↦
      let rest = judged_begin judging (before ++ l ∷ []) ls in
      rw good (rest.0, sym (append_assoc before (l ∷ []) ls) ∙ rest.1)
]

pub good_begin : (judging : Judging) (bytes : List ℕ) → (more : List (List ℕ)) × (lines bytes ≡ good_lines judging bytes ++ more)
good_begin judging bytes = judged_begin judging [] (lines bytes)

-- ---- good lines behind those that fix the verdict

good_stays_by_line : (judging : Judging) (f g : List ℕ) → AreDecided judging (ended_lines f) → good_lines judging (f ++ g) ≡ good_lines judging f
good_stays_by_line judging f g bad =
    let more = ap (judged_at judging []) (lines_append f g) ∙ judged_stays judging [] (ended_lines f) _ bad in
    let own = judged_stays judging [] (ended_lines f) (last_line (unended f)) bad in
    ap (λ (p : Place). p.0) (more ∙ sym own)

-- behind good lines one is too long
decided_by_long : (judging : Judging) (ls : List (List ℕ)) (l : List ℕ) → AreGood judging ls → line_limit < length l → AreDecided judging (ls ++ l ∷ [])
decided_by_long judging ls l good long =
    let stop = long_stops judging ls l long in
    let bad : first_stop judging [] (ls ++ l ∷ []) ≡ Some stop.0 = first_stop-snoc judging [] ls l good ∙ stop.1 in
    rw bad refl

good_stays_by_length : (judging : Judging) (f g : List ℕ) → line_limit < length (unended f) → AreGood judging (ended_lines f) → good_lines judging (f ++ g) ≡ good_lines judging f
good_stays_by_length judging f g long good =
    let ls = ended_lines f in
    let next = first_line_stands (unended f) (cut g) long in
    let l = first_line (unended f) (cut g) in
    let longer : lines (f ++ g) ≡ (ls ++ l ∷ []) ++ next.0 = lines_append f g ∙ (ap (λ k. ls ++ k) next.1 ∙ sym (append_assoc ls (l ∷ []) next.0)) in
    let own : lines f ≡ (ls ++ unended f ∷ []) ++ [] = ap (λ k. ls ++ k) (last_line_at (unended f) (omega arith)) ∙ sym (append-nil (ls ++ unended f ∷ [])) in
    good_at_line judging (f ++ g) ls next.0 l good (decided_by_long judging ls l good (first_line_is_long (unended f) (cut g) long)) longer
    ∙ sym (good_at_line judging f ls [] (unended f) good (decided_by_long judging ls (unended f) good long) own)

-- they stay, whatever follows
pub good_stays : (judging : Judging) (f g : List ℕ) → IsFixed judging f → good_lines judging (f ++ g) ≡ good_lines judging f
good_stays judging f g fixed = elim fixed [
  | inl bad ↦ good_stays_by_line judging f g bad
  | inr long ↦ elim (no_stop_or_stop (first_stop judging [] (ended_lines f))) [
    | inl good ↦ good_stays_by_length judging f g long good
    | inr bad ↦ good_stays_by_line judging f g bad
  ]
]

-- ---- what was read, and all the bytes that a reader tells

-- what no byte changes that follows
pub told_alike : {A : Type 0} {last : ℕ} (judging : Judging) (of : List ℕ → A) → ((f g : List ℕ) → IsFixed judging f → of (f ++ g) ≡ of f)
    → (old new : Option (List ℕ)) (read bytes : List ℕ) → old ≡ Some bytes → ReadsEnoughBy judging old new last read → of bytes ≡ of read
told_alike judging of stays (Some xs) (Some ys) read bytes tells enough =
    let all : bytes ≡ read ++ ys = cc in
    elim enough.1 [
      | inl end ↦ ap of (all ∙ (ap (λ k. read ++ k) end ∙ append-nil read))
      | inr fixed ↦ ap of all ∙ stays read ys fixed
    ]
told_alike judging of stays (Some xs) None read bytes tells enough = elim enough.0 [ ]
told_alike judging of stays None new read bytes tells enough = absurd cc

-- their good lines
pub told_good : {last : ℕ} (judging : Judging) (old new : Option (List ℕ)) (read bytes : List ℕ) → old ≡ Some bytes → ReadsEnoughBy judging old new last read
    → good_lines judging bytes ≡ good_lines judging read
told_good judging old new read bytes tells enough = told_alike judging (good_lines judging) (good_stays judging) old new read bytes tells enough

-- and their verdict
pub told_verdict : {last : ℕ} (judging : Judging) (old new : Option (List ℕ)) (read bytes : List ℕ) → old ≡ Some bytes → ReadsEnoughBy judging old new last read
    → verdict judging bytes ≡ verdict judging read
told_verdict judging old new read bytes tells enough = told_alike judging (verdict judging) (fixed_stays judging) old new read bytes tells enough

-- ---- what is told of good lines

told_to : (tell : Telling) (judging : Judging) (before ls : List (List ℕ)) → AreGood judging before → told_of tell judging (judged_at judging before ls).0 ≡ told_of tell judging before ++ told_after tell judging before ls
told_to tell judging before [] good = sym (append-nil (told_of tell judging before))
told_to tell judging before (l ∷ ls) good = elim (no_stop_or_stop (stop_after judging before l)) [
  | inl none ↦
      let next : AreGood judging (before ++ l ∷ []) = first_stop-snoc judging [] before l good ∙ none in
      let later = told_to tell judging (before ++ l ∷ []) ls next in
      rw none (later ∙ (ap (λ k. k ++ told_after tell judging (before ++ l ∷ []) ls) (told_of-snoc tell judging before l next) ∙ append_assoc (told_of tell judging before) (told_line tell judging before l) (told_after tell judging (before ++ l ∷ []) ls)))
  | inr some ↦ let stop : is_some (stop_after judging before l) ≡ true = some in rw stop (sym (append-nil (told_of tell judging before)))
]

-- all that is told of bytes is told of their good lines
pub told_of_good : (tell : Telling) (judging : Judging) (bytes : List ℕ) → told_of tell judging (good_lines judging bytes) ≡ told tell judging bytes
unfolding told_of
told_of_good tell judging bytes = told_to tell judging [] (lines bytes) refl
