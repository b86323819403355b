-- What more bytes make of an audit that fixed its verdict, or failed.
use Rattle.std.proofs.Common.{◌≡◌, ◌∙◌, ◌<◌, ◌⊎◌, inl, inr, ℕ, List, [], ◌∷◌, ◌++◌, length, Option, Some, None, Result, Ok, Err, append_assoc, length-append, refl, sym, ap, arith}
use Rattle.std.proofs.lemmas.List.{append-nil}
use Rattle.std.specs.Io.KnownBytes.{Consumes, IsAtEnd}
use Rattle.qa_format.specs.format.Lines.{line_limit, cut, ended_lines, unended, IsShortLine}
use Rattle.qa_format.specs.verdicts.Explain.{Telling, told_of, told}
use Rattle.qa_format.specs.verdicts.Verdict.{Judging, first_stop, AreGood, AreDecided, IsFixed}
use Rattle.qa_format.proofs.verdicts.Cuts.{Cut, prepend, cut_append}
use Rattle.qa_format.proofs.verdicts.Fixed.{fixed_stays, long_stops}
use Rattle.qa_format.proofs.verdicts.Rows.{told_stay, told_at_stop, told_of_fixed}
use Rattle.qa_format.proofs.verdicts.Stops.{first_stop-snoc, no_stop_or_stop, decided_stays}
use Rattle.qa_format.specs.declared.verdict.Verdict.{Verdict}
use Rattle.qa_cut.specs.Stream.{Stream}
use Rattle.qa_check.specs.declared.auditing.AuditFault.{AuditFault}
use Rattle.qa_check.specs.declared.auditor.Progress.{Progress}
use Rattle.qa_check.specs.declared.auditor.Progress.TheVariants.{Open, Fixed}
use Rattle.qa_check.specs.Auditor.{BringsTo}
use Rattle.qa_check.specs.Following.{Follows}
use Rattle.qa_check.specs.Standing.{by, Held, Judges, StandsFor}
use Rattle.qa_check.specs.Walking.{Covered, Walked}
use Rattle.qa_check.specs.Writing.{told_ended}
use Rattle.qa_check.proofs.Following.{follow_as, follow_open}

-- ---- bytes behind bytes

ended_append : (f g : List ℕ) → ended_lines (f ++ g) ≡ ended_lines f ++ (prepend (unended f) (cut g)).0
ended_append f g = ap (λ (p : Cut). p.0) (cut_append f g)

unended_append : (f g : List ℕ) → unended (f ++ g) ≡ (prepend (unended f) (cut g)).1
unended_append f g = ap (λ (p : Cut). p.1) (cut_append f g)

-- ---- too many bytes behind good lines

long_decides : (judging : Judging) (ls ms : List (List ℕ)) (l : List ℕ) → AreGood judging ls → line_limit < length l → AreDecided judging (ls ++ l ∷ ms)
long_decides judging ls ms l good long =
    let stop = long_stops judging ls l long in
    let one : first_stop judging [] (ls ++ l ∷ []) ≡ Some stop.0 = first_stop-snoc judging [] ls l good ∙ stop.1 in
    let here : AreDecided judging (ls ++ l ∷ []) = rw one refl in
    rw append_assoc at (decided_stays judging (ls ++ l ∷ []) ms here)

fixed_behind : (judging : Judging) (ls : List (List ℕ)) (front : List ℕ) (p : Cut) → AreGood judging ls → line_limit < length front
    → AreDecided judging (ls ++ (prepend front p).0) ⊎ (line_limit < length (prepend front p).1)
fixed_behind judging ls front ([], rest) good long = inr (simp length-append (omega arith))
fixed_behind judging ls front (m ∷ ms, rest) good long = inl (long_decides judging ls ms (front ++ m) good (simp length-append (omega arith)))

told_behind : (judging : Judging) (tell : Telling) (ls : List (List ℕ)) (front : List ℕ) (p : Cut) → AreGood judging ls → line_limit < length front
    → told_of tell judging (ls ++ (prepend front p).0) ≡ told_of tell judging ls
told_behind judging tell ls front ([], rest) good long = ap (told_of tell judging) (append-nil ls)
told_behind judging tell ls front (m ∷ ms, rest) good long =
    let longer : line_limit < length (front ++ m) = simp length-append (omega arith) in
    told_at_stop tell judging ls ms (front ++ m) good (rw (long_stops judging ls (front ++ m) longer).1 refl)

-- ---- bytes behind those that fix the verdict

fixed_on : (judging : Judging) (f g : List ℕ) → IsFixed judging f → IsFixed judging (f ++ g)
fixed_on judging f g fixed = rw (ended_append f g, unended_append f g) (elim fixed [
  | inl bad ↦ inl (decided_stays judging (ended_lines f) _ bad)
  | inr long ↦ elim (no_stop_or_stop (first_stop judging [] (ended_lines f))) [
    | inl good ↦ fixed_behind judging (ended_lines f) (unended f) (cut g) good long
    | inr bad ↦ inl (decided_stays judging (ended_lines f) _ bad)
  ]
])

told_ended_on : (judging : Judging) (tell : Telling) (f g : List ℕ) → IsFixed judging f → told_ended judging tell (f ++ g) ≡ told_ended judging tell f
told_ended_on judging tell f g fixed = ap (told_of tell judging) (ended_append f g) ∙ (elim fixed [
  | inl bad ↦ told_stay tell judging (ended_lines f) _ bad
  | inr long ↦ elim (no_stop_or_stop (first_stop judging [] (ended_lines f))) [
    | inl good ↦ told_behind judging tell (ended_lines f) (unended f) (cut g) good long
    | inr bad ↦ told_stay tell judging (ended_lines f) _ bad
  ]
])

told_on : (judging : Judging) (tell : Telling) (f g : List ℕ) → IsFixed judging f → told tell judging (f ++ g) ≡ told tell judging f
told_on judging tell f g fixed =
    told_of_fixed tell judging (f ++ g) (fixed_on judging f g fixed) ∙ (told_ended_on judging tell f g fixed ∙ sym (told_of_fixed tell judging f fixed))

-- ---- what was read

-- of all the bytes that a reader tells that is told which is told of those that were read and are all that counts
pub told_all : (judging : Judging) (tell : Telling) (old new : Option (List ℕ)) (read bytes : List ℕ) → old ≡ Some bytes → Consumes old new read → IsAtEnd new ⊎ IsFixed judging read
    → told tell judging bytes ≡ told tell judging read
told_all judging tell (Some xs) (Some ys) read bytes tells consumes enough =
    let all : bytes ≡ read ++ ys = cc in
    elim enough [
      | inl end ↦ ap (told tell judging) (all ∙ (ap (λ k. read ++ k) end ∙ append-nil read))
      | inr fixed ↦ ap (told tell judging) all ∙ told_on judging tell read ys fixed
    ]
told_all judging tell (Some xs) None read bytes tells consumes enough = elim consumes [ ]
told_all judging tell None new read bytes tells consumes enough = cc

-- ---- what was fed

-- an audit that is over stays as it is
pub brings_on : {L : Type 0} (judges : Judges L) (progress : Result Progress AuditFault) (stream : Stream) (held : Held L) (f g : List ℕ)
    → (progress ≡ Ok Open → ⊥) → BringsTo judges progress stream held f → BringsTo judges progress stream held (f ++ g)
brings_on judges (Ok Open) stream held f g over brings = absurd (over refl)
brings_on judges (Ok (Fixed v)) stream held f g over brings = (fixed_on (by judges) f g brings.0, brings.1 ∙ sym (fixed_stays (by judges) f g brings.0))
brings_on judges (Err fault) stream held f g over brings = tt

-- ---- an audit by its progress

pub brings_open : {L : Type 0} (judges : Judges L) (progress : Result Progress AuditFault) (stream : Stream) (held : Held L) (bytes : List ℕ)
    → progress ≡ Ok Open → BringsTo judges progress stream held bytes → BringsTo judges (Ok Open) stream held bytes
brings_open judges (Ok Open) stream held bytes is brings = brings
brings_open judges (Ok (Fixed v)) stream held bytes is brings = cc
brings_open judges (Err fault) stream held bytes is brings = cc

-- all that stood ready was taken
pub open_from : {L : Type 0} (judges : Judges L) (stream : Stream) (held : Held L) (bytes : List ℕ)
    → IsShortLine stream.bytes → Follows judges stream.bytes held bytes → BringsTo judges (Ok Open) stream held bytes
open_from judges stream held bytes short follows = (follow_open (by judges) (StandsFor judges held) stream.bytes bytes follows short, short, follows)

pub fixed_is_over : (progress : Result Progress AuditFault) (v : Verdict) → progress ≡ Ok (Fixed v) → progress ≡ Ok Open → ⊥
fixed_is_over progress v fixed is = cc

pub failed_is_over : (progress : Result Progress AuditFault) (fault : AuditFault) → progress ≡ Err fault → progress ≡ Ok Open → ⊥
failed_is_over progress fault failed is = cc

-- ---- lines that nobody visits

-- a checker that follows the bytes is one that was led past nobody
pub unvisited : {L V : Type 0} (judges : Judges L) (covers : V → List (List ℕ) → Type 0) (visitor : V) (rest : List ℕ) (held : Held L) (bytes : List ℕ)
    → ((ls : List (List ℕ)) → covers visitor ls) → Follows judges rest held bytes → Walked judges covers rest held visitor bytes
unvisited judges covers visitor rest held bytes all follows = follow_as (by judges) (StandsFor judges held) (Covered judges covers held visitor) rest bytes (λ ls stands. (stands, all ls)) follows

pub of_unvisited : {L V : Type 0} (judges : Judges L) (covers : V → List (List ℕ) → Type 0) (visitor : V) (rest : List ℕ) (held : Held L) (bytes : List ℕ)
    → Walked judges covers rest held visitor bytes → Follows judges rest held bytes
of_unvisited judges covers visitor rest held bytes walked = follow_as (by judges) (Covered judges covers held visitor) (StandsFor judges held) rest bytes (λ ls covered. covered.0) walked
