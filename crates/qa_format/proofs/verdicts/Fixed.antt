-- What fixes a verdict, and that it stays.
use Rattle.std.proofs.Common.{◌≡◌, ◌∙◌, ◌+◌, ◌<◌, inl, inr, ℕ, List, [], ◌∷◌, ◌++◌, length, Bool, true, false, cond, Some, Result, Err, refl, sym, ap, arith, append_assoc, length-append}
use Rattle.std.proofs.lemmas.List.{append-nil}
use Rattle.std.proofs.lemmas.Bool.{lt-ltb}
use Rattle.std.specs.List.{AllByRecursion}
use Rattle.std.specs.Prelude.{nat_le, nat_lt}
use Rattle.qa_format.specs.declared.line.Line.{Line}
use Rattle.qa_format.specs.declared.fault.Fault.{Fault}
use Rattle.qa_format.specs.declared.fault.Fault.TheVariants.{LineTooLong, TooManyLines}
use Rattle.qa_format.specs.declared.verdict.Verdict.{Verdict}
use Rattle.qa_format.specs.format.Lines.{has_lf, line_limit, cut, ended_lines, unended, last_line, lines, ended, IsShortLine}
use Rattle.qa_base.specs.machine.Packets.{history_of}
use Rattle.qa_format.specs.verdicts.Verdict.{Judging, header_in, events_in, said, stop_at, stop_after, first_stop, verdict_of, verdict, AreGood, AreDecided, IsFixed, unreadable}
use Rattle.qa_format.proofs.verdicts.Cuts.{Cut, prepend, cut_front, cut_ended, lines_ended, lines_append, last_line_at, first_line, first_line_is_long, first_line_stands}
use Rattle.qa_format.proofs.verdicts.Stops.{first_stop-snoc, first_stop-append, no_stop_or_stop, verdict_at_stop, verdict_stays, decided_stays}

-- the verdict of the bytes is fixed, and these lines, which are their first, have it
abbrev pub IsFixedBy : Judging → List (List ℕ) → List ℕ → Type 0
IsFixedBy judging ls bytes =
    IsFixed judging bytes × (verdict_of judging ls ≡ verdict judging bytes) × (more : List (List ℕ)) × (lines bytes ≡ ls ++ more)

-- ---- fixed by a line that is not good

-- a line that an LF ends is not good
pub fixed_by_line : (judging : Judging) (ls : List (List ℕ)) (rest bytes : List ℕ) → AllByRecursion IsShortLine ls → AreDecided judging ls
    → bytes ≡ ended ls ++ rest → IsFixedBy judging ls bytes
fixed_by_line judging ls rest bytes short h e =
    let lines_are : lines bytes ≡ ls ++ lines rest = ap lines e ∙ lines_ended ls rest short in
    let ended_are : ended_lines bytes ≡ ls ++ ended_lines rest = ap ended_lines e ∙ ap (λ (p : Cut). p.0) (cut_ended ls rest short) in (
      inl (rw ended_are (decided_stays judging ls (ended_lines rest) h)),
      sym (ap (verdict_of judging) lines_are ∙ verdict_stays judging ls (lines rest) h),
      lines rest,
      lines_are,
    )

-- ---- fixed by too many bytes without LF

fixed_by_cut : (judging : Judging) (ls : List (List ℕ)) (front bytes : List ℕ) (p : Cut) → line_limit < length front
    → cut bytes ≡ (ls ++ (prepend front p).0, (prepend front p).1) → AreDecided judging (ls ++ first_line front p ∷ [])
    → IsFixedBy judging (ls ++ first_line front p ∷ []) bytes
unfolding first_line
fixed_by_cut judging ls front bytes ([], rest) h e d =
    let long : line_limit < length (front ++ rest) = simp length-append (omega arith) in
    let unended_is : unended bytes ≡ front ++ rest = ap (λ (p : Cut). p.1) e in
    let lines_are : lines bytes ≡ ls ++ (front ++ rest) ∷ [] =
    ap (λ (p : Cut). p.0 ++ last_line p.1) e ∙ (ap (λ k. k ++ last_line (front ++ rest)) (append-nil ls)
    ∙ ap (λ k. ls ++ k) (last_line_at (front ++ rest) (omega arith))) in
    (inr (rw unended_is long), ap (verdict_of judging) (sym lines_are), [], lines_are ∙ sym (append-nil (ls ++ (front ++ rest) ∷ [])))
fixed_by_cut judging ls front bytes (m ∷ ms, rest) h e d =
    let ended_are : ended_lines bytes ≡ (ls ++ (front ++ m) ∷ []) ++ ms = ap (λ (p : Cut). p.0) e ∙ sym (append_assoc ls ((front ++ m) ∷ []) ms) in
    let lines_are : lines bytes ≡ (ls ++ (front ++ m) ∷ []) ++ (ms ++ last_line rest) =
    ap (λ (p : Cut). p.0 ++ last_line p.1) e ∙ (append_assoc ls ((front ++ m) ∷ ms) (last_line rest)
    ∙ sym (append_assoc ls ((front ++ m) ∷ []) (ms ++ last_line rest))) in (
      inl (rw ended_are (decided_stays judging (ls ++ (front ++ m) ∷ []) ms d)),
      sym (ap (verdict_of judging) lines_are ∙ verdict_stays judging (ls ++ (front ++ m) ∷ []) (ms ++ last_line rest) d),
      ms ++ last_line rest,
      lines_are,
    )

pub fixed_by_length : (judging : Judging) (ls : List (List ℕ)) (front more rest bytes : List ℕ) → AllByRecursion IsShortLine ls
    → bytes ≡ ended ls ++ rest → rest ≡ front ++ more → has_lf front ≡ false → line_limit < length front
    → AreDecided judging (ls ++ first_line front (cut more) ∷ [])
    → IsFixedBy judging (ls ++ first_line front (cut more) ∷ []) bytes
fixed_by_length judging ls front more rest bytes short e f one h d =
    fixed_by_cut judging ls front bytes (cut more) h
    (ap cut e ∙ (cut_ended ls rest short ∙ ap (λ (p : Cut). (ls ++ p.0, p.1)) (ap cut f ∙ cut_front front more one)))
    d

-- ---- what is fixed stays

-- a line that is too long has a fault whatever it says
long_said : (judging : Judging) (n : ℕ) (l m : List ℕ) → line_limit < length l → line_limit < length m → said judging.says n l ≡ said judging.says n m
unfolding said
long_said judging n l m h k =
    let hl : nat_lt 65536 (length l) ≡ true = lt-ltb 65536 (length l) h in
    let hm : nat_lt 65536 (length m) ≡ true = lt-ltb 65536 (length m) k in
    rw (hl, hm) refl

long_stop : (judging : Judging) (ls : List (List ℕ)) (l m : List ℕ) → line_limit < length l → line_limit < length m
    → stop_after judging ls l ≡ stop_after judging ls m
unfolding stop_after
long_stop judging ls l m h k =
    ap (stop_at judging.breaks (length ls + 1) (header_in judging.says ls) (history_of (events_in judging.says ls))) (long_said judging (length ls) l m h k)

err_either : (many : Bool) (x y : Result Line Fault) (e f : Fault) → x ≡ Err e → y ≡ Err f → (g : Fault) × (cond many x y ≡ Err g)
err_either true x y e f h k = (e, h)
err_either false x y e f h k = (f, k)

long_fault : (judging : Judging) (n : ℕ) (l : List ℕ) → line_limit < length l → (f : Fault) × (said judging.says n l ≡ Err f)
unfolding said
long_fault judging n l h =
    let long : nat_lt 65536 (length l) ≡ true = lt-ltb 65536 (length l) h in
    rw long (err_either (nat_le 4294967295 n) (Err TooManyLines) (Err LineTooLong) TooManyLines LineTooLong refl refl)

pub long_stops : (judging : Judging) (ls : List (List ℕ)) (l : List ℕ) → line_limit < length l → (v : Verdict) × (stop_after judging ls l ≡ Some v)
unfolding stop_after
long_stops judging ls l h = let fault = long_fault judging (length ls) l h in (
  unreadable (length ls + 1) (header_in judging.says ls) (history_of (events_in judging.says ls)) fault.0,
  rw fault.1 refl,
)

pub long_verdict : (judging : Judging) (ls ms : List (List ℕ)) (l : List ℕ) (v : Verdict) → AreGood judging ls → stop_after judging ls l ≡ Some v
    → verdict_of judging (ls ++ l ∷ ms) ≡ v
long_verdict judging ls ms l v good bad =
    let one : first_stop judging [] (ls ++ l ∷ []) ≡ Some v = first_stop-snoc judging [] ls l good ∙ bad in
    let all : first_stop judging [] (ls ++ l ∷ ms) ≡ Some v = ap (first_stop judging []) (sym (append_assoc ls (l ∷ []) ms)) ∙ first_stop-append judging [] (ls ++ l ∷ []) ms one in
    verdict_at_stop judging (ls ++ l ∷ ms) v all

stays_by_line : (judging : Judging) (f g : List ℕ) → AreDecided judging (ended_lines f) → verdict judging (f ++ g) ≡ verdict judging f
stays_by_line judging f g d =
    ap (verdict_of judging) (lines_append f g)
    ∙ (verdict_stays judging (ended_lines f) _ d ∙ sym (verdict_stays judging (ended_lines f) (last_line (unended f)) d))

stays_by_length : (judging : Judging) (f g : List ℕ) → line_limit < length (unended f) → AreGood judging (ended_lines f)
    → verdict judging (f ++ g) ≡ verdict judging f
stays_by_length judging f g h good =
    let here = long_stops judging (ended_lines f) (unended f) h in
    let next = first_line_stands (unended f) (cut g) h in
    let long = first_line_is_long (unended f) (cut g) h in
    let there : stop_after judging (ended_lines f) (first_line (unended f) (cut g)) ≡ Some here.0 =
    long_stop judging (ended_lines f) _ (unended f) long h ∙ here.1 in
    let longer : lines (f ++ g) ≡ ended_lines f ++ first_line (unended f) (cut g) ∷ next.0 = lines_append f g ∙ ap (λ k. ended_lines f ++ k) next.1 in
    let own : lines f ≡ ended_lines f ++ unended f ∷ [] = ap (λ k. ended_lines f ++ k) (last_line_at (unended f) (omega arith)) in
    ap (verdict_of judging) longer
    ∙ (long_verdict judging (ended_lines f) next.0 (first_line (unended f) (cut g)) here.0 good there
    ∙ sym (ap (verdict_of judging) own ∙ long_verdict judging (ended_lines f) [] (unended f) here.0 good here.1))

pub fixed_stays : (judging : Judging) (f g : List ℕ) → IsFixed judging f → verdict judging (f ++ g) ≡ verdict judging f
fixed_stays judging f g h =
    elim h [
      | inl d ↦ stays_by_line judging f g d
      | inr long ↦ elim (no_stop_or_stop (first_stop judging [] (ended_lines f))) [
        | inl good ↦ stays_by_length judging f g long good
        | inr d ↦ stays_by_line judging f g d
      ]
    ]
