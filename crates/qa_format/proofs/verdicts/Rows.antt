-- What is told of lines that are put behind others.
use Rattle.std.proofs.Common.{◌≡◌, ◌∙◌, ◌<◌, inl, inr, ℕ, List, [], ◌∷◌, ◌++◌, length, true, cond, Option, Some, None, refl, sym, ap, append_assoc, is_some, arith}
use Rattle.std.proofs.lemmas.List.{append-nil}
use Rattle.std.specs.Option.{option_or}
use Rattle.qa_format.specs.declared.verdict.Verdict.{Verdict}
use Rattle.qa_format.specs.format.Lines.{line_limit, cut, ended_lines, unended, last_line, lines}
use Rattle.qa_format.specs.verdicts.Explain.{Telling, told_line, told_after, told_of, told, row_said, rows, explain}
use Rattle.qa_format.specs.verdicts.Report.{report}
use Rattle.qa_format.specs.verdicts.Verdict.{Judging, stop_after, first_stop, verdict, AreGood, AreDecided, IsFixed}
use Rattle.qa_format.proofs.verdicts.Cuts.{lines_append, last_line_at, first_line, first_line_is_long, first_line_stands}
use Rattle.qa_format.proofs.verdicts.Fixed.{IsFixedBy, fixed_stays, long_stops}
use Rattle.qa_format.proofs.verdicts.Stops.{first_stop-snoc, no_stop_or_stop, decided_stays}

-- ---- lines behind others

either_good : (o p : Option Verdict) (a x y z : List ℕ) → option_or o p ≡ None → (p ≡ None → x ≡ y ++ z)
    → cond (is_some o) [] (a ++ x) ≡ cond (is_some o) [] (a ++ y) ++ z
either_good None p a x y z good same = ap (λ k. a ++ k) (same good) ∙ sym (append_assoc a y z)
either_good (Some v) p a x y z good same = cc

-- behind good lines
told_after-append : (tell : Telling) (judging : Judging) (before ls ms : List (List ℕ)) → first_stop judging before ls ≡ None
    → told_after tell judging before (ls ++ ms) ≡ told_after tell judging before ls ++ told_after tell judging (before ++ ls) ms
told_after-append tell judging before [] ms good = rw append-nil refl
told_after-append tell judging before (l ∷ ls) ms good =
    either_good (stop_after judging before l) (first_stop judging (before ++ l ∷ []) ls) _ _ _ _ good
    (λ later. rw append_assoc at (told_after-append tell judging (before ++ l ∷ []) ls ms later))

either_bad : (o p : Option Verdict) (a x y : List ℕ) → is_some (option_or o p) ≡ true → (is_some p ≡ true → x ≡ y)
    → cond (is_some o) [] (a ++ x) ≡ cond (is_some o) [] (a ++ y)
either_bad None p a x y bad same = ap (λ k. a ++ k) (same bad)
either_bad (Some v) p a x y bad same = refl

-- behind lines of which one is not good
told_after_stay : (tell : Telling) (judging : Judging) (before ls ms : List (List ℕ)) → is_some (first_stop judging before ls) ≡ true
    → told_after tell judging before (ls ++ ms) ≡ told_after tell judging before ls
told_after_stay tell judging before [] ms bad = cc
told_after_stay tell judging before (l ∷ ls) ms bad =
    either_bad (stop_after judging before l) (first_stop judging (before ++ l ∷ []) ls) _ _ _ bad
    (λ later. told_after_stay tell judging (before ++ l ∷ []) ls ms later)

pub told_stay : (tell : Telling) (judging : Judging) (ls ms : List (List ℕ)) → AreDecided judging ls → told_of tell judging (ls ++ ms) ≡ told_of tell judging ls
unfolding told_of
told_stay tell judging ls ms bad = told_after_stay tell judging [] ls ms bad

-- lines are good that begin good ones
good_front : (judging : Judging) (ls ms : List (List ℕ)) → AreGood judging (ls ++ ms) → AreGood judging ls
good_front judging ls ms good = elim (no_stop_or_stop (first_stop judging [] ls)) [
  | inl front ↦ front
  | inr bad ↦ let some : is_some (first_stop judging [] (ls ++ ms)) ≡ true = decided_stays judging ls ms bad in absurd (not_both (first_stop judging [] (ls ++ ms)) good some)
]
  where
    not_both : (o : Option Verdict) → o ≡ None → is_some o ≡ true → ⊥
    not_both None none some = cc
    not_both (Some v) none some = cc

-- one more good line
told_of-good : (tell : Telling) (judging : Judging) (ls : List (List ℕ)) (l : List ℕ) → AreGood judging ls → AreGood judging (ls ++ l ∷ [])
    → told_of tell judging (ls ++ l ∷ []) ≡ told_of tell judging ls ++ told_line tell judging ls l
unfolding told_of
told_of-good tell judging ls l good more =
    let none : stop_after judging ls l ≡ None = sym (first_stop-snoc judging [] ls l good) ∙ more in
    told_after-append tell judging [] ls (l ∷ []) good ∙ ap (λ k. told_after tell judging [] ls ++ k) (rw none (append-nil (told_line tell judging ls l)))

pub told_of-snoc : (tell : Telling) (judging : Judging) (ls : List (List ℕ)) (l : List ℕ) → AreGood judging (ls ++ l ∷ [])
    → told_of tell judging (ls ++ l ∷ []) ≡ told_of tell judging ls ++ told_line tell judging ls l
told_of-snoc tell judging ls l good = told_of-good tell judging ls l (good_front judging ls (l ∷ []) good) good

-- a line that is not good behind good ones, whatever follows
pub told_at_stop : (tell : Telling) (judging : Judging) (ls ms : List (List ℕ)) (l : List ℕ) → AreGood judging ls → is_some (stop_after judging ls l) ≡ true
    → told_of tell judging (ls ++ l ∷ ms) ≡ told_of tell judging ls
unfolding told_of
told_at_stop tell judging ls ms l good bad =
    told_after-append tell judging [] ls (l ∷ ms) good ∙ (ap (λ k. told_after tell judging [] ls ++ k) (rw bad refl) ∙ append-nil (told_after tell judging [] ls))

-- one more line that is not good
pub told_same : (tell : Telling) (judging : Judging) (ls : List (List ℕ)) (l : List ℕ) → AreDecided judging (ls ++ l ∷ [])
    → told_of tell judging (ls ++ l ∷ []) ≡ told_of tell judging ls
told_same tell judging ls l bad = elim (no_stop_or_stop (first_stop judging [] ls)) [
  | inl good ↦ let stop : is_some (stop_after judging ls l) ≡ true = ap is_some (sym (first_stop-snoc judging [] ls l good)) ∙ bad in told_at_stop tell judging ls [] l good stop
  | inr before ↦ told_stay tell judging ls (l ∷ []) before
]

-- what is told of lines begins what is told of more lines
pub told_begin : (tell : Telling) (judging : Judging) (ls ms : List (List ℕ)) → (rest : List ℕ) × (told_of tell judging (ls ++ ms) ≡ told_of tell judging ls ++ rest)
unfolding told_of
told_begin tell judging ls ms = elim (no_stop_or_stop (first_stop judging [] ls)) [
  | inl good ↦ (told_after tell judging ls ms, told_after-append tell judging [] ls ms good)
  | inr bad ↦ ([], told_after_stay tell judging [] ls ms bad ∙ sym (append-nil (told_after tell judging [] ls)))
]

-- ---- bytes behind others

-- of lines that fix the verdict of bytes all is told that is told of these
pub told_by : (tell : Telling) (judging : Judging) (ls : List (List ℕ)) (bytes : List ℕ) → AreDecided judging ls → IsFixedBy judging ls bytes → told_of tell judging ls ≡ told tell judging bytes
told_by tell judging ls bytes bad fixed = sym (ap (told_of tell judging) fixed.3 ∙ told_stay tell judging ls fixed.2 bad)

long_stop : (judging : Judging) (ls : List (List ℕ)) (l : List ℕ) → line_limit < length l → is_some (stop_after judging ls l) ≡ true
long_stop judging ls l long = rw (long_stops judging ls l long).1 refl

-- of too many bytes behind good lines nothing is told
pub told_of_long : (tell : Telling) (judging : Judging) (f : List ℕ) → line_limit < length (unended f) → AreGood judging (ended_lines f)
    → told tell judging f ≡ told_of tell judging (ended_lines f)
told_of_long tell judging f long good =
    let own : lines f ≡ ended_lines f ++ unended f ∷ [] = ap (λ k. ended_lines f ++ k) (last_line_at (unended f) (omega arith)) in
    ap (told_of tell judging) own ∙ told_at_stop tell judging (ended_lines f) [] (unended f) good (long_stop judging (ended_lines f) (unended f) long)

told_more_of_long : (tell : Telling) (judging : Judging) (f g : List ℕ) → line_limit < length (unended f) → AreGood judging (ended_lines f)
    → told tell judging (f ++ g) ≡ told_of tell judging (ended_lines f)
told_more_of_long tell judging f g long good =
    let next = first_line_stands (unended f) (cut g) long in
    let l = first_line (unended f) (cut g) in
    let longer : lines (f ++ g) ≡ ended_lines f ++ l ∷ next.0 = lines_append f g ∙ ap (λ k. ended_lines f ++ k) next.1 in
    ap (told_of tell judging) longer ∙ told_at_stop tell judging (ended_lines f) next.0 l good (long_stop judging (ended_lines f) l (first_line_is_long (unended f) (cut g) long))

-- all that is told of bytes whose verdict is fixed is told of the lines that an LF ended
pub told_of_fixed : (tell : Telling) (judging : Judging) (f : List ℕ) → IsFixed judging f → told tell judging f ≡ told_of tell judging (ended_lines f)
told_of_fixed tell judging f fixed = elim fixed [
  | inl bad ↦ told_stay tell judging (ended_lines f) (last_line (unended f)) bad
  | inr long ↦ elim (no_stop_or_stop (first_stop judging [] (ended_lines f))) [
    | inl good ↦ told_of_long tell judging f long good
    | inr bad ↦ told_stay tell judging (ended_lines f) (last_line (unended f)) bad
  ]
]

told_more : (tell : Telling) (judging : Judging) (f g : List ℕ) → IsFixed judging f → told tell judging (f ++ g) ≡ told_of tell judging (ended_lines f)
told_more tell judging f g fixed = elim fixed [
  | inl bad ↦ ap (told_of tell judging) (lines_append f g) ∙ told_stay tell judging (ended_lines f) _ bad
  | inr long ↦ elim (no_stop_or_stop (first_stop judging [] (ended_lines f))) [
    | inl good ↦ told_more_of_long tell judging f g long good
    | inr bad ↦ ap (told_of tell judging) (lines_append f g) ∙ told_stay tell judging (ended_lines f) _ bad
  ]
]

-- what explains bytes whose verdict is fixed explains all that begin with them
pub explanation_stays : (judging : Judging) (f g : List ℕ) → IsFixed judging f → explain judging (f ++ g) ≡ explain judging f
explanation_stays judging f g fixed =
    let same : rows judging (f ++ g) ≡ rows judging f = told_more row_said judging f g fixed ∙ sym (told_of_fixed row_said judging f fixed) in
    ap (λ k. k ++ report (verdict judging (f ++ g))) same ∙ ap (λ v. rows judging f ++ report v) (fixed_stays judging f g fixed)

-- the rows of the lines that an LF ended begin what explains all bytes that begin with them
pub explanation_begins : (judging : Judging) (f g : List ℕ) → (rest : List ℕ) × (explain judging (f ++ g) ≡ told_of row_said judging (ended_lines f) ++ rest)
explanation_begins judging f g =
    let more = told_begin row_said judging (ended_lines f) _ in
    let all : rows judging (f ++ g) ≡ told_of row_said judging (ended_lines f) ++ more.0 = ap (told_of row_said judging) (lines_append f g) ∙ more.1 in
    let report_of = report (verdict judging (f ++ g)) in
    (more.0 ++ report_of, ap (λ k. k ++ report_of) all ∙ append_assoc (told_of row_said judging (ended_lines f)) more.0 report_of)
