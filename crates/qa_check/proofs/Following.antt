-- What lines and pieces do to the lines of the bytes so far.
use Rattle.std.proofs.Common.{◌≡◌, ◌∙◌, ◌+◌, ◌<◌, ◌≤◌, ◌⊎◌, inl, inr, ℕ, List, [], ◌∷◌, ◌++◌, length, Bool, true, false, Option, Some, None, length-append, append_assoc, sym, ap, arith}
use Rattle.std.specs.Prelude.{is_some}
use Rattle.std.proofs.lemmas.List.{append-nil}
use Rattle.qa_format.specs.declared.verdict.Verdict.{Verdict}
use Rattle.qa_format.specs.format.Lines.{has_lf, line_limit, cut, ended_lines, unended, lines, ended, IsShortLine}
use Rattle.qa_format.specs.verdicts.Verdict.{Judging, first_stop, verdict_of, AreGood, AreDecided, IsFixed}
use Rattle.qa_format.proofs.verdicts.Cuts.{Cut, cut_without_lf, cut_ended, first_line, first_line_is_long, short_snoc, ended_snoc, lines_at_end, lines_at_lf, lf_inside, length-ended}
use Rattle.qa_format.proofs.verdicts.Fixed.{fixed_by_line, fixed_by_length}
use Rattle.qa_format.proofs.verdicts.Stops.{good_are_few}
use Rattle.qa_cut.specs.Stream.{Stream, IsFirstLine, IsLastLine, BeginsTooLong}
use Rattle.qa_check.specs.Following.{FollowsBy, AnswersBy}

-- how a splitter took a line off its bytes
abbrev pub Taken : List ℕ → List ℕ → List ℕ → Bool → Type 0
Taken bytes line rest closed = IsFirstLine bytes line rest ⊎ ((closed ≡ true) × IsLastLine bytes line rest)

-- what it took off before it was closed, an LF ended
pub taken_open : (bytes line rest : List ℕ) (closed : Bool) → Taken bytes line rest closed → closed ≡ false → IsFirstLine bytes line rest
taken_open bytes line rest closed taken h = elim taken [ inl e ↦ e | inr e ↦ cc ]

-- what it took off bytes without LF is all of them
pub taken_last : (bytes line rest : List ℕ) (closed : Bool) → Taken bytes line rest closed → has_lf bytes ≡ false → IsLastLine bytes line rest
taken_last bytes line rest closed taken h =
    elim taken [ inl e ↦ absurd (lf_inside line rest (ap has_lf (sym e) ∙ h)) | inr e ↦ e.1 ]

-- ---- a line

-- a good line
pub follow_line : (judging : Judging) (P Q : List (List ℕ) → Type 0) (rest rest' l : List ℕ) (closed : Bool)
    → IsShortLine l → Taken rest l rest' closed → closed ≡ false
    → ((ls : List (List ℕ)) → P ls → Q (ls ++ l ∷ []) × AreGood judging (ls ++ l ∷ []))
    → (bytes : List ℕ) → FollowsBy judging P rest bytes → FollowsBy judging Q rest' bytes
follow_line judging P Q rest rest' l closed is_line t h adds bytes f =
    let taken = taken_open rest l rest' closed t h in
    let q = adds f.0 f.1 in
    (f.0 ++ l ∷ [], q.0, q.1, short_snoc f.0 l f.3 is_line, ended_snoc f.0 l rest' bytes (f.4 ∙ ap (λ k. ended f.0 ++ k) taken))

-- a line that is not good
pub decide_line : (judging : Judging) (P Q : List (List ℕ) → Type 0) (rest rest' l : List ℕ) (closed : Bool)
    → IsShortLine l → Taken rest l rest' closed → closed ≡ false
    → ((ls : List (List ℕ)) → P ls → Q (ls ++ l ∷ []) × AreDecided judging (ls ++ l ∷ []))
    → (bytes : List ℕ) → FollowsBy judging P rest bytes → IsFixed judging bytes × AnswersBy judging Q bytes
decide_line judging P Q rest rest' l closed is_line t h adds bytes f =
    let taken = taken_open rest l rest' closed t h in
    let q = adds f.0 f.1 in
    let fixed = fixed_by_line judging (f.0 ++ l ∷ []) rest' bytes (short_snoc f.0 l f.3 is_line) q.1 (ended_snoc f.0 l rest' bytes (f.4 ∙ ap (λ k. ended f.0 ++ k) taken)) in
    (fixed.0, (f.0 ++ l ∷ [], q.0, fixed.1))

-- a line that is too long
pub decide_long : (judging : Judging) (P Q : List (List ℕ) → Type 0) (rest : List ℕ) → BeginsTooLong rest
    → ((l : List ℕ) → line_limit < length l → (ls : List (List ℕ)) → P ls → Q (ls ++ l ∷ []) × AreDecided judging (ls ++ l ∷ []))
    → (bytes : List ℕ) → FollowsBy judging P rest bytes → IsFixed judging bytes × AnswersBy judging Q bytes
decide_long judging P Q rest b adds bytes f =
    let l = first_line b.0 (cut b.1) in
    let q = adds l (first_line_is_long b.0 (cut b.1) b.3) f.0 f.1 in
    let fixed = fixed_by_length judging f.0 b.0 b.1 rest bytes f.3 f.4 b.4 b.2 b.3 q.1 in
    (fixed.0, (f.0 ++ l ∷ [], q.0, fixed.1))

-- what is short enough for a line does not begin with more than a line may have
pub short_not_long : (bytes : List ℕ) → IsShortLine bytes → BeginsTooLong bytes → ⊥
short_not_long bytes short b =
    let sum : length bytes ≡ length b.0 + length b.1 = ap length b.4 ∙ length-append b.0 b.1 in
    let over = b.3 in
    let within = short.1 in
    omega arith

-- ---- the end

-- the last line, which no LF ends
pub answer_line : (judging : Judging) (P Q : List (List ℕ) → Type 0) (rest rest' l : List ℕ) (closed : Bool)
    → IsShortLine l → Taken rest l rest' closed → has_lf rest ≡ false
    → ((ls : List (List ℕ)) → P ls → Q (ls ++ l ∷ []))
    → (bytes : List ℕ) → FollowsBy judging P rest bytes → AnswersBy judging Q bytes
answer_line judging P Q rest rest' l closed is_line t h adds bytes f =
    let last = taken_last rest l rest' closed t h in
    let q = adds f.0 f.1 in
    let all : lines bytes ≡ f.0 ++ l ∷ [] = lines_at_end f.0 l bytes f.3 (f.4 ∙ ap (λ k. ended f.0 ++ k) last.1) is_line.0 last.0 in
    (f.0 ++ l ∷ [], q, ap (verdict_of judging) (sym all))

-- nothing stands behind the last LF
pub answer_none : (judging : Judging) (P : List (List ℕ) → Type 0) (rest : List ℕ) → rest ≡ [] → (bytes : List ℕ) → FollowsBy judging P rest bytes → AnswersBy judging P bytes
answer_none judging P rest h bytes f =
    let all : lines bytes ≡ f.0 = lines_at_lf f.0 rest bytes f.3 f.4 h in
    (f.0, f.1, ap (verdict_of judging) (sym all))

-- what is known more of the lines
pub follow_as : (judging : Judging) (P Q : List (List ℕ) → Type 0) (rest bytes : List ℕ) → ((ls : List (List ℕ)) → P ls → Q ls) → FollowsBy judging P rest bytes → FollowsBy judging Q rest bytes
follow_as judging P Q rest bytes more f = (f.0, more f.0 f.1, f.2, f.3, f.4)

-- ---- a piece

pub follow_piece : (judging : Judging) (P : List (List ℕ) → Type 0) (rest piece bytes : List ℕ) → FollowsBy judging P rest bytes → FollowsBy judging P (rest ++ piece) (bytes ++ piece)
follow_piece judging P rest piece bytes f = (f.0, f.1, f.2, f.3, ap (λ k. k ++ piece) f.4 ∙ append_assoc (ended f.0) rest piece)

-- a splitter took it
pub follow_fed : (judging : Judging) (P : List (List ℕ) → Type 0) (old new : Stream) (piece bytes : List ℕ) → new ≡ record old { bytes = old.bytes ++ piece }
    → FollowsBy judging P old.bytes bytes → FollowsBy judging P new.bytes (bytes ++ piece)
follow_fed judging P old new piece bytes is f = rw is (follow_piece judging P old.bytes piece bytes f)

-- good lines and a rest that is no line have so many bytes at most
pub follow_few : (judging : Judging) (P : List (List ℕ) → Type 0) (rest bytes : List ℕ) → FollowsBy judging P rest bytes → length rest ≤ 65536 → length bytes ≤ 281479271743488
follow_few judging P rest bytes f short =
    let count = good_are_few judging [] f.0 f.2 (omega arith) in
    let sum = length-ended f.0 f.3 in
    let e : length bytes ≡ length (ended f.0) + length rest = ap length f.4 ∙ length-append (ended f.0) rest in
    omega arith

no_stop : (o : Option Verdict) → o ≡ None → is_some o ≡ true → ⊥
no_stop None none some = cc
no_stop (Some v) none some = cc

-- nothing is fixed while all lines are good and no line stands in the rest
pub follow_open : (judging : Judging) (P : List (List ℕ) → Type 0) (rest bytes : List ℕ) → FollowsBy judging P rest bytes → IsShortLine rest → IsFixed judging bytes → ⊥
follow_open judging P rest bytes f is_line fixed =
    let cut_is : cut bytes ≡ (f.0, rest) =
    ap cut f.4 ∙ (cut_ended f.0 rest f.3 ∙ (ap (λ (p : Cut). (f.0 ++ p.0, p.1)) (cut_without_lf rest is_line.0) ∙ ap (λ (k : List (List ℕ)). (k, rest)) (append-nil f.0))) in
    let ended_is : ended_lines bytes ≡ f.0 = ap (λ (p : Cut). p.0) cut_is in
    let unended_is : unended bytes ≡ rest = ap (λ (p : Cut). p.1) cut_is in
    let short = is_line.1 in
    elim fixed [
      | inl bad ↦ let some : is_some (first_stop judging [] f.0) ≡ true = rw ended_is at bad in no_stop (first_stop judging [] f.0) f.2 some
      | inr long ↦ let longer : line_limit < length rest = rw unended_is at long in omega arith
    ]
