-- What a reader of the trace of a log handed on so far.
use Rattle.std.proofs.Common.{◌≡◌, ◌==◌, ◌∙◌, ◌+◌, ◌≤◌, ℕ, List, [], ◌∷◌, ◌++◌, true, arith, ap, sym, drop, length, min, subst, take, append_assoc, append-nil}
use Rattle.std.proofs.lemmas.Bool.Decides.{nat_tests}
use Rattle.std.proofs.lemmas.List.{length-take-le, take-append-drop}
use Rattle.std.proofs.Math.Nat.{min-le_left}
use Rattle.std.proofs.Math.Seq.{take-add, take-append_seam}
use Rattle.std.specs.List.{concat}
use Rattle.qa_logs.specs.Tracing.{Traced, shown}
use Rattle.qa_log_lines.specs.Handing.{Gives, HasRead, left}
use Rattle.qa_log_lines.specs.declared.reader.TraceReader.{TraceReader}
use Rattle.qa_log_lines.proofs.Going.{concat_one}

-- bytes of which there are none
pub none_if : (xs ys : List ℕ) → xs ≡ ys → true ≡ (length xs == 0) → ys ≡ []
none_if [] ys same none = sym same
none_if (x ∷ xs) ys same none = absurd (grind (arith, nat_tests, none))

-- if nothing is left behind so many, these are all
all_of : (n : ℕ) (xs : List ℕ) → drop n xs ≡ [] → take n xs ≡ xs
all_of n xs none = sym (append-nil (take n xs)) ∙ ap (λ k. take n xs ++ k) (sym none) ∙ take-append-drop n xs

-- all lines of a point were read, and none of the next
pub read_all : (bytes : List ℕ) (parts : List (List ℕ)) (lines next : List ℕ) (passed at : ℕ) → bytes ≡ concat parts ++ take passed lines → drop passed lines ≡ [] → at ≡ 0 → bytes ≡ concat (parts ++ lines ∷ []) ++ take at next
read_all bytes parts lines next passed at are none first =
    are ∙ ap (λ k. concat parts ++ k) (all_of passed lines none) ∙ sym (concat_one parts lines) ∙ sym (append-nil (concat (parts ++ lines ∷ []))) ∙ ap (λ k. concat (parts ++ lines ∷ []) ++ take k next) (sym first)

-- so many more of the lines of a point were read
read_more : (bytes before now : List ℕ) (passed n : ℕ) (lines : List ℕ) → bytes ≡ before ++ take passed lines → now ≡ take n (drop passed lines) → bytes ++ now ≡ before ++ take (passed + n) lines
read_more bytes before now passed n lines are more =
    ap (λ k. k ++ now) are ∙ append_assoc before (take passed lines) now ∙ ap (λ k. before ++ k) (ap (λ k. take passed lines ++ k) more ∙ sym (take-add passed n lines))

-- the bytes at the front of a buffer are those that were put there
put_first : (n room : ℕ) (xs before after : List ℕ) → n ≡ min (length xs) room → after ≡ take n xs ++ drop n before → take n after ≡ take n xs
put_first n room xs before after is are =
    let fits = subst (λ k. k ≤ length xs) (sym is) (min-le_left (length xs) room) in
    ap (take n) are ∙ ap (λ k. take k (take n xs ++ drop n before)) (sym (length-take-le n xs fits)) ∙ take-append_seam (take n xs) (drop n before)

-- what was read before, and then what was put into the buffer
pub gave : {F : Type 0} (start : Traced) (bytes : List ℕ) (old new : TraceReader F) (before after : List ℕ) (n : ℕ) → Gives old new before after n → HasRead start bytes old → HasRead start (bytes ++ take n after) new
gave start bytes old new before after n (is, are, same) (parts, steps, has) =
    subst (HasRead start (bytes ++ take n after)) (sym same) (
      parts,
      steps,
      read_more bytes (concat parts) (take n after) old.passed n (shown old.lines.0) has (put_first n (length before) (left old) before after is are),
    )
