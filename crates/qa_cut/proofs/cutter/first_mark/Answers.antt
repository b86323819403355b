use Rattle.std.proofs.Common.{◌≡◌, ◌∙◌, ◌<◌, ◌≤◌, ◌+◌, ◌-◌, ◌++◌, ◌∷◌, ◌||◌, ℕ, zero, suc, List, Bool, true, false, Option, Some, None, length, take, drop, get_or, refl, sym, ap, ap₂, append_assoc, arith, add-one}
use Rattle.std.proofs.Math.Seq.{drop-cons, take-add, take-length}
use Rattle.std.proofs.lemmas.Bool.{eqb-true, or_from}
use Rattle.std.proofs.lemmas.List.{take-append-drop, drop-drop, length-drop}
use Rattle.std.proofs.lemmas.List.Folds.{list_any_more, list_any-append}
use Rattle.std.specs.Prelude.{MatchOption}
use Rattle.memchr.specs.Find.{IsFirstByte, is_byte}
use Rattle.qa_cut.specs.Cuts.{is_mark, has_mark, AreSearched, IsFirstMark}
use Rattle.qa_cut.proofs.cutter.first_mark.Goals as goal

neither : (a b : Bool) → a ≡ false → (b ≡ true → ⊥) → (a || b) ≡ false
neither true b h never = cc
neither false true h never = absurd (never refl)
neither false false h never = refl

-- none of the first n bytes is a mark
none_in_front : (m : ℕ) (bytes : List ℕ) (n : ℕ) → n ≤ length bytes → ((k : ℕ) → k < n → is_mark m (get_or bytes k 0) ≡ true → ⊥) → has_mark m (take n bytes) ≡ false
none_in_front m bytes zero within never = refl
none_in_front m bytes (suc i) within never =
    let here : i < length bytes = omega arith in
    let more : has_mark m (take (i + 1) bytes) ≡ (has_mark m (take i bytes) || is_mark m (get_or bytes i 0)) = list_any_more (is_mark m) bytes i 0 here in
    rw add-one at (more ∙ neither _ _ (none_in_front m bytes i (omega arith) (λ k below. never k (omega arith))) (never i (omega arith)))

first_found : (m : ℕ) (bytes : List ℕ) (found : Option ℕ) → IsFirstByte (is_byte m) bytes found → MatchOption found (has_mark m bytes ≡ false) (IsFirstMark m bytes)
first_found m bytes None h =
    let none : has_mark m (take (length bytes) bytes) ≡ false = none_in_front m bytes (length bytes) (omega arith) (λ k below. h k (omega arith) below) in
    rw take-length at none
first_found m bytes (Some n) h =
    let is : get_or bytes n 0 ≡ m = eqb-true (get_or bytes n 0) m h.1 in
    let within : n < length bytes = h.0.high in
    let behind : drop n bytes ≡ m ∷ drop (n + 1) bytes = rw add-one (rw is at (drop-cons bytes n 0 within)) in
    record {
      within = within;
      before = none_in_front m bytes n (omega arith) (λ k below. h.0.before k (omega arith) below);
      parts = sym (take-append-drop n bytes) ∙ ap (λ rest. take n bytes ++ rest) behind;
    }

-- the bytes behind those that were searched decide
none_behind : (m : ℕ) (bytes : List ℕ) (n : ℕ) → AreSearched m bytes n → has_mark m (drop n bytes) ≡ false → has_mark m bytes ≡ false
none_behind m bytes n searched none =
    ap (has_mark m) (sym (take-append-drop n bytes)) ∙ list_any-append (is_mark m) (take n bytes) (drop n bytes) ∙ or_from _ _ searched.none none

first_behind : (m : ℕ) (bytes : List ℕ) (n k : ℕ) → AreSearched m bytes n → IsFirstMark m (drop n bytes) k → IsFirstMark m bytes (n + k)
first_behind m bytes n k searched first =
    let rest : drop (k + 1) (drop n bytes) ≡ drop (n + k + 1) bytes = drop-drop (k + 1) n bytes ∙ ap (λ j. drop j bytes) (omega arith) in
    record {
      within = omega (arith, first.within, length-drop n bytes, searched.within);
      before = ap (has_mark m) (take-add n k bytes) ∙ list_any-append (is_mark m) (take n bytes) (take k (drop n bytes)) ∙ or_from _ _ searched.none first.before;
      parts =
          sym (take-append-drop n bytes)
          ∙ ap (λ behind. take n bytes ++ behind) first.parts
          ∙ sym (append_assoc (take n bytes) (take k (drop n bytes)) _)
          ∙ ap₂ (λ front behind. front ++ m ∷ behind) (sym (take-add n k bytes)) rest;
    }

-- a slice to the end of the bytes is all that follows its start
to_the_end : (bytes : List ℕ) (n : ℕ) → take (length bytes - n) (drop n bytes) ≡ drop n bytes
to_the_end bytes n = ap (λ m. take m (drop n bytes)) (sym (length-drop n bytes)) ∙ take-length (drop n bytes)

found_behind : (m : ℕ) (bytes : List ℕ) (n : ℕ) (found : Option ℕ) → IsFirstByte (is_byte m) (take (length bytes - n) (drop n bytes)) found
    → MatchOption found (has_mark m (drop n bytes) ≡ false) (IsFirstMark m (drop n bytes))
found_behind m bytes n found h = first_found m (drop n bytes) found (rw to_the_end at h)

pub returns-in_err-place : goal.returns-in_err-place
returns-in_err-place c = rw c.from_residual.ensures (none_behind _ _ _ c.requires (found_behind c.args.mark c.args.bytes.now c.args.searched None c.in_err-place.ensures))

pub returns : goal.returns
returns c = first_behind _ _ _ _ c.requires (found_behind c.args.mark c.args.bytes.now c.args.searched (Some c.in_ok-place.place) c.in_ok-place.ensures)
