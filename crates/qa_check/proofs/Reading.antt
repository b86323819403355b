-- What reads and writes of pieces make of the bytes of a reader or a writer.
use Rattle.std.proofs.Common.{◌≡◌, ◌∙◌, ◌+◌, ◌-◌, ◌≤◌, inl, inr, ℕ, List, [], ◌++◌, length, take, drop, Option, Some, None, Ok, length-append, length-take, length-drop, take-append-drop, refl, sym, ap, ap₂, arith}
use Rattle.std.specs.Prelude.{⊤}
use Rattle.std.proofs.lemmas.List.{append-nil, take_rest, take-take, drop-take}
use Rattle.std.proofs.KnownBytes.{Appends-trans, Consumes-trans}
use Rattle.std.specs.Io.KnownBytes.{Appends, Consumes, Keeps}
use Rattle.qa_format.specs.format.Reading.{reading}
use Rattle.qa_format.specs.verdicts.Verdict.{Judging, strict, verdict, IsFixed}
use Rattle.qa_format.proofs.verdicts.Fixed.{fixed_stays}
use Rattle.qa_check.specs.Audit.{ReadsBy, ReadsEnough, IsReadNoFurtherBy}
use Rattle.qa_check.specs.Failures.{failures_after, write_failed}

-- ---- reading

-- so many bytes were read, of a piece of at most 4,096
pub read_piece : (last n : ℕ) (piece : List ℕ) → last ≡ n → n ≤ length piece → length piece ≤ 4096 → (length (take n piece) ≡ last) × (last ≤ 4096)
read_piece last n piece is within short = (simp length-take (omega (arith, is, within)), omega (arith, is, within, short))

-- each piece has a byte
pub more_bytes : (i : ℕ) (bytes piece : List ℕ) (n : ℕ) → i ≤ length bytes → n ≤ length piece → (n ≡ 0 → ⊥) → i + 1 ≤ length (bytes ++ take n piece)
more_bytes i bytes piece n h k some = simp (length-append, length-take) (omega arith)

consume_none : (a b c : Option (List ℕ)) (bytes : List ℕ) → Consumes a b bytes → Keeps b c → Consumes a c bytes
consume_none None b c bytes h k = tt
consume_none (Some xs) None c bytes h k = elim h [ ]
consume_none (Some xs) (Some ys) None bytes h k = elim k [ ]
consume_none (Some xs) (Some ys) (Some zs) bytes h k = h ∙ ap (λ rest. bytes ++ rest) (sym k)

-- the last read gave no byte of bytes that are not fixed
pub open_read : (judging : Judging) (last : ℕ) (bytes : List ℕ) → last ≡ 0 → (IsFixed judging bytes → ⊥) → IsReadNoFurtherBy judging last bytes
open_read judging last bytes none open_yet = (bytes, [], sym (append-nil bytes), sym none, omega (arith, none), open_yet)

-- a read failed
pub reads_failed : (judging : Judging) (a b c : Option (List ℕ)) (last : ℕ) (bytes : List ℕ) → Consumes a b bytes → Keeps b c → last ≡ 0 → (IsFixed judging bytes → ⊥)
    → ReadsBy judging a c last
reads_failed judging a b c last bytes h k none open_yet = (bytes, consume_none a b c bytes h k, open_read judging last bytes none open_yet)

-- a piece more was read
pub reads_piece : (judging : Judging) (a b c : Option (List ℕ)) (last : ℕ) (bytes piece : List ℕ) → Consumes a b bytes → Consumes b c piece
    → (length piece ≡ last) × (last ≤ 4096) → (IsFixed judging bytes → ⊥) → ReadsBy judging a c last
reads_piece judging a b c last bytes piece h k short open_yet = (bytes ++ piece, Consumes-trans a b c bytes piece h k, (bytes, piece, refl, short.0, short.1, open_yet))

-- nothing more was there
pub reads_nothing : (a b c : Option (List ℕ)) (bytes piece : List ℕ) (n : ℕ) → Consumes a b bytes → Consumes b c (take n piece) → n ≡ 0 → Consumes a c bytes
reads_nothing a b c bytes piece n h k zero =
    let none : take n piece ≡ [] = ap (λ m. take m piece) zero in
    let rest : Consumes b c [] = rw none at k in
    rw append-nil at (Consumes-trans a b c bytes [] h rest)

-- what was read has the verdict of all the bytes that a reader tells
pub told_verdict : {last : ℕ} (old new : Option (List ℕ)) (read bytes : List ℕ) → old ≡ Some bytes → ReadsEnough old new last read → verdict (strict reading) bytes ≡ verdict (strict reading) read
told_verdict (Some xs) (Some ys) read bytes tells enough =
    let all : bytes ≡ read ++ ys = cc in
    elim enough.1 [
      | inl end ↦ ap (verdict (strict reading)) (all ∙ (ap (λ k. read ++ k) end ∙ append-nil read))
      | inr fixed ↦ ap (verdict (strict reading)) all ∙ fixed_stays (strict reading) read ys fixed
    ]
told_verdict (Some xs) None read bytes tells enough = elim enough.0 [ ]
told_verdict None new read bytes tells enough = cc

-- ---- writing

take_more_of : (xs : List ℕ) (at n : ℕ) → take (at + n) xs ≡ take at xs ++ take n (drop at xs)
take_more_of xs at n =
    let within : at ≤ at + n = omega arith in
    sym (take-append-drop at (take (at + n) xs)) ∙ ap₂ (λ a b. a ++ b) (take-take at (at + n) xs within) (drop-take at n xs)

-- a piece more was written
pub write_step : (a b c : Option (List ℕ)) (bytes : List ℕ) (at n : ℕ) → at ≤ length bytes
    → n ≤ length (take (length bytes - at) (drop at bytes))
    → Appends a b (take at bytes) → Appends b c (take n (take (length bytes - at) (drop at bytes)))
    → (at + n ≤ length bytes) × Appends a c (take (at + n) bytes)
write_step a b c bytes at n within few h k =
    let rest : take (length bytes - at) (drop at bytes) ≡ drop at bytes = take_rest bytes at in
    let left : n ≤ length (drop at bytes) = rw rest at few in
    let len : length (drop at bytes) ≡ length bytes - at = length-drop at bytes in
    (omega arith, rw take_more_of (Appends-trans a b c (take at bytes) (take n (drop at bytes)) h (rw rest at k)))

-- a write that took a byte did not fail
pub unfailed_write : (n : ℕ) (piece : List ℕ) (old new : ℕ) → (n ≡ 0 → ⊥) → new ≡ failures_after (write_failed {E = ⊤} (Ok n) piece) old → new ≡ old
unfailed_write n piece old new some h = grind arith
