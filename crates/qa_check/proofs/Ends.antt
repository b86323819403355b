-- How a walk ends, or halts, at lines that are taken off bytes.
use Rattle.std.proofs.Common.{◌≡◌, ◌∙◌, ℕ, List, [], ◌∷◌, ◌++◌, ◌<◌, length, Bool, true, false, ◌⊎◌, inl, inr, Option, Some, None, append_assoc, refl, sym, ap, ap₂, subst}
use Rattle.std.proofs.lemmas.List.{append-nil}
use Rattle.std.specs.List.{AllByRecursion}
use Rattle.std.specs.Result.{result_ok}
use Rattle.std.specs.Io.KnownBytes.{Consumes, IsAtEnd}
use Rattle.qa_check.specs.Audit.{IsReadNoFurtherBy}
use Rattle.qa_base.specs.machine.Packets.{history_of}
use Rattle.qa_check.proofs.Following.{Taken, taken_last, taken_open}
use Rattle.qa_check.proofs.Judged.{Place, good_begin, holds_of_good, lines_of_good, place_at_end, place_at_line, undecided_of_good}
use Rattle.qa_check.specs.declared.taking.Halt.{Halt}
use Rattle.qa_check.specs.declared.taking.Halt.TheVariants.{OutOfMemory, Visitor}
use Rattle.qa_check.specs.declared.taking.LastLine.{LastLine}
use Rattle.qa_check.specs.Places.{good_lines}
use Rattle.qa_check.specs.Standing.{AddsBad, Held, HoldsRun, Judges, StandsFor, by}
use Rattle.qa_check.specs.Taking.{IsHanded, TakesBad}
use Rattle.qa_check.specs.Walking.{Covered, Ends, HaltsAt, HaltsIn, HaltsWithin, HandsOut, HoldsGood, IsLine, VisitsGood, Walked, WalksInto, fault_by}
use Rattle.qa_format.proofs.verdicts.Cuts.{Cut, cut_ended, cut_without_lf, ended_snoc, first_line, first_line_is_long, lines_at_end, lines_at_lf, short_snoc}
use Rattle.qa_format.proofs.verdicts.Fixed.{fixed_by_length, fixed_by_line}
use Rattle.qa_format.specs.format.Lines.{cut, ended, ended_lines, has_lf, last_line, line_limit, lines, unended, IsShortLine}
use Rattle.qa_format.specs.format.Reading.{reading}
use Rattle.qa_format.specs.verdicts.Verdict.{Judging, events_in, header_in, said, verdict_of, AreGood, IsFixed}
use Rattle.qa_cut.specs.Stream.{BeginsTooLong}

-- ---- what is handed out

handed : (keeps : Bool) (last : Option LastLine) (n : ℕ) (l : List ℕ) (ls : List (List ℕ)) → n ≡ length ls → IsHanded keeps (IsLine n l) last → keeps ≡ true → HandsOut last (ls, Some l)
handed true (Some x) n l ls count (bytes, read) kept =
    (ap Some (sym bytes), (refl, read ∙ ap₂ (λ (k : ℕ) (m : List ℕ). result_ok (said reading k m)) count (sym bytes)))
handed true None n l ls count is kept = absurd is
handed false last n l ls count is kept = cc

-- ---- the judge of the good lines

holds_at : {L : Type 0} (judges : Judges L) (ledger : Option L) (bytes : List ℕ) (ls : List (List ℕ)) → good_lines (by judges) bytes ≡ ls
    → HoldsRun judges ledger (header_in reading ls) (history_of (events_in reading ls)) → HoldsGood judges ledger bytes
holds_at judges ledger bytes ls are holds =
    subst (λ (k : List (List ℕ)). HoldsRun judges ledger (header_in reading k) (history_of (events_in reading k))) (sym are) holds

holds_kept : {L : Type 0} (judges : Judges L) (old new : Held L) (ls : List (List ℕ)) → new.ledger ≡ old.ledger → StandsFor judges old ls → AreGood (by judges) ls
    → HoldsRun judges new.ledger (header_in reading ls) (history_of (events_in reading ls))
holds_kept {L = L} judges old new ls kept stands good =
    subst (λ (ledger : Option L). HoldsRun judges ledger (header_in reading ls) (history_of (events_in reading ls))) (sym kept) (holds_of_good judges old ls stands good)

-- ---- before the end

-- a line that is not good
pub ends_line : {L V : Type 0} (judges : Judges L) (covers : V → List (List ℕ) → Type 0) (keeps : Bool) (old new : Held L) (visitor : V) (last : Option LastLine) (rest rest' l : List ℕ) (closed : Bool)
    → IsShortLine l → Taken rest l rest' closed → closed ≡ false → TakesBad judges keeps old new l last
    → (bytes : List ℕ) → Walked judges covers rest old visitor bytes → IsFixed (by judges) bytes × Ends judges covers keeps new visitor last bytes
ends_line judges covers keeps old new visitor last rest rest' l closed is_line t open_yet bad bytes f =
    let q = bad.0.1 f.0 f.1.0 in
    let fixed = fixed_by_line (by judges) (f.0 ++ l ∷ []) rest' bytes (short_snoc f.0 l f.3 is_line) q.1 (ended_snoc f.0 l rest' bytes (f.4 ∙ ap (λ k. ended f.0 ++ k) (taken_open rest l rest' closed t open_yet))) in
    let place = place_at_line (by judges) bytes f.0 fixed.2 l f.2 q.1 fixed.3 in
    let there : good_lines (by judges) bytes ≡ f.0 = ap (λ (p : Place). p.0) place in
    let hands = handed keeps last old.lines l f.0 (lines_of_good judges old f.0 f.1.0 f.2) (bad.2 (undecided_of_good judges old f.0 f.1.0 f.2)) in (
      fixed.0,
      (
        ((bad.0.0, (f.0 ++ l ∷ [], q.0, fixed.1)), holds_at judges new.ledger bytes f.0 there (holds_kept judges old new f.0 bad.1 f.1.0 f.2), λ kept. subst (λ (p : Place). HandsOut last p) (sym place) (hands kept)),
        subst (λ (ls : List (List ℕ)). covers visitor ls) (sym there) f.1.1,
      ),
    )

-- a line that is too long
pub ends_too_long : {L V : Type 0} (judges : Judges L) (covers : V → List (List ℕ) → Type 0) (keeps : Bool) (old new : Held L) (visitor : V) (rest : List ℕ) (b : BeginsTooLong rest)
    → ((l : List ℕ) → line_limit < length l → AddsBad judges old new l) → new.ledger ≡ old.ledger
    → (bytes : List ℕ) → Walked judges covers rest old visitor bytes → IsFixed (by judges) bytes × Ends judges covers keeps new visitor None bytes
ends_too_long judges covers keeps old new visitor rest b bad kept bytes f =
    let l = first_line b.0 (cut b.1) in
    let long = first_line_is_long b.0 (cut b.1) b.3 in
    let adds = bad l long in
    let q = adds.1 f.0 f.1.0 in
    let fixed = fixed_by_length (by judges) f.0 b.0 b.1 rest bytes f.3 f.4 b.4 b.2 b.3 q.1 in
    let place = place_at_line (by judges) bytes f.0 fixed.2 l f.2 q.1 fixed.3 in
    let there : good_lines (by judges) bytes ≡ f.0 = ap (λ (p : Place). p.0) place in (
      fixed.0,
      (
        ((adds.0, (f.0 ++ l ∷ [], q.0, fixed.1)), holds_at judges new.ledger bytes f.0 there (holds_kept judges old new f.0 kept f.1.0 f.2), λ keep. subst (λ (p : Place). HandsOut None p) (sym place) long),
        subst (λ (ls : List (List ℕ)). covers visitor ls) (sym there) f.1.1,
      ),
    )

-- ---- at the end

-- the last line, which no LF ends, is not good
pub ends_last_bad : {L V : Type 0} (judges : Judges L) (covers : V → List (List ℕ) → Type 0) (keeps : Bool) (old new : Held L) (visitor : V) (last : Option LastLine) (rest rest' l : List ℕ) (closed : Bool)
    → IsShortLine l → Taken rest l rest' closed → has_lf rest ≡ false → TakesBad judges keeps old new l last
    → (bytes : List ℕ) → Walked judges covers rest old visitor bytes → Ends judges covers keeps new visitor last bytes
ends_last_bad judges covers keeps old new visitor last rest rest' l closed is_line t none bad bytes f =
    let taken = taken_last rest l rest' closed t none in
    let q = bad.0.1 f.0 f.1.0 in
    let all : lines bytes ≡ f.0 ++ l ∷ [] = lines_at_end f.0 l bytes f.3 (f.4 ∙ ap (λ k. ended f.0 ++ k) taken.1) is_line.0 taken.0 in
    let are = all ∙ sym (append-nil (f.0 ++ l ∷ [])) in
    let place = place_at_line (by judges) bytes f.0 [] l f.2 q.1 are in
    let there : good_lines (by judges) bytes ≡ f.0 = ap (λ (p : Place). p.0) place in
    let hands = handed keeps last old.lines l f.0 (lines_of_good judges old f.0 f.1.0 f.2) (bad.2 (undecided_of_good judges old f.0 f.1.0 f.2)) in (
      (
        (bad.0.0, (f.0 ++ l ∷ [], q.0, ap (verdict_of (by judges)) (sym all))),
        holds_at judges new.ledger bytes f.0 there (holds_kept judges old new f.0 bad.1 f.1.0 f.2),
        λ kept. subst (λ (p : Place). HandsOut last p) (sym place) (hands kept),
      ),
      subst (λ (ls : List (List ℕ)). covers visitor ls) (sym there) f.1.1,
    )

-- it is good
pub ends_last_good : {L V : Type 0} (judges : Judges L) (covers : V → List (List ℕ) → Type 0) (keeps : Bool) (old new : Held L) (visitor visitor' : V) (rest rest' l : List ℕ) (closed : Bool)
    → IsShortLine l → Taken rest l rest' closed → has_lf rest ≡ false → new.failed ≡ false → VisitsGood judges covers old new visitor visitor' l
    → (bytes : List ℕ) → Walked judges covers rest old visitor bytes → Ends judges covers keeps new visitor' None bytes
ends_last_good judges covers keeps old new visitor visitor' rest rest' l closed is_line t none whole good bytes f =
    let taken = taken_last rest l rest' closed t none in
    let q = good f.0 f.1 in
    let ls = f.0 ++ l ∷ [] in
    let all : lines bytes ≡ ls = lines_at_end f.0 l bytes f.3 (f.4 ∙ ap (λ k. ended f.0 ++ k) taken.1) is_line.0 taken.0 in
    let place = place_at_end (by judges) bytes ls q.1 all in
    let there : good_lines (by judges) bytes ≡ ls = ap (λ (p : Place). p.0) place in (
      (
        (whole, (ls, q.0.0, ap (verdict_of (by judges)) (sym all))),
        holds_at judges new.ledger bytes ls there (holds_of_good judges new ls q.0.0 q.1),
        λ kept. subst (λ (p : Place). HandsOut None p) (sym place) tt,
      ),
      subst (λ (k : List (List ℕ)). covers visitor' k) (sym there) q.0.1,
    )

-- nothing stands behind the last LF
pub ends_none : {L V : Type 0} (judges : Judges L) (covers : V → List (List ℕ) → Type 0) (keeps : Bool) (held : Held L) (visitor : V) (rest : List ℕ) → rest ≡ [] → held.failed ≡ false
    → (bytes : List ℕ) → Walked judges covers rest held visitor bytes → Ends judges covers keeps held visitor None bytes
ends_none judges covers keeps held visitor rest none whole bytes f =
    let all : lines bytes ≡ f.0 = lines_at_lf f.0 rest bytes f.3 f.4 none in
    let place = place_at_end (by judges) bytes f.0 f.2 all in
    let there : good_lines (by judges) bytes ≡ f.0 = ap (λ (p : Place). p.0) place in (
      (
        (whole, (f.0, f.1.0, ap (verdict_of (by judges)) (sym all))),
        holds_at judges held.ledger bytes f.0 there (holds_of_good judges held f.0 f.1.0 f.2),
        λ kept. subst (λ (p : Place). HandsOut None p) (sym place) tt,
      ),
      subst (λ (ls : List (List ℕ)). covers visitor ls) (sym there) f.1.1,
    )

-- ---- halted

-- the lines that an LF ends, of a rest too
ended_are : (ls : List (List ℕ)) (rest bytes : List ℕ) → bytes ≡ ended ls ++ rest → AllByRecursion IsShortLine ls → ended_lines bytes ≡ ls ++ ended_lines rest
ended_are ls rest bytes parts short = ap ended_lines parts ∙ ap (λ (p : Cut). p.0) (cut_ended ls rest short)

-- of more lines
pub halts_longer : {V F : Type 0} (covers : V → List (List ℕ) → Type 0) (fails : V → List (List ℕ) → F → Type 0) (visitor : V) (halt : Halt F) (some more all : List (List ℕ))
    → all ≡ some ++ more → HaltsIn covers fails visitor halt some → HaltsIn covers fails visitor halt all
halts_longer covers fails visitor halt some more all are h =
    (h.0, h.1 ++ more, are ∙ (ap (λ k. k ++ more) h.2 ∙ append_assoc h.0 h.1 more), h.3)

-- out of memory before a line
pub halts_before : {V F : Type 0} (covers : V → List (List ℕ) → Type 0) (fails : V → List (List ℕ) → F → Type 0) (visitor : V) (ls : List (List ℕ)) (l : List ℕ)
    → covers visitor ls → HaltsIn covers fails visitor OutOfMemory (ls ++ l ∷ [])
halts_before covers fails visitor ls l covered = (ls, l ∷ [], refl, covered)

-- at a line
pub halts_there : {V F : Type 0} (covers : V → List (List ℕ) → Type 0) (fails : V → List (List ℕ) → F → Type 0) (visitor : V) (halt : Halt F) (ls : List (List ℕ)) (l : List ℕ)
    → HaltsAt covers fails visitor halt (ls ++ l ∷ []) → HaltsIn covers fails visitor halt (ls ++ l ∷ [])
halts_there covers fails visitor halt ls l at = (ls ++ l ∷ [], [], sym (append-nil (ls ++ l ∷ [])), at)

-- at a line that an LF ends
pub halts_line : {L V F : Type 0} (judges : Judges L) (covers : V → List (List ℕ) → Type 0) (fails : V → List (List ℕ) → F → Type 0) (held : Held L) (visitor visitor' : V) (halt : Halt F) (rest rest' l : List ℕ) (closed : Bool)
    → IsShortLine l → Taken rest l rest' closed → closed ≡ false → ((ls : List (List ℕ)) → Covered judges covers held visitor ls → HaltsIn covers fails visitor' halt (ls ++ l ∷ []))
    → (bytes : List ℕ) → Walked judges covers rest held visitor bytes → HaltsIn covers fails visitor' halt (ended_lines bytes)
halts_line judges covers fails held visitor visitor' halt rest rest' l closed is_line t open_yet halts bytes f =
    let taken = taken_open rest l rest' closed t open_yet in
    let parts : bytes ≡ ended (f.0 ++ l ∷ []) ++ rest' = ended_snoc f.0 l rest' bytes (f.4 ∙ ap (λ k. ended f.0 ++ k) taken) in
    halts_longer covers fails visitor' halt (f.0 ++ l ∷ []) (ended_lines rest') (ended_lines bytes) (ended_are (f.0 ++ l ∷ []) rest' bytes parts (short_snoc f.0 l f.3 is_line)) (halts f.0 f.1)

-- at the last line, which no LF ends
pub halts_last : {L V F : Type 0} (judges : Judges L) (covers : V → List (List ℕ) → Type 0) (fails : V → List (List ℕ) → F → Type 0) (held : Held L) (visitor visitor' : V) (halt : Halt F) (rest rest' l : List ℕ) (closed : Bool)
    → IsShortLine l → Taken rest l rest' closed → has_lf rest ≡ false → ((ls : List (List ℕ)) → Covered judges covers held visitor ls → HaltsIn covers fails visitor' halt (ls ++ l ∷ []))
    → (bytes : List ℕ) → Walked judges covers rest held visitor bytes → HaltsIn covers fails visitor' halt (lines bytes)
halts_last judges covers fails held visitor visitor' halt rest rest' l closed is_line t none halts bytes f =
    let taken = taken_last rest l rest' closed t none in
    let all : lines bytes ≡ f.0 ++ l ∷ [] = lines_at_end f.0 l bytes f.3 (f.4 ∙ ap (λ k. ended f.0 ++ k) taken.1) is_line.0 taken.0 in
    halts_longer covers fails visitor' halt (f.0 ++ l ∷ []) [] (lines bytes) (all ∙ sym (append-nil (f.0 ++ l ∷ []))) (halts f.0 f.1)

-- out of memory, among the lines that an LF ends
pub halts_open : {L V F : Type 0} (judges : Judges L) (covers : V → List (List ℕ) → Type 0) (fails : V → List (List ℕ) → F → Type 0) (held : Held L) (visitor : V) (rest bytes : List ℕ)
    → Walked judges covers rest held visitor bytes → HaltsIn covers fails visitor OutOfMemory (ended_lines bytes)
halts_open judges covers fails held visitor rest bytes f = (f.0, ended_lines rest, ended_are f.0 rest bytes f.4 f.3, f.1.1)

-- and among all lines
pub halts_at_end : {L V F : Type 0} (judges : Judges L) (covers : V → List (List ℕ) → Type 0) (fails : V → List (List ℕ) → F → Type 0) (held : Held L) (visitor : V) (rest bytes : List ℕ)
    → Walked judges covers rest held visitor bytes → HaltsIn covers fails visitor OutOfMemory (lines bytes)
halts_at_end judges covers fails held visitor rest bytes f =
    halts_longer covers fails visitor OutOfMemory (ended_lines bytes) (last_line (unended bytes)) (lines bytes) refl (halts_open judges covers fails held visitor rest bytes f)

-- the visitor was, behind what it covers of the lines that an LF ends
pub halts_behind : {L V F : Type 0} (judges : Judges L) (covers : V → List (List ℕ) → Type 0) (fails : V → List (List ℕ) → F → Type 0) (held : Held L) (visitor visitor' : V) (halt : Halt F) (rest bytes : List ℕ)
    → Walked judges covers rest held visitor bytes → ((ls : List (List ℕ)) → covers visitor ls → HaltsAt covers fails visitor' halt ls) → HaltsIn covers fails visitor' halt (ended_lines bytes)
halts_behind judges covers fails held visitor visitor' halt rest bytes f halts = (f.0, ended_lines rest, ended_are f.0 rest bytes f.4 f.3, halts f.0 f.1.1)

-- and behind the good lines of the bytes
pub halts_at_good : {V F : Type 0} (judging : Judging) (covers : V → List (List ℕ) → Type 0) (fails : V → List (List ℕ) → F → Type 0) (visitor : V) (halt : Halt F) (bytes : List ℕ)
    → HaltsAt covers fails visitor halt (good_lines judging bytes) → HaltsIn covers fails visitor halt (lines bytes)
halts_at_good judging covers fails visitor halt bytes at =
    let begin = good_begin judging bytes in
    (good_lines judging bytes, begin.0, begin.1, at)

-- what was walked over a visitor that covers as much as another
pub walked_by : {L V : Type 0} (judges : Judges L) (covers : V → List (List ℕ) → Type 0) (held : Held L) (visitor visitor' : V) (rest bytes : List ℕ) → ((ls : List (List ℕ)) → covers visitor ls → covers visitor' ls)
    → Walked judges covers rest held visitor bytes → Walked judges covers rest held visitor' bytes
walked_by judges covers held visitor visitor' rest bytes more f = (f.0, (f.1.0, more f.0 f.1.1), f.2, f.3, f.4)

-- ---- what is left of a walk

-- where no line stands in the rest, the visitor covers the lines that an LF ends
pub covers_ended : {L V : Type 0} (judges : Judges L) (covers : V → List (List ℕ) → Type 0) (held : Held L) (visitor : V) (rest bytes : List ℕ) → IsShortLine rest
    → Walked judges covers rest held visitor bytes → covers visitor (ended_lines bytes)
covers_ended judges covers held visitor rest bytes short f =
    let none : ended_lines rest ≡ [] = ap (λ (p : Cut). p.0) (cut_without_lf rest short.0) in
    let same : ended_lines bytes ≡ f.0 = ended_are f.0 rest bytes f.4 f.3 ∙ (ap (λ k. f.0 ++ k) none ∙ append-nil f.0) in
    subst (λ (ls : List (List ℕ)). covers visitor ls) (sym same) f.1.1

-- lines of these bytes were halted
pub walks_halted : {V F : Type 0} {last : ℕ} (judging : Judging) (covers : V → List (List ℕ) → Type 0) (fails : V → List (List ℕ) → F → Type 0) (old new : Option (List ℕ)) (visitor : V) (halt : Halt F) (bytes : List ℕ) (all : List (List ℕ))
    → Consumes old new bytes → IsReadNoFurtherBy judging last bytes → HaltsIn covers fails visitor halt all
    → (ended_lines bytes ≡ all) ⊎ ((IsAtEnd new ⊎ IsFixed judging bytes) × (lines bytes ≡ all)) → WalksInto judging covers fails old new last visitor (fault_by halt)
walks_halted judging covers fails old new visitor OutOfMemory bytes all consumes further h place =
    (bytes, consumes, further, h.0, h.1, h.3, elim place [ inl ended ↦ inl (ended ∙ h.2) | inr whole ↦ inr (whole.0, whole.1 ∙ h.2) ])
walks_halted judging covers fails old new visitor (Visitor f) bytes all consumes further h place =
    (bytes, consumes, further, h.0, h.1, h.3, elim place [ inl ended ↦ inl (ended ∙ h.2) | inr whole ↦ inr (whole.0, whole.1 ∙ h.2) ])

pub walks_halted_within : {V F : Type 0} {last : ℕ} (judging : Judging) (covers : V → List (List ℕ) → Type 0) (fails : V → List (List ℕ) → F → Type 0) (old new : Option (List ℕ)) (visitor : V) (halt : Halt F) (bytes : List ℕ)
    → Consumes old new bytes → IsReadNoFurtherBy judging last bytes → HaltsWithin judging covers fails visitor halt bytes → WalksInto judging covers fails old new last visitor (fault_by halt)
walks_halted_within judging covers fails old new visitor halt bytes consumes further within = elim within [
  | inl among ↦ walks_halted judging covers fails old new visitor halt bytes (ended_lines bytes) consumes further among (inl refl)
  | inr all ↦ walks_halted judging covers fails old new visitor halt bytes (lines bytes) consumes further all.1 (inr (inr all.0, refl))
]
