-- A trace goes on from one point to the next.
use Rattle.std.proofs.Common.{◌≡◌, ◌∙◌, inl, inr, ℕ, false, List, [], ◌∷◌, ◌++◌, refl, ap, sym, append_assoc, append-nil}
use Rattle.std.specs.List.{concat}
use Rattle.qa_logs.proofs.Steps.{one_more}
use Rattle.qa_logs.specs.Cutting.{Steps}
use Rattle.qa_logs.specs.Whole.{FeedsEach}
use Rattle.qa_logs.specs.Tracing.{Traced, given, shown}
use Rattle.qa_logs.specs.declared.cutting.Wants.{Wants}
use Rattle.qa_logs.specs.declared.cutting.Wants.TheVariants.{More, Nothing}
use Rattle.qa_log_lines.specs.Reading.{GivesLines, GoesOn, TakesPart}

pub concat_one : (xs : List (List ℕ)) (y : List ℕ) → concat (xs ++ y ∷ []) ≡ concat xs ++ y
concat_one [] y = append-nil y
concat_one (x ∷ xs) y = ap (λ k. x ++ k) (concat_one xs y) ∙ sym (append_assoc x (concat xs) y)

takes_header : (old new : Traced) (wants : Wants) → TakesPart (given old) wants new → new.has_header ≡ false
takes_header old new wants (inl (part, feeds)) = feeds.has_header
takes_header old new wants (inr (none, same)) = ap (λ t. t.has_header) same

-- behind the header there are only lines of events
pub goes_header : (old new : Traced) → GoesOn old new → new.has_header ≡ false
goes_header old new (inl takes) = takes_header old new More takes
goes_header old new (inr (mid, takes, closed)) = closed.has_header ∙ takes_header old mid Nothing takes

-- once they are given away
pub nothing_left : (t : Traced) → t.has_header ≡ false → shown (given t) ≡ []
nothing_left t is = rw is refl

pub went_on : (start old new : Traced) (parts : List (List ℕ)) → Steps GivesLines start parts old → GoesOn old new → Steps GivesLines start (parts ++ shown old ∷ []) new
went_on start old new parts steps goes = one_more GivesLines start parts old (shown old) new steps (refl, goes)

pub fed_more : {S : Type 0} (feeds : S → List ℕ → Wants → S → Type 0) (start old new : S) (parts : List (List ℕ)) (part : List ℕ) (wants : Wants) → FeedsEach feeds start parts old → feeds old part wants new → (fed : List (List ℕ)) × FeedsEach feeds start fed new
fed_more feeds start old new parts part wants each fed =
    (parts ++ part ∷ [], one_more (λ a p b. (w : Wants) × feeds a p w b) start parts old part new each (wants, fed))
