-- At which line a trace is judged.
use Rattle.std.specs.Prelude.{◌++◌, [], ◌∷◌, ℕ, is_some, List, Option, Some, None, if◌then◌else◌}
use Rattle.qa_format.specs.format.Lines.{lines}
use Rattle.qa_format.specs.verdicts.Verdict.{Judging, stop_after}

-- the lines before the first that is not good, and that line; or all of them
abbrev pub judged_at : Judging → List (List ℕ) → List (List ℕ) → List (List ℕ) × Option (List ℕ)
judged_at judging before [] = (before, None)
judged_at judging before (l ∷ ls) =
    if is_some (stop_after judging before l) then (before, Some l) else judged_at judging
    (before ++ l ∷ []) ls

-- the lines before the first that is not good, or all
abbrev pub good_lines : Judging → List ℕ → List (List ℕ)
good_lines judging bytes = (judged_at judging [] (lines bytes)).0
