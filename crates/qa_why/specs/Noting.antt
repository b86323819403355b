-- What is told of bytes of which notes are taken.
use Rattle.std.specs.Prelude.{◌≡◌, ℕ, List}
use Rattle.qa_format.specs.verdicts.Verdict.{Judging}
use Rattle.qa_why.specs.Why.{TellsBy, good_lines}
use Rattle.qa_why.specs.caveats.Caveats.{guessed_in}
use Rattle.qa_why.specs.declared.causes.Why.{Why}
use Rattle.qa_format.specs.declared.form.Form.{Form}

-- this is told of them, and these are notes of their good lines, of which so many were guessed
abbrev pub TellsNoted : {N : Type 0} → Judging → (N → List (List ℕ) → Type 0) → Form → List ℕ
    → Why → N → List ℕ → Type 0
TellsNoted judging covers form name why notes bytes =
    TellsBy judging form name why.outcome why.text.items bytes
    × covers notes (good_lines judging bytes)
    × (why.guessed ≡ guessed_in (good_lines judging bytes))
