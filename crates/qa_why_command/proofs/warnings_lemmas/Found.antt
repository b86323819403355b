-- What is found on one more line.
use Rattle.std.proofs.Common.{◌≡◌, ◌∙◌, ◌+◌, ℕ, List, [], ◌∷◌, ◌++◌, Option, Result, Ok, append_assoc, ap, length, map, sym}
use Rattle.std.proofs.lemmas.List.{append-nil}
use Rattle.qa_base.specs.values.Settings.{Settings}
use Rattle.qa_format.specs.declared.fault.Fault.{Fault}
use Rattle.qa_format.specs.declared.line.Line.{Line}
use Rattle.qa_format.specs.format.Reading.{reading}
use Rattle.qa_format.specs.verdicts.Verdict.{header_in}
use Rattle.qa_why_command.specs.warnings.Found.{at, found, found_after, found_on, of_line}

found_after-snoc : (before ls : List (List ℕ)) (l : List ℕ) → found_after before (ls ++ l ∷ []) ≡ found_after before ls ++ found_on (before ++ ls) l
found_after-snoc before [] l = append-nil (found_on before l) ∙ ap (λ (ls : List (List ℕ)). found_on ls l) (sym (append-nil before))
found_after-snoc before (m ∷ ls) l =
    ap (λ fs. found_on before m ++ fs) (found_after-snoc (before ++ m ∷ []) ls l)
    ∙ (ap (λ (all : List (List ℕ)). found_on before m ++ (found_after (before ++ m ∷ []) ls ++ found_on all l)) (append_assoc before (m ∷ []) ls)
    ∙ sym (append_assoc (found_on before m) (found_after (before ++ m ∷ []) ls) (found_on (before ++ m ∷ ls) l)))

pub found-snoc : (ls : List (List ℕ)) (l : List ℕ) → found (ls ++ l ∷ []) ≡ found ls ++ found_on ls l
found-snoc ls l = found_after-snoc [] ls l

-- by what is kept
pub found_more : (ls : List (List ℕ)) (l : List ℕ) (said : Line) (n : ℕ) (header : Option Settings) → reading l ≡ Ok said → n ≡ length ls + 1 → header ≡ header_in reading ls
    → found ls ++ map (at n) (of_line header (Ok said) l) ≡ found (ls ++ l ∷ [])
found_more ls l said n header says count same =
    ap (λ m. found ls ++ map (at m) (of_line header (Ok said) l)) count
    ∙ (ap (λ (h : Option Settings). found ls ++ map (at (length ls + 1)) (of_line h (Ok said) l)) same
    ∙ (ap (λ (r : Result Line Fault). found ls ++ map (at (length ls + 1)) (of_line (header_in reading ls) r l)) (sym says)
    ∙ sym (found-snoc ls l)))
