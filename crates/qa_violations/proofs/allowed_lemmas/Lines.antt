-- What was allowed on one more line.
use Rattle.std.proofs.Common.{◌≡◌, ◌∙◌, ◌+◌, ℕ, List, [], ◌∷◌, ◌++◌, length, Option, Some, None, Result, Ok, subst, sym, ap}
use Rattle.std.proofs.lemmas.List.{append-nil}
use Rattle.std.specs.Option.{option_or}
use Rattle.std.specs.Prelude.{filter_map}
use Rattle.qa_base.specs.machine.Packets.{history_of}
use Rattle.qa_base.specs.values.Settings.{Settings}
use Rattle.qa_check.specs.Standing.{history_after}
use Rattle.qa_format.proofs.verdicts.RunsAccepted.{events_in-snoc}
use Rattle.qa_format.proofs.verdicts.Stops.{header_in-snoc}
use Rattle.qa_format.specs.declared.fault.Fault.{Fault}
use Rattle.qa_format.specs.declared.line.Line.{Line}
use Rattle.qa_format.specs.declared.line.Line.TheVariants as line
use Rattle.qa_format.specs.format.Reading.{reading}
use Rattle.qa_format.specs.verdicts.Verdict.{event_said, events_in, header_in, header_said}
use Rattle.qa_violations.proofs.all_lemmas.Told.{headless_before, history_with, or_none}
use Rattle.qa_violations.proofs.around_lemmas.Rows.{rows_headless, rows_more}
use Rattle.qa_violations.specs.all.Violated.{history_in}
use Rattle.qa_violations.specs.allowed.Keeping.{CoversWhere, IsAt, IsHeaderAfter, Tallies}
use Rattle.qa_violations.specs.allowed.Lines.{Counting, all_allowed, all_lates, allowed_on, lates_on}
use Rattle.qa_violations.specs.declared.allowed.allowances.Allowances.{Allowances}
use Rattle.qa_violations.specs.declared.allowed.late.Late.{Late}
use Rattle.qa_violations.specs.declared.table.finding.Finding.{Finding}

-- the history behind a line is that before it, with what it says
pub history_said : (ls : List (List ℕ)) (l : List ℕ) (said : Line) → reading l ≡ Ok said → history_in (ls ++ l ∷ []) ≡ history_after (history_in ls) said
history_said ls l (line.Event e) says = history_with ls l e says
history_said ls l line.Blank says =
    ap history_of (events_in-snoc reading ls l ∙ (ap (λ (r : Result Line Fault). events_in reading ls ++ filter_map event_said (r ∷ [])) says ∙ append-nil (events_in reading ls)))
history_said ls l (line.Header s) says =
    ap history_of (events_in-snoc reading ls l ∙ (ap (λ (r : Result Line Fault). events_in reading ls ++ filter_map event_said (r ∷ [])) says ∙ append-nil (events_in reading ls)))

-- and so is the header
pub header_said_so : (ls : List (List ℕ)) (l : List ℕ) (said : Line) (c : Settings) → reading l ≡ Ok said → header_in reading (ls ++ l ∷ []) ≡ Some c → IsHeaderAfter (header_in reading ls) said c
header_said_so ls l (line.Event e) c says headed =
    sym (or_none (header_in reading ls)) ∙ (sym (header_in-snoc reading ls l ∙ ap (λ s. option_or (header_in reading ls) (header_said s)) says) ∙ headed)
header_said_so ls l line.Blank c says headed =
    sym (or_none (header_in reading ls)) ∙ (sym (header_in-snoc reading ls l ∙ ap (λ s. option_or (header_in reading ls) (header_said s)) says) ∙ headed)
header_said_so ls l (line.Header s) c says headed =
    sym (header_in-snoc reading ls l ∙ ap (λ r. option_or (header_in reading ls) (header_said r)) says) ∙ headed

-- what is kept behind one more line, which says this
pub covers_more : (counts : Counting) (a : Allowances) (ls : List (List ℕ)) (l : List ℕ) (said : Line) (n : ℕ) (c : Settings) → reading l ≡ Ok said → n ≡ length ls + 1 → header_in reading (ls ++ l ∷ []) ≡ Some c
    → IsAt a (Some c) (history_after (history_in ls) said)
    → Tallies a.tally (all_allowed counts ls ++ allowed_on counts n said c (history_after (history_in ls) said)) (all_lates counts ls ++ lates_on counts n said c (history_after (history_in ls) said))
    → CoversWhere counts a (ls ++ l ∷ [])
covers_more counts a ls l said n c says count headed at tallies =
    let h = history_in (ls ++ l ∷ []) in
    let is = sym (history_said ls l said says) in
    let now : IsAt a (Some c) h = subst (λ g. IsAt a (Some c) g) is at in
    let told : Tallies a.tally (all_allowed counts ls ++ allowed_on counts n said c h) (all_lates counts ls ++ lates_on counts n said c h) =
    subst (λ g. Tallies a.tally (all_allowed counts ls ++ allowed_on counts n said c g) (all_lates counts ls ++ lates_on counts n said c g)) is tallies in
    let fs = rows_more (allowed_on counts) ls l said n c says count headed in
    let lates = rows_more (lates_on counts) ls l said n c says count headed in (
      subst (λ (header : Option Settings). IsAt a header h) (sym headed) now,
      subst (λ (found : List Late). Tallies a.tally (all_allowed counts (ls ++ l ∷ [])) found) lates (subst (λ (found : List Finding). Tallies a.tally found (all_lates counts ls ++ lates_on counts n said c h)) fs told),
    )

-- and where there is no header yet
pub covers_headless : (counts : Counting) (a : Allowances) (ls : List (List ℕ)) (l : List ℕ) → header_in reading (ls ++ l ∷ []) ≡ None → history_in (ls ++ l ∷ []) ≡ [] → CoversWhere counts a ls
    → CoversWhere counts a (ls ++ l ∷ [])
covers_headless counts a ls l none nothing covers =
    let headless : IsAt a None (history_in ls) = subst (λ (header : Option Settings). IsAt a header (history_in ls)) (headless_before ls l none) covers.0 in
    let still : IsAt a None (history_in (ls ++ l ∷ [])) = (headless.0, headless.1, nothing) in
    let fs = rows_headless (allowed_on counts) ls l none in
    let lates = rows_headless (lates_on counts) ls l none in (
      subst (λ (header : Option Settings). IsAt a header (history_in (ls ++ l ∷ []))) (sym none) still,
      subst (λ (found : List Late). Tallies a.tally (all_allowed counts (ls ++ l ∷ [])) found) lates (subst (λ (found : List Finding). Tallies a.tally found (all_lates counts ls)) fs covers.1),
    )
