-- The audits so far, and those to come.
use Rattle.std.proofs.Common.{◌≡◌, ◌∙◌, ◌<◌, ◌≤◌, ◌+◌, ◌++◌, ◌∷◌, ℕ, Bool, true, false, List, [], Option, Result, length, drop, get_or, map, max, arith, refl, sym, ap, subst, append_assoc, append-nil}
use Rattle.std.specs.Prelude.{◌||◌}
use Rattle.std.proofs.lemmas.List.{drop_all, drop_more, map-append}
use Rattle.std.proofs.lemmas.List.Recursion.{or_push}
use Rattle.std.specs.Borrow.{Bor}
use Rattle.qa_check.specs.Failures.{failures_after}
use Rattle.qa_check.specs.declared.auditing.Outcome.{Outcome}
use Rattle.qa_commands.specs.Checking.{Checks, ChecksAll, Then, any_stops, stops}
use Rattle.qa_commands.specs.Ending.{Ends, Tells, greatest, line_told, status_of}
use Rattle.qa_commands.specs.Writes.{Writes}
use Rattle.qa_commands.specs.declared.ending.Failure.{Failure}

abbrev pub Ended : Type 0
Ended = Result Outcome Failure

-- ---- one more audit

greatest_last : (statuses : List ℕ) (status : ℕ) → greatest (statuses ++ status ∷ []) ≡ max status (greatest statuses)
greatest_last [] status = refl
greatest_last (s ∷ statuses) status = let later = greatest_last statuses status in omega (arith, later)

any_stops_last : (endings : List Ended) (ended : Ended) → any_stops endings ≡ false → any_stops (endings ++ ended ∷ []) ≡ stops ended
any_stops_last endings ended none = or_push any_stops stops refl (λ e es. refl) endings ended ∙ ap (λ b. b || stops ended) none

statuses_last : (endings : List Ended) (ended : Ended) → greatest (map status_of (endings ++ ended ∷ [])) ≡ max (status_of ended) (greatest (map status_of endings))
statuses_last endings ended = ap greatest (map-append status_of endings (ended ∷ [])) ∙ greatest_last (map status_of endings) (status_of ended)

tells_last : (endings : List Ended) (ended : Ended) (failed : Bool) (a b c : Option (List ℕ)) (n m k : ℕ) → Tells endings a b n m
    → Writes failed b c m k (line_told ended) → Tells (endings ++ ended ∷ []) a c n k
tells_last [] ended failed a b c n m k (same, count) writes = (failed, c, k, rw (same, count) at writes, (refl, refl))
tells_last (e ∷ endings) ended failed a b c n m k (first, middle, so_far, wrote, later) writes =
    (first, middle, so_far, wrote, tells_last endings ended failed middle b c so_far m k later writes)

-- what is still to be shown of the files behind: with it these are the endings of all files
abbrev pub Leads : Bool → List (Bor (List ℕ)) → Option (List ℕ) → List (Bor (List ℕ)) → Option (List ℕ) → List Ended → Type 0
Leads several files old behind held endings =
    (new : Option (List ℕ)) (later : List Ended) → ChecksAll several behind later held new → ChecksAll several files (endings ++ later) old new

-- what the audits so far wrote, with the greatest of their statuses, and what was told of them on standard error
pub record Led (several : Bool) (files : List (Bor (List ℕ))) (old : Option (List ℕ)) (behind : List (Bor (List ℕ))) (held : Option (List ℕ))
    (endings : List Ended) (status : ℕ) (before after : Option (List ℕ)) (n n' : ℕ) : Type 0 where
  pub leads : Leads several files old behind held endings
  pub greatest_is : status ≡ greatest (map status_of endings)
  pub told : Tells endings before after n n'
  pub goes_on : any_stops endings ≡ false

-- what was written in all, and how it ended
abbrev pub ChecksAndEnds : Bool → List (Bor (List ℕ)) → Option (List ℕ) → Option (List ℕ) → ℕ → ℕ → ℕ → Option (List ℕ) → Option (List ℕ) → ℕ → ℕ → Type 0
ChecksAndEnds several files old new failures failures' status before after n n' =
    (endings : List Ended) × ChecksAll several files endings old new × (failures' ≡ failures_after (any_stops endings) failures)
    × Ends endings status before after n n'

-- at the start
pub led_none : (several : Bool) (files : List (Bor (List ℕ))) (old before : Option (List ℕ)) (n : ℕ) → Led several files old files old [] 0 before before n n
led_none several files old before n = record {
  leads = λ new later checks. checks;
  greatest_is = refl;
  told = (refl, refl);
  goes_on = refl;
}

-- one file more, which ended so
module _ (several : Bool) (files : List (Bor (List ℕ))) (old : Option (List ℕ)) (i : ℕ) (none : Bor (List ℕ)) (held middle : Option (List ℕ))
    (endings : List Ended) (ended : Ended) (status status' : ℕ) (failed : Bool) (before told after : Option (List ℕ)) (n n1 n2 : ℕ) where
  -- with what comes behind it
  lead_on : i < length files → Leads several files old (drop i files) held endings → Checks several (get_or files i none) ended held middle
      → (new : Option (List ℕ)) (later : List Ended) → Then (stops ended) ((later ≡ []) × (new ≡ middle)) (ChecksAll several (drop (i + 1) files) later middle new)
      → ChecksAll several files (endings ++ ended ∷ later) old new
  lead_on within leads checks new later behind =
      let more = drop_more files i none within in
      leads new (ended ∷ later) (subst (λ names. ChecksAll several names (ended ∷ later) held new) (sym more) (middle, checks, behind))

  ends_now : Led several files old (drop i files) held endings status before told n n1 → status' ≡ max (status_of ended) status
      → Writes failed told after n1 n2 (line_told ended)
      → (status' ≡ greatest (map status_of (endings ++ ended ∷ []))) × Tells (endings ++ ended ∷ []) before after n n2
  ends_now led is tells = (
    is ∙ (ap (max (status_of ended)) led.greatest_is ∙ sym (statuses_last endings ended)),
    tells_last endings ended failed before told after n n1 n2 led.told tells,
  )

  -- after which the program ends
  pub lead_stop : (failures failures1 failures2 : ℕ) → i < length files → Led several files old (drop i files) held endings status before told n n1
      → Checks several (get_or files i none) ended held middle → status' ≡ max (status_of ended) status → Writes failed told after n1 n2 (line_told ended)
      → failures1 ≡ failures → failures2 ≡ failures_after (stops ended) failures1 → stops ended ≡ true
      → ChecksAndEnds several files old middle failures failures2 status' before after n n2
  lead_stop failures failures1 failures2 within led checks is tells unfailed count last =
      let now = ends_now led is tells in
      let later : List Ended = [] in
      let behind = subst (λ b. Then b ((later ≡ []) × (middle ≡ middle)) (ChecksAll several (drop (i + 1) files) later middle middle)) (sym last) (refl, refl) in (
        endings ++ ended ∷ [],
        lead_on within led.leads checks middle [] behind,
        count ∙ (ap (failures_after (stops ended)) unfailed ∙ ap (λ b. failures_after b failures) (sym (any_stops_last endings ended led.goes_on))),
        record { status_is = now.0; told = now.1 },
      )

  -- after which it goes on
  pub lead_go : i < length files → Led several files old (drop i files) held endings status before told n n1
      → Checks several (get_or files i none) ended held middle → status' ≡ max (status_of ended) status → Writes failed told after n1 n2 (line_told ended) → stops ended ≡ false
      → Led several files old (drop (i + 1) files) middle (endings ++ ended ∷ []) status' before after n n2
  lead_go within led checks is tells more =
      let now = ends_now led is tells in
      record {
        leads = λ new later behind.
            let goes = subst (λ b. Then b ((later ≡ []) × (new ≡ middle)) (ChecksAll several (drop (i + 1) files) later middle new)) (sym more) behind in
            let all = lead_on within led.leads checks new later goes in
            rw (append_assoc endings (ended ∷ []) later) all;
        greatest_is = now.0;
        told = now.1;
        goes_on = any_stops_last endings ended led.goes_on ∙ more;
      }

-- no file is left
pub lead_end : (several : Bool) (files : List (Bor (List ℕ))) (old : Option (List ℕ)) (i : ℕ) (held : Option (List ℕ)) (endings : List Ended) (status : ℕ)
    (before after : Option (List ℕ)) (n n' failures failures' : ℕ) → length files ≤ i
    → Led several files old (drop i files) held endings status before after n n' → failures' ≡ failures
    → ChecksAndEnds several files old held failures failures' status before after n n'
lead_end several files old i held endings status before after n n' failures failures' past led unfailed =
    let none = drop_all i files past in
    let all = led.leads held [] (subst (λ names. ChecksAll several names [] held held) (sym none) refl) in (
      endings,
      rw append-nil at all,
      unfailed ∙ ap (λ b. failures_after b failures) (sym led.goes_on),
      record { status_is = led.greatest_is; told = led.told },
    )
