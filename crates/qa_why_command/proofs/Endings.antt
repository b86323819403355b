-- The traces so far, and those to come.
use Rattle.std.proofs.Common.{◌≡◌, ◌∙◌, ◌<◌, ◌≤◌, ◌+◌, ◌++◌, ◌∷◌, ℕ, zero, suc, Bool, true, false, List, [], Ok, Err, cond, length, drop, get_or, map, max, arith, refl, sym, ap, subst, append_assoc, append-nil, count_by}
use Rattle.std.specs.Prelude.{◌||◌}
use Rattle.std.specs.Borrow.{Bor}
use Rattle.std.specs.List.{list_any}
use Rattle.std.proofs.lemmas.List.Sums.{sum_by_push}
use Rattle.std.proofs.lemmas.List.{drop_all, drop_more, map-append}
use Rattle.std.proofs.lemmas.Bool.{or_parts}
use Rattle.std.proofs.lemmas.List.Recursion.{or_push}
use Rattle.qa_check.specs.declared.auditing.Outcome.TheVariants.{Accepted, Refused, Unreadable}
use Rattle.qa_commands.specs.Checking.{Then}
use Rattle.qa_commands.specs.Ending.{greatest}
use Rattle.qa_arguments.specs.why.Asked.{Wanted}
use Rattle.qa_why_command.specs.Ending.{Ended, status_of, stops}
use Rattle.qa_why_command.specs.Streams.{Streams}
use Rattle.qa_why_command.specs.Tally.{count_of, counted, is_accepted, is_refused, is_unreadable, one_more, tally_of}
use Rattle.qa_why_command.specs.Traces.{TellsEach, TellsTrace, is_input}
use Rattle.qa_why_command.specs.declared.ending.Failure.TheVariants.{Audit, Log, Open}
use Rattle.qa_why_command.specs.declared.tally.Tally.{Tally}

-- ---- the counts, with one trace more

count_last : (came : Ended → Bool) (endings : List Ended) (ended : Ended) → count_by came (endings ++ ended ∷ []) ≡ count_by came endings + cond (came ended) 1 0
count_last came endings ended = sum_by_push (λ e. cond (came e) 1 0) endings ended

one_came : (came : Ended → Bool) (endings : List Ended) (ended : Ended) → came ended ≡ true → count_of came (endings ++ ended ∷ []) ≡ one_more (count_of came endings)
one_came came endings ended is =
    let last = rw is at (count_last came endings ended) in
    omega (arith, last)

none_came : (came : Ended → Bool) (endings : List Ended) (ended : Ended) → came ended ≡ false → count_of came (endings ++ ended ∷ []) ≡ count_of came endings
none_came came endings ended is =
    let last = rw is at (count_last came endings ended) in
    omega (arith, last)

greatest_last : (statuses : List ℕ) (status : ℕ) → greatest (statuses ++ status ∷ []) ≡ max (greatest statuses) status
greatest_last [] status = omega arith
greatest_last (s ∷ statuses) status = let later = greatest_last statuses status in omega (arith, later)

status_last : (endings : List Ended) (ended : Ended) → greatest (map status_of (endings ++ ended ∷ [])) ≡ max (greatest (map status_of endings)) (status_of ended)
status_last endings ended = ap greatest (map-append status_of endings (ended ∷ [])) ∙ greatest_last (map status_of endings) (status_of ended)

tally : ℕ → ℕ → ℕ → ℕ → Tally
tally a r n s = record { accepted = a; refused = r; unreadable = n; status = s }

same_tally : (t u : Tally) → t.accepted ≡ u.accepted → t.refused ≡ u.refused → t.unreadable ≡ u.unreadable → t.status ≡ u.status → t ≡ u
unfolding tally
same_tally t u a r n s =
    ap (λ (x : ℕ). tally x t.refused t.unreadable t.status) a
    ∙ (ap (λ (x : ℕ). tally u.accepted x t.unreadable t.status) r
    ∙ (ap (λ (x : ℕ). tally u.accepted u.refused x t.status) n ∙ ap (λ (x : ℕ). tally u.accepted u.refused u.unreadable x) s))

pub counted_last : (endings : List Ended) (ended : Ended) → counted (tally_of endings) ended ≡ tally_of (endings ++ ended ∷ [])
counted_last endings (Ok Accepted) =
    same_tally _ _ (sym (one_came is_accepted endings (Ok Accepted) refl)) (sym (none_came is_refused endings (Ok Accepted) refl))
    (sym (none_came is_unreadable endings (Ok Accepted) refl)) (let last = status_last endings (Ok Accepted) in omega (arith, last))
counted_last endings (Ok Refused) =
    same_tally _ _ (sym (none_came is_accepted endings (Ok Refused) refl)) (sym (one_came is_refused endings (Ok Refused) refl))
    (sym (none_came is_unreadable endings (Ok Refused) refl)) (sym (status_last endings (Ok Refused)))
counted_last endings (Ok Unreadable) =
    same_tally _ _ (sym (none_came is_accepted endings (Ok Unreadable) refl)) (sym (none_came is_refused endings (Ok Unreadable) refl))
    (sym (one_came is_unreadable endings (Ok Unreadable) refl)) (sym (status_last endings (Ok Unreadable)))
counted_last endings (Err Open) =
    same_tally _ _ (sym (none_came is_accepted endings (Err Open) refl)) (sym (none_came is_refused endings (Err Open) refl))
    (sym (none_came is_unreadable endings (Err Open) refl)) (sym (status_last endings (Err Open)))
counted_last endings (Err (Audit fault)) =
    same_tally _ _ (sym (none_came is_accepted endings (Err (Audit fault)) refl)) (sym (none_came is_refused endings (Err (Audit fault)) refl))
    (sym (none_came is_unreadable endings (Err (Audit fault)) refl)) (sym (status_last endings (Err (Audit fault))))
counted_last endings (Err Log) =
    same_tally _ _ (sym (none_came is_accepted endings (Err Log) refl)) (sym (none_came is_refused endings (Err Log) refl))
    (sym (one_came is_unreadable endings (Err Log) refl)) (sym (status_last endings (Err Log)))

-- ---- the traces

any_stops_last : (endings : List Ended) (ended : Ended) → list_any stops endings ≡ false → list_any stops (endings ++ ended ∷ []) ≡ stops ended
any_stops_last endings ended none = or_push (list_any stops) stops refl (λ e es. refl) endings ended ∙ ap (λ b. b || stops ended) none

-- what is still to be shown of the traces behind: with it these are the endings of all
abbrev pub Leads : Wanted → List (Bor (List ℕ)) → Streams → List (Bor (List ℕ)) → Streams → List Ended → Type 0
Leads w files before behind now endings =
    (after : Streams) (later : List Ended) → TellsEach w (map (λ name. name.now) behind) later now after
    → TellsEach w (map (λ name. name.now) files) (endings ++ later) before after

-- what was told of the traces so far, which ended so, and how they count
pub record Led (w : Wanted) (files : List (Bor (List ℕ))) (before : Streams) (behind : List (Bor (List ℕ))) (now : Streams) (endings : List Ended) (t : Tally) : Type 0 where
  pub leads : Leads w files before behind now endings
  pub count : t ≡ tally_of endings
  pub goes_on : list_any stops endings ≡ false

-- what was told in all, how that counts, and whether a failed write ended it
abbrev pub AllTold : Wanted → List (Bor (List ℕ)) → Streams → Streams → Tally → Bool → Type 0
AllTold w files before after t stopped =
    (endings : List Ended) × TellsEach w (map (λ name. name.now) files) endings before after × (t ≡ tally_of endings) × (stopped ≡ list_any stops endings)

-- at the start
pub led_none : (w : Wanted) (files : List (Bor (List ℕ))) (before : Streams) (t : Tally) → t ≡ tally_of [] → Led w files before files before [] t
led_none w files before t is = record { leads = λ after later tells. tells; count = is; goes_on = refl }

-- one trace more, which ended so
module _ (w : Wanted) (files : List (Bor (List ℕ))) (before : Streams) (i : ℕ) (none : Bor (List ℕ)) (now middle : Streams) (endings : List Ended) (ended : Ended) (t t' : Tally) where
  -- with what comes behind it
  lead_on : i < length files → Leads w files before (drop i files) now endings → TellsTrace w (get_or files i none).now ended now middle
      → (after : Streams) (later : List Ended) → Then (stops ended) ((later ≡ []) × (after ≡ middle)) (TellsEach w (map (λ name. name.now) (drop (i + 1) files)) later middle after)
      → TellsEach w (map (λ name. name.now) files) (endings ++ ended ∷ later) before after
  lead_on within leads tells after later behind =
      let more = drop_more files i none within in
      leads after (ended ∷ later) (subst (λ (names : List (Bor (List ℕ))). TellsEach w (map (λ name. name.now) names) (ended ∷ later) now after) (sym more) (middle, tells, behind))

  counts_now : t ≡ tally_of endings → t' ≡ counted t ended → t' ≡ tally_of (endings ++ ended ∷ [])
  counts_now was now = now ∙ (ap (λ (u : Tally). counted u ended) was ∙ counted_last endings ended)

  -- after which the program ends
  pub lead_stop : i < length files → Led w files before (drop i files) now endings t → TellsTrace w (get_or files i none).now ended now middle
      → t' ≡ counted t ended → stops ended ≡ true → AllTold w files before middle t' true
  lead_stop within led tells is last =
      let later : List Ended = [] in
      let behind = subst (λ (b : Bool). Then b ((later ≡ []) × (middle ≡ middle)) (TellsEach w (map (λ name. name.now) (drop (i + 1) files)) later middle middle)) (sym last) (refl, refl) in (
        endings ++ ended ∷ [],
        lead_on within led.leads tells middle [] behind,
        counts_now led.count is,
        sym (any_stops_last endings ended led.goes_on ∙ last),
      )

  -- after which it goes on
  pub lead_go : i < length files → Led w files before (drop i files) now endings t → TellsTrace w (get_or files i none).now ended now middle
      → t' ≡ counted t ended → stops ended ≡ false → Led w files before (drop (i + 1) files) middle (endings ++ ended ∷ []) t'
  lead_go within led tells is more = record {
    leads = λ after later behind.
        let goes = subst (λ (b : Bool). Then b ((later ≡ []) × (after ≡ middle)) (TellsEach w (map (λ name. name.now) (drop (i + 1) files)) later middle after)) (sym more) behind in
        let all = lead_on within led.leads tells after later goes in
        rw (append_assoc endings (ended ∷ []) later) all;
    count = counts_now led.count is;
    goes_on = any_stops_last endings ended led.goes_on ∙ more;
  }

-- no trace is left
pub lead_end : (w : Wanted) (files : List (Bor (List ℕ))) (before : Streams) (i : ℕ) (now : Streams) (endings : List Ended) (t : Tally) → length files ≤ i
    → Led w files before (drop i files) now endings t → AllTold w files before now t false
lead_end w files before i now endings t past led =
    let none = drop_all i files past in
    let all = led.leads now [] (subst (λ (names : List (Bor (List ℕ))). TellsEach w (map (λ name. name.now) names) [] now now) (sym none) refl) in (
      endings,
      rw append-nil at all,
      led.count,
      sym led.goes_on,
    )

-- ---- standard input

-- it is none of the traces
pub not_input : (files : List (Bor (List ℕ))) (i : ℕ) (none : Bor (List ℕ)) → i < length files → list_any is_input (map (λ name. name.now) files) ≡ false
    → is_input (get_or files i none).now ≡ false
not_input [] i none within untold = absurd (omega arith)
not_input (file ∷ files) zero none within untold = (or_parts (is_input file.now) (list_any is_input (map (λ name. name.now) files)) untold).0
not_input (file ∷ files) (suc i) none within untold =
    not_input files i none (omega (arith, within)) (or_parts (is_input file.now) (list_any is_input (map (λ name. name.now) files)) untold).1
