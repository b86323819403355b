-- What is told of one more violation, and of those on one more line.
use Rattle.std.proofs.Common.{◌≡◌, ◌∙◌, ◌+◌, ◌<◌, ℕ, List, [], ◌∷◌, ◌++◌, Option, Some, None, Result, Ok, Err, append_assoc, get_or, length, map, take, refl, subst, sym, ap}
use Rattle.std.proofs.lemmas.List.{append-nil, map-append, take_more}
use Rattle.std.specs.Option.{option_or}
use Rattle.std.specs.Prelude.{filter_map}
use Rattle.qa_violations.specs.all.All.{first_text, firsts, firsts_after}
use Rattle.qa_violations.specs.all.Tolerating.{latest_of}
use Rattle.qa_violations.specs.all.Violated.{Violated, all_violated, violated, violated_after, violated_at, violated_on, finding_of, findings, history_in, lines_before, unit_of}
use Rattle.qa_violations.specs.all.Keeping.{violated_by, kept_behind}
use Rattle.qa_violations.specs.declared.all.tolerating.Violation.{Violation}
use Rattle.qa_violations.specs.all.Objects.{named, named_after, named_behind}
use Rattle.qa_violations.specs.around.Rows.{objects}
use Rattle.qa_base.specs.declared.event.Event.{Event}
use Rattle.qa_base.proofs.machine.Histories.{history_of-snoc}
use Rattle.qa_base.specs.declared.space.TimeUnit.{TimeUnit}
use Rattle.qa_base.specs.machine.Packets.{history_of}
use Rattle.qa_base.specs.values.Settings.{Settings}
use Rattle.qa_violations.specs.declared.table.finding.Finding.{Finding}
use Rattle.qa_format.proofs.verdicts.RunsAccepted.{events_in-snoc}
use Rattle.qa_format.proofs.verdicts.Stops.{header_in-snoc}
use Rattle.qa_format.specs.declared.fault.Fault.{Fault}
use Rattle.qa_format.specs.declared.line.Line.{Line}
use Rattle.qa_format.specs.declared.line.Line.TheVariants as line
use Rattle.qa_format.specs.format.Reading.{reading}
use Rattle.qa_format.specs.verdicts.Verdict.{event_said, events_in, header_in, header_said}

-- ---- one more violation

-- what holds behind one more of a list holds of the list up to it
pub up_to_one_more : (P : List Violated → Type 0) (f : Violation → Violated) (ds : List Violated) (xs : List Violation) (i : ℕ) (x : Violation) → i < length xs → x ≡ get_or xs i x
    → P ((ds ++ map f (take i xs)) ++ f x ∷ []) → P (ds ++ map f (take (i + 1) xs))
up_to_one_more P f ds xs i x within is holds =
    let more : map f (take (i + 1) xs) ≡ map f (take i xs) ++ f x ∷ [] =
    ap (map f) (take_more xs i x within) ∙ (map-append f (take i xs) (get_or xs i x ∷ []) ∙ ap (λ y. map f (take i xs) ++ f y ∷ []) (sym is)) in
    subst P (append_assoc ds (map f (take i xs)) (f x ∷ []) ∙ sym (ap (λ es. ds ++ es) more)) holds

pub findings-snoc : (ds : List Violated) (d : Violated) → findings (ds ++ d ∷ []) ≡ findings ds ++ finding_of d ∷ []
findings-snoc [] d = refl
findings-snoc (e ∷ ds) d = ap (λ fs. finding_of e ∷ fs) (findings-snoc ds d)

firsts_after-snoc : (count : ℕ) (name : List ℕ) (before : List Finding) (ds : List Violated) (d : Violated)
    → firsts_after count name before (ds ++ d ∷ []) ≡ firsts_after count name before ds ++ first_text count name (before ++ findings ds) d
firsts_after-snoc count name before [] d = append-nil (first_text count name before d) ∙ ap (λ fs. first_text count name fs d) (sym (append-nil before))
firsts_after-snoc count name before (e ∷ ds) d =
    ap (λ text. first_text count name before e ++ text) (firsts_after-snoc count name (before ++ finding_of e ∷ []) ds d)
    ∙ (ap (λ fs. first_text count name before e ++ (firsts_after count name (before ++ finding_of e ∷ []) ds ++ first_text count name fs d)) (append_assoc before (finding_of e ∷ []) (findings ds))
    ∙ sym (append_assoc (first_text count name before e) (firsts_after count name (before ++ finding_of e ∷ []) ds) (first_text count name (before ++ finding_of e ∷ findings ds) d)))

pub firsts-snoc : (count : ℕ) (name : List ℕ) (ds : List Violated) (d : Violated) → firsts count name (ds ++ d ∷ []) ≡ firsts count name ds ++ first_text count name (findings ds) d
firsts-snoc count name ds d = firsts_after-snoc count name [] ds d

-- ---- one more line

violated_after-snoc : (before ls : List (List ℕ)) (l : List ℕ) → violated_after before (ls ++ l ∷ []) ≡ violated_after before ls ++ violated_on (before ++ ls) l
violated_after-snoc before [] l = append-nil (violated_on before l) ∙ ap (λ (ls : List (List ℕ)). violated_on ls l) (sym (append-nil before))
violated_after-snoc before (m ∷ ls) l =
    ap (λ ds. violated_on before m ++ ds) (violated_after-snoc (before ++ m ∷ []) ls l)
    ∙ (ap (λ (all : List (List ℕ)). violated_on before m ++ (violated_after (before ++ m ∷ []) ls ++ violated_on all l)) (append_assoc before (m ∷ []) ls)
    ∙ sym (append_assoc (violated_on before m) (violated_after (before ++ m ∷ []) ls) (violated_on (before ++ m ∷ ls) l)))

pub all_violated-snoc : (ls : List (List ℕ)) (l : List ℕ) → all_violated (ls ++ l ∷ []) ≡ all_violated ls ++ violated_on ls l
all_violated-snoc ls l = violated_after-snoc [] ls l

-- ---- what a line says

none_said : (n : ℕ) (before : List (List ℕ)) (l : List ℕ) (header : Option Settings) (h : List Event) → violated_at n before l header h None ≡ []
none_said n before l None h = refl
none_said n before l (Some c) h = refl

or_nothing : (o p : Option Settings) → option_or o p ≡ None → o ≡ None
or_nothing None p none = refl
or_nothing (Some c) p none = none

pub or_none : (o : Option Settings) → option_or o None ≡ o
or_none None = refl
or_none (Some c) = refl

-- without a header nothing is violated
pub violated_headless : (ls : List (List ℕ)) (l : List ℕ) → header_in reading (ls ++ l ∷ []) ≡ None → violated_on ls l ≡ []
violated_headless ls l none =
    let before : header_in reading ls ≡ None = or_nothing (header_in reading ls) (header_said (reading l)) (sym (header_in-snoc reading ls l) ∙ none) in
    rw before refl

pub headless_before : (ls : List (List ℕ)) (l : List ℕ) → header_in reading (ls ++ l ∷ []) ≡ None → header_in reading ls ≡ None
headless_before ls l none = or_nothing (header_in reading ls) (header_said (reading l)) (sym (header_in-snoc reading ls l) ∙ none)

pub history_with : (ls : List (List ℕ)) (l : List ℕ) (e : Event) → reading l ≡ Ok (line.Event e) → history_in (ls ++ l ∷ []) ≡ e ∷ history_in ls
history_with ls l e says =
    ap history_of (events_in-snoc reading ls l ∙ ap (λ (r : Result Line Fault). events_in reading ls ++ filter_map event_said (r ∷ [])) says)
    ∙ history_of-snoc (events_in reading ls) e

no_history : (events : List Event) (r : Result Line Fault) → history_of (events ++ filter_map event_said (r ∷ [])) ≡ [] → history_of events ≡ []
no_history events (Ok (line.Event e)) none = let more = history_of-snoc events e in cc
no_history events (Ok line.Blank) none = ap history_of (sym (append-nil events)) ∙ none
no_history events (Ok (line.Header c)) none = ap history_of (sym (append-nil events)) ∙ none
no_history events (Err f) none = ap history_of (sym (append-nil events)) ∙ none

-- where there is no event there was none before
pub none_before : (ls : List (List ℕ)) (l : List ℕ) → history_in (ls ++ l ∷ []) ≡ [] → history_in ls ≡ []
none_before ls l none = no_history (events_in reading ls) (reading l) (sym (ap history_of (events_in-snoc reading ls l)) ∙ none)

-- the violations on a line are those by what it says
pub violated_same : (ls : List (List ℕ)) (l : List ℕ) (said : Line) (c : Settings) → reading l ≡ Ok said → header_in reading (ls ++ l ∷ []) ≡ Some c
    → violated_by (length ls + 1) ls l said c (history_in (ls ++ l ∷ [])) ≡ violated_on ls l
violated_same ls l (line.Event e) c says headed =
    let before : header_in reading ls ≡ Some c = sym (or_none (header_in reading ls)) ∙ (sym (header_in-snoc reading ls l ∙ ap (λ s. option_or (header_in reading ls) (header_said s)) says) ∙ headed) in
    rw (history_with ls l e says, says, before) refl
violated_same ls l line.Blank c says headed = rw says (sym (none_said (length ls + 1) ls l (header_in reading ls) (history_in ls)))
violated_same ls l (line.Header d) c says headed = rw says (sym (none_said (length ls + 1) ls l (header_in reading ls) (history_in ls)))

-- so are all on one more line
pub violated_more : (ls : List (List ℕ)) (l : List ℕ) (said : Line) (n : ℕ) (c : Settings) → reading l ≡ Ok said → header_in reading (ls ++ l ∷ []) ≡ Some c → n ≡ length ls + 1
    → all_violated ls ++ violated_by n ls l said c (history_in (ls ++ l ∷ [])) ≡ all_violated (ls ++ l ∷ [])
violated_more ls l said n c says headed count =
    let h = history_in (ls ++ l ∷ []) in
    ap (λ m. all_violated ls ++ violated_by m ls l said c h) count ∙ (ap (λ ds. all_violated ls ++ ds) (violated_same ls l said c says headed) ∙ sym (all_violated-snoc ls l))

-- without a header there are no more
pub violated_no_more : (ls : List (List ℕ)) (l : List ℕ) → header_in reading (ls ++ l ∷ []) ≡ None → all_violated ls ≡ all_violated (ls ++ l ∷ [])
violated_no_more ls l none = sym (all_violated-snoc ls l ∙ (ap (λ ds. all_violated ls ++ ds) (violated_headless ls l none) ∙ append-nil (all_violated ls)))

-- ---- what is kept of the lines: their violations, their unit and the number of their events

abbrev pub CoversBy : (List Violated → Type 0) → TimeUnit → ℕ → List (List ℕ) → Type 0
CoversBy keeps unit events ls = keeps (all_violated ls) × (unit ≡ unit_of (header_in reading ls)) × (events ≡ length (history_in ls))

-- one more line behind a header
pub covers_more : (keeps : List Violated → Type 0) (unit : TimeUnit) (events : ℕ) (ls : List (List ℕ)) (l : List ℕ) (said : Line) (n : ℕ) (c : Settings) → reading l ≡ Ok said → header_in reading (ls ++ l ∷ []) ≡ Some c → n ≡ length ls + 1
    → keeps (all_violated ls ++ violated_by n ls l said c (history_in (ls ++ l ∷ []))) → unit ≡ c.unit → events ≡ length (history_in (ls ++ l ∷ []))
    → CoversBy keeps unit events (ls ++ l ∷ [])
covers_more keeps unit events ls l said n c says headed count kept is_unit are_events =
    (subst keeps (violated_more ls l said n c says headed count) kept, is_unit ∙ sym (ap unit_of headed), are_events)

-- one more line, and no header yet
pub covers_headless : (keeps : List Violated → Type 0) (unit : TimeUnit) (events : ℕ) (ls : List (List ℕ)) (l : List ℕ) → header_in reading (ls ++ l ∷ []) ≡ None → history_in (ls ++ l ∷ []) ≡ []
    → CoversBy keeps unit events ls → CoversBy keeps unit events (ls ++ l ∷ [])
covers_headless keeps unit events ls l none nothing covers = (
  subst keeps (violated_no_more ls l none) covers.0,
  covers.1 ∙ (ap unit_of (headless_before ls l none) ∙ sym (ap unit_of none)),
  covers.2 ∙ (ap length (none_before ls l nothing) ∙ sym (ap length nothing)),
)

-- ---- what is listed

named_after-snoc : (before fs : List Finding) (f : Finding) → named_after before (fs ++ f ∷ []) ≡ named_after before fs ++ named_behind (before ++ fs) f
named_after-snoc before [] f = append-nil (named_behind before f) ∙ ap (λ gs. named_behind gs f) (sym (append-nil before))
named_after-snoc before (g ∷ fs) f =
    ap (λ gs. named_behind before g ++ gs) (named_after-snoc (before ++ g ∷ []) fs f)
    ∙ (ap (λ gs. named_behind before g ++ (named_after (before ++ g ∷ []) fs ++ named_behind gs f)) (append_assoc before (g ∷ []) fs)
    ∙ sym (append_assoc (named_behind before g) (named_after (before ++ g ∷ []) fs) (named_behind (before ++ g ∷ fs) f)))

pub named-snoc : (fs : List Finding) (f : Finding) → named (fs ++ f ∷ []) ≡ named fs ++ named_behind fs f
named-snoc fs f = named_after-snoc [] fs f

-- ---- the rows before the first violation

first_of_line : (xs : List Violation) (u : TimeUnit) (n : ℕ) (ls all : List (List ℕ)) (l : List ℕ) (e : Event) (more : List (List ℕ)) → objects ls ++ more ≡ objects all
    → kept_behind (map (violated u n ls l e) xs) (objects ls) more ≡ objects (lines_before (map (violated u n ls l e) xs) all)
first_of_line [] u n ls all l e more is = is
first_of_line (x ∷ xs) u n ls all l e more is = refl

-- one more line
pub before_more : (ds : List Violated) (n : ℕ) (ls all : List (List ℕ)) (l : List ℕ) (said : Line) (c : Settings) (h : List Event) (more : List (List ℕ)) → objects ls ++ more ≡ objects all
    → kept_behind (ds ++ violated_by n ls l said c h) (objects (lines_before ds ls)) more ≡ objects (lines_before (ds ++ violated_by n ls l said c h) all)
before_more [] n ls all l (line.Event e) c h more is = first_of_line (latest_of c h) c.unit n ls all l e more is
before_more [] n ls all l line.Blank c h more is = is
before_more [] n ls all l (line.Header s) c h more is = is
before_more (d ∷ ds) n ls all l said c h more is = refl

-- and one that has no row
pub before_no_more : (ds : List Violated) (ls all : List (List ℕ)) → objects ls ≡ objects all → objects (lines_before ds ls) ≡ objects (lines_before ds all)
before_no_more [] ls all is = is
before_no_more (d ∷ ds) ls all is = refl
