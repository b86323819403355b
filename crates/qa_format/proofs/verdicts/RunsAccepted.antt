-- A header and the events of a complete run are accepted.
use Rattle.std.proofs.Common.{◌≡◌, ◌∙◌, ◌+◌, ◌<◌, ◌≤◌, ◌↔◌, ℕ, Bool, true, false, List, [], ◌∷◌, ◌++◌, length, Option, Some, None, Result, Ok, Err, ◌⊎◌, inl, inr, refl, sym, ap, arith, append_assoc, length-append}
use Rattle.std.proofs.lemmas.Bool.{lt-leb}
use Rattle.std.proofs.lemmas.List.Sums.{fold-append}
use Rattle.std.proofs.lemmas.List.Elements.{filter_map-append}
use Rattle.std.specs.List.{filter, fold, AllByRecursion}
use Rattle.std.specs.Option.{option_or}
use Rattle.std.specs.Prelude.{map, filter_map, if◌then◌else◌}
use Rattle.qa_base.specs.declared.event.Event.{Event}
use Rattle.qa_format.specs.declared.line.Line.{Line}
use Rattle.qa_format.specs.declared.line.Line.TheVariants as line
use Rattle.qa_format.specs.declared.fault.Fault.{Fault}
use Rattle.qa_base.specs.declared.totals.Totals.{Totals}
use Rattle.qa_format.specs.declared.verdict.Verdict.TheVariants.{Accepted, Refused}
use Rattle.qa_base.specs.declared.rule.Rule.TheVariants.{OwedAtEnd}
use Rattle.qa_base.specs.values.Limits.{max_lines}
use Rattle.qa_format.specs.format.Lines.{line_limit, lines}
use Rattle.qa_base.specs.machine.Loss.{owed}
use Rattle.qa_base.specs.machine.Packets.{history_of, is_some_packet}
use Rattle.qa_base.specs.machine.Rules.{first_broken, IsRun}
use Rattle.qa_base.specs.values.Settings.{Settings}
use Rattle.qa_base.specs.machine.State.{totals}
use Rattle.qa_format.specs.verdicts.Verdict.{Reading, strict, header_said, event_said, header_in, events_in, said, stop_at, stop_after, first_stop, last_event_line, verdict_of, verdict, is_saying, sayings, event_line, trace_of, opening, IsWithinLimit, IsTraceOfRun}
use Rattle.qa_format.proofs.verdicts.Accepted.{good_run, accepted_is_run}
use Rattle.qa_base.proofs.machine.Histories.{history_of-snoc}
use Rattle.qa_base.proofs.machine.RunLaws.{prefix_of_run}
use Rattle.qa_format.proofs.verdicts.Stops.{header_in-snoc}

-- ---- one line

-- a line within the limits says what it is read as
pub read_as_said : (reading : Reading) (n : ℕ) (l : List ℕ) → n < max_lines → length l ≤ line_limit → said reading n l ≡ reading l
unfolding said
read_as_said reading n l few short =
    rw (lt-leb 4294967295 n few) (rw (lt-leb 65537 (length l) (omega arith)) refl)

-- ---- events behind a history

onto : (h events : List Event) → fold (λ (h : List Event) e. e ∷ h) h events ≡ history_of events ++ h
onto h [] = refl
onto h (e ∷ events) = onto (e ∷ h) events ∙ (sym (append_assoc (history_of events) (e ∷ []) h) ∙ ap (λ k. k ++ h) (sym (onto (e ∷ []) events)))

history_of-append : (events more : List Event) → history_of (events ++ more) ≡ history_of more ++ history_of events
history_of-append events more = fold-append (λ h e. e ∷ h) [] events more ∙ onto (history_of events) more

-- the event that comes next in a run breaks no rule
next_of_run : (c : Settings) (before after : List Event) (e : Event) → IsRun c (history_of (before ++ e ∷ after)) → first_broken c (history_of before) e ≡ None
next_of_run c before after e run =
    let is : history_of (before ++ e ∷ after) ≡ history_of after ++ (e ∷ history_of before) =
    ap history_of (sym (append_assoc before (e ∷ []) after)) ∙ (history_of-append (before ++ e ∷ []) after ∙ ap (λ k. history_of after ++ k) (history_of-snoc before e)) in
    (prefix_of_run c (history_of after) (e ∷ history_of before) (rw (sym is) run)).1

-- ---- what a line says, where the lines from it on say these events

-- it is good, and the lines behind it say the events that it does not
abbrev GoesOn : ℕ → Settings → List Event → List Event → Result Line Fault → List (Result Line Fault) → Type 0
GoesOn n c before events s rest =
    (stop_at first_broken n (Some c) (history_of before) s ≡ None)
    × (more : List Event) × (filter is_saying rest ≡ map event_line more) × (events ≡ filter_map event_said (s ∷ []) ++ more)

goes_on : (n : ℕ) (c : Settings) (before events : List Event) (s : Result Line Fault) (rest : List (Result Line Fault))
    → filter is_saying (s ∷ rest) ≡ map event_line events → IsRun c (history_of (before ++ events)) → GoesOn n c before events s rest
goes_on n c before [] (Err f) rest says run = cc
goes_on n c before (e ∷ events) (Err f) rest says run = cc
goes_on n c before events (Ok line.Blank) rest says run = (refl, events, says, refl)
goes_on n c before [] (Ok (line.Header d)) rest says run = cc
goes_on n c before (e ∷ events) (Ok (line.Header d)) rest says run = cc
goes_on n c before [] (Ok (line.Event e)) rest says run = cc
goes_on n c before (f ∷ events) (Ok (line.Event e)) rest says run =
    let same : f ≡ e = cc in
    (rw (sym same) (rw (next_of_run c before events f run) refl), events, cc, ap (λ g. g ∷ events) same)

-- ---- what a line says, where the lines from it on say a trace

-- it is blank, or it is the header
abbrev Begins : Settings → List Event → Result Line Fault → List (Result Line Fault) → Type 0
Begins c events s rest =
    ((s ≡ Ok line.Blank) × (filter is_saying rest ≡ trace_of c events))
    ⊎ ((s ≡ Ok (line.Header c)) × (filter is_saying rest ≡ map event_line events))

begins : (c : Settings) (events : List Event) (s : Result Line Fault) (rest : List (Result Line Fault))
    → filter is_saying (s ∷ rest) ≡ trace_of c events → Begins c events s rest
begins c events (Err f) rest says = cc
begins c events (Ok line.Blank) rest says = inl (refl, says)
begins c events (Ok (line.Header d)) rest says = inr (cc, cc)
begins c events (Ok (line.Event e)) rest says = cc

-- ---- all lines

pub events_in-snoc : (reading : Reading) (ls : List (List ℕ)) (l : List ℕ) → events_in reading (ls ++ l ∷ []) ≡ events_in reading ls ++ filter_map event_said (reading l ∷ [])
events_in-snoc reading ls l = filter_map-append (λ m. event_said (reading m)) ls (l ∷ [])

pub stop_of_reading : (reading : Reading) (before : List (List ℕ)) (l : List ℕ) (header : Option Settings) (events : List Event) (s : Result Line Fault)
    → length before < max_lines → length l ≤ line_limit → header_in reading before ≡ header → events_in reading before ≡ events → reading l ≡ s
    → stop_after (strict reading) before l ≡ stop_at first_broken (length before + 1) header (history_of events) s
unfolding stop_after
stop_of_reading reading before l header events s few short is_header are_events is =
    let says : said reading (length before) l ≡ s = read_as_said reading (length before) l few short ∙ is in
    rw (is_header, are_events, says) refl

pub longer : (before : List (List ℕ)) (l : List ℕ) (ls : List (List ℕ)) → length before + length (l ∷ ls) ≤ max_lines → length (before ++ l ∷ []) + length ls ≤ max_lines
longer before l ls few = let more : length (before ++ l ∷ []) ≡ length before + 1 = length-append before (l ∷ []) in omega arith

-- behind a header
no_stop : (reading : Reading) (before ls : List (List ℕ)) (c : Settings) (events : List Event) → header_in reading before ≡ Some c
    → sayings reading ls ≡ map event_line events → IsRun c (history_of (events_in reading before ++ events))
    → length before + length ls ≤ max_lines → AllByRecursion IsWithinLimit ls → first_stop (strict reading) before ls ≡ None
no_stop reading before [] c events header says run few short = refl
no_stop reading before (l ∷ ls) c events header says run few short =
    let step = goes_on (length before + 1) c (events_in reading before) events (reading l) (map reading ls) says run in
    let stop : stop_after (strict reading) before l ≡ None =
    stop_of_reading reading before l (Some c) (events_in reading before) (reading l) (omega arith) short.0 header refl refl ∙ step.0 in
    let header_after : header_in reading (before ++ l ∷ []) ≡ Some c = header_in-snoc reading before l ∙ ap (λ o. option_or o (header_said (reading l))) header in
    let same : events_in reading before ++ events ≡ events_in reading (before ++ l ∷ []) ++ step.1 =
    ap (λ k. events_in reading before ++ k) step.3
    ∙ (sym (append_assoc (events_in reading before) (filter_map event_said (reading l ∷ [])) step.1) ∙ ap (λ k. k ++ step.1) (sym (events_in-snoc reading before l))) in
    rw stop (no_stop reading (before ++ l ∷ []) ls c step.1 header_after step.2 (rw (sym same) run) (longer before l ls few) short.1)

-- where no header came yet
pub no_stop_yet : (reading : Reading) (before ls : List (List ℕ)) (c : Settings) (events : List Event) → header_in reading before ≡ None → events_in reading before ≡ []
    → sayings reading ls ≡ trace_of c events → IsRun c (history_of events)
    → length before + length ls ≤ max_lines → AllByRecursion IsWithinLimit ls → first_stop (strict reading) before ls ≡ None
no_stop_yet reading before [] c events no_header no_events says run few short = refl
no_stop_yet reading before (l ∷ ls) c events no_header no_events says run few short =
    split (begins c events (reading l) (map reading ls) says)
    (λ header_after events_after rest. no_stop_yet reading (before ++ l ∷ []) ls c events header_after events_after rest run (longer before l ls few) short.1)
  where
    split : Begins c events (reading l) (map reading ls)
        → (header_in reading (before ++ l ∷ []) ≡ None → events_in reading (before ++ l ∷ []) ≡ [] → sayings reading ls ≡ trace_of c events → first_stop (strict reading) (before ++ l ∷ []) ls ≡ None)
        → first_stop (strict reading) before (l ∷ ls) ≡ None
    split (inl (blank, rest)) further =
        let stop : stop_after (strict reading) before l ≡ None = stop_of_reading reading before l None [] (Ok line.Blank) (omega arith) short.0 no_header no_events blank in
        let header_after : header_in reading (before ++ l ∷ []) ≡ None = header_in-snoc reading before l ∙ rw (no_header, blank) refl in
        let events_after : events_in reading (before ++ l ∷ []) ≡ [] = events_in-snoc reading before l ∙ rw (no_events, blank) refl in
        rw stop (further header_after events_after rest)
    split (inr (header, rest)) further =
        let stop : stop_after (strict reading) before l ≡ None = stop_of_reading reading before l None [] (Ok (line.Header c)) (omega arith) short.0 no_header no_events header in
        let header_after : header_in reading (before ++ l ∷ []) ≡ Some c = header_in-snoc reading before l ∙ rw (no_header, header) refl in
        let events_after : events_in reading (before ++ l ∷ []) ≡ [] = events_in-snoc reading before l ∙ rw (no_events, header) refl in
        rw stop (no_stop reading (before ++ l ∷ []) ls c events header_after rest (rw events_after run) (longer before l ls few) short.1)

-- ---- the verdict

pub events_of_lines : (events others : List Event) → map event_line events ≡ map event_line others → events ≡ others
events_of_lines [] [] same = refl
events_of_lines [] (f ∷ others) same = cc
events_of_lines (e ∷ events) [] same = cc
events_of_lines (e ∷ events) (f ∷ others) same =
    let first : e ≡ f = cc in
    let rest : events ≡ others = events_of_lines events others cc in
    rw (first, rest) refl

pub known_trace : (header : Option Settings) (events : List Event) (c : Settings) (others : List Event) → opening header events ≡ trace_of c others → (header ≡ Some c) × (events ≡ others)
known_trace None events c others same = cc
known_trace (Some d) events c others same = (cc, events_of_lines events others cc)

nothing_owed : (some : Bool) (last : ℕ) (u : Totals) → some ≡ false → (if some then Refused last OwedAtEnd u else Accepted u) ≡ Accepted u
nothing_owed true last u none = cc
nothing_owed false last u none = refl

run_is_accepted : (reading : Reading) (bytes : List ℕ) (t : Totals) → IsTraceOfRun reading (lines bytes) t → verdict (strict reading) bytes ≡ Accepted t
unfolding verdict_of
run_is_accepted reading bytes t (few, short, c, events, says, run, complete, is) =
    let ls = lines bytes in
    let h = history_of events in
    let within : 0 + length ls ≤ 4294967295 = omega (arith, few) in
    let good : first_stop (strict reading) [] ls ≡ None = no_stop_yet reading [] ls c events refl refl says run within short in
    let so = (good_run reading [] ls good (refl, refl)).1 in
    let known = known_trace (header_in reading ls) (events_in reading ls) c events (sym so ∙ says) in
    rw good (rw (known.0, known.1) (nothing_owed (is_some_packet (owed c h)) (last_event_line reading ls) (totals c h) (ap is_some_packet complete) ∙ ap Accepted (sym is)))

pub accepted_exactly_runs : (reading : Reading) (bytes : List ℕ) (t : Totals) → (verdict (strict reading) bytes ≡ Accepted t) ↔ IsTraceOfRun reading (lines bytes) t
accepted_exactly_runs reading bytes t = (accepted_is_run reading bytes t, run_is_accepted reading bytes t)
