-- Good lines are a header and the events of a run.
use Rattle.std.proofs.Common.{◌≡◌, ◌∙◌, ◌+◌, ◌≤◌, ℕ, List, [], ◌∷◌, ◌++◌, length, Bool, true, false, Option, Some, None, Result, Ok, Err, refl, sym, ap, arith, append_assoc}
use Rattle.std.proofs.lemmas.List.{append-nil, map-append}
use Rattle.std.proofs.lemmas.List.Elements.{filter-append, filter_map-append}
use Rattle.std.specs.List.{filter}
use Rattle.std.specs.Option.{option_or}
use Rattle.std.specs.Prelude.{map, filter_map, option_map, unwrap_or, if◌then◌else◌}
use Rattle.qa_base.specs.declared.event.Event.{Event}
use Rattle.qa_format.specs.declared.line.Line.{Line}
use Rattle.qa_format.specs.declared.line.Line.TheVariants as line
use Rattle.qa_format.specs.declared.fault.Fault.{Fault}
use Rattle.qa_base.specs.declared.rule.Rule.{Rule}
use Rattle.qa_base.specs.declared.totals.Totals.{Totals}
use Rattle.qa_format.specs.declared.verdict.Verdict.{Verdict}
use Rattle.qa_format.specs.declared.verdict.Verdict.TheVariants.{Accepted, Refused}
use Rattle.qa_base.specs.machine.Packets.{Packet, history_of, is_some_packet}
use Rattle.qa_base.specs.machine.Rules.{first_broken, IsRun, IsComplete}
use Rattle.qa_base.specs.declared.rule.Rule.TheVariants.{OwedAtEnd}
use Rattle.qa_base.specs.machine.Loss.{owed}
use Rattle.qa_base.specs.values.Settings.{Settings}
use Rattle.qa_base.specs.machine.State.{totals}
use Rattle.qa_format.specs.verdicts.Verdict.{Reading, strict, header_said, event_said, header_in, events_in, said, stop_at, stop_after, first_stop, end_at, last_event_line, verdict_of, verdict, is_saying, sayings, trace_of, opening, IsRunBy, IsTraceOfRun}
use Rattle.qa_format.specs.format.Lines.{lines}
use Rattle.qa_base.proofs.machine.Histories.{history_of-snoc}
use Rattle.qa_format.proofs.verdicts.Stops.{or_parts, header_in-snoc, said_reading, good_are_few, good_are_short}

-- ---- a line more

abbrev pub AreRun : Reading → List (List ℕ) → Type 0
AreRun reading ls =
    IsRunBy (header_in reading ls) (events_in reading ls)
    × (sayings reading ls ≡ opening (header_in reading ls) (events_in reading ls))

none_broken : (n : ℕ) (t : Totals) (o : Option Rule) → option_map (λ r. Refused n r t) o ≡ None → o ≡ None
none_broken n t None h = refl
none_broken n t (Some r) h = cc

-- what a line says that is good goes on with the run
run_grows : (n : ℕ) (header : Option Settings) (events : List Event) (s : Result Line Fault) → stop_at first_broken n header (history_of events) s ≡ None → IsRunBy header events
    → IsRunBy (option_or header (header_said s)) (events ++ filter_map event_said (s ∷ []))
run_grows n header events (Err f) good run = cc
run_grows n None events (Ok line.Blank) good run = append-nil events ∙ run
run_grows n (Some c) events (Ok line.Blank) good run = rw append-nil run
run_grows n None events (Ok (line.Header c)) good run = rw (append-nil, run) tt
run_grows n (Some d) events (Ok (line.Header c)) good run = cc
run_grows n None events (Ok (line.Event e)) good run = cc
run_grows n (Some c) events (Ok (line.Event e)) good run =
    rw history_of-snoc (run, none_broken n (totals c (history_of events)) (first_broken c (history_of events) e) good)

-- and is all that it says
sayings_grow : (n : ℕ) (header : Option Settings) (events : List Event) (s : Result Line Fault) → stop_at first_broken n header (history_of events) s ≡ None → IsRunBy header events
    → opening header events ++ filter is_saying (s ∷ []) ≡ opening (option_or header (header_said s)) (events ++ filter_map event_said (s ∷ []))
sayings_grow n header events (Err f) good run = cc
sayings_grow n None events (Ok line.Blank) good run = refl
sayings_grow n (Some c) events (Ok line.Blank) good run = append-nil (trace_of c events) ∙ ap (trace_of c) (sym (append-nil events))
sayings_grow n None events (Ok (line.Header c)) good run = rw (append-nil, run) refl
sayings_grow n (Some d) events (Ok (line.Header c)) good run = cc
sayings_grow n None events (Ok (line.Event e)) good run = cc
sayings_grow n (Some c) events (Ok (line.Event e)) good run = rw map-append refl

-- a line that is good is read as it says
good_reading : (reading : Reading) (n : ℕ) (header : Option Settings) (h : List Event) (l : List ℕ) (s : Result Line Fault)
    → s ≡ said reading n l → stop_at first_broken (n + 1) header h s ≡ None → reading l ≡ s
good_reading reading n header h l (Err f) is good = cc
good_reading reading n header h l (Ok x) is good = said_reading reading n l (sym is)

sayings-snoc : (reading : Reading) (ls : List (List ℕ)) (l : List ℕ) → sayings reading (ls ++ l ∷ []) ≡ sayings reading ls ++ filter is_saying (reading l ∷ [])
sayings-snoc reading ls l = ap (filter is_saying) (map-append reading ls (l ∷ [])) ∙ filter-append is_saying (map reading ls) (reading l ∷ [])

line_more : (reading : Reading) (before : List (List ℕ)) (l : List ℕ) → stop_after (strict reading) before l ≡ None → AreRun reading before → AreRun reading (before ++ l ∷ [])
unfolding stop_after
line_more reading before l good run =
    let s = said reading (length before) l in
    let reads : reading l ≡ s = good_reading reading (length before) (header_in reading before) (history_of (events_in reading before)) l s refl good in
    let n = length before + 1 in
    let grown = run_grows n (header_in reading before) (events_in reading before) s good run.0 in
    let said_more = sayings_grow n (header_in reading before) (events_in reading before) s good run.0 in
    let events : events_in reading (before ++ l ∷ []) ≡ events_in reading before ++ filter_map event_said (s ∷ []) =
    filter_map-append (λ m. event_said (reading m)) before (l ∷ []) ∙ ap (λ r. events_in reading before ++ filter_map event_said (r ∷ [])) reads in
    let header : header_in reading (before ++ l ∷ []) ≡ option_or (header_in reading before) (header_said s) =
    header_in-snoc reading before l ∙ ap (λ r. option_or (header_in reading before) (header_said r)) reads in
    let says : sayings reading (before ++ l ∷ []) ≡ opening (header_in reading before) (events_in reading before) ++ filter is_saying (s ∷ []) =
    sayings-snoc reading before l ∙ ap (λ k. k ++ filter is_saying (reading l ∷ [])) run.1
    ∙ ap (λ r. opening (header_in reading before) (events_in reading before) ++ filter is_saying (r ∷ [])) reads in
    (rw (header, events) grown, rw (header, events) (says ∙ said_more))

-- ---- all lines

pub good_run : (reading : Reading) (before ls : List (List ℕ)) → first_stop (strict reading) before ls ≡ None → AreRun reading before → AreRun reading (before ++ ls)
good_run reading before [] good run = rw append-nil run
good_run reading before (l ∷ ls) good run =
    let parts = or_parts (stop_after (strict reading) before l) (first_stop (strict reading) (before ++ l ∷ []) ls) good in
    rw append_assoc at (good_run reading (before ++ l ∷ []) ls parts.1 (line_more reading before l parts.0 run))

-- ---- the verdict

not_refused : (o : Option Rule) (n : ℕ) (u t : Totals) → option_map (λ r. Refused n r u) o ≡ Some (Accepted t) → ⊥
not_refused None n u t is = cc
not_refused (Some r) n u t is = cc

stop_refuses : (n : ℕ) (header : Option Settings) (h : List Event) (s : Result Line Fault) (t : Totals) → stop_at first_broken n header h s ≡ Some (Accepted t) → ⊥
stop_refuses n header h (Err f) t is = cc
stop_refuses n header h (Ok line.Blank) t is = cc
stop_refuses n None h (Ok (line.Header c)) t is = cc
stop_refuses n (Some d) h (Ok (line.Header c)) t is = cc
stop_refuses n None h (Ok (line.Event e)) t is = cc
stop_refuses n (Some c) h (Ok (line.Event e)) t is = not_refused (first_broken c h e) n (totals c h) t is

neither : (o p : Option Verdict) (v : Verdict) → (o ≡ Some v → ⊥) → (p ≡ Some v → ⊥) → option_or o p ≡ Some v → ⊥
neither None p v never_o never_p is = never_p is
neither (Some w) p v never_o never_p is = never_o is

stop_after_refuses : (reading : Reading) (before : List (List ℕ)) (l : List ℕ) (t : Totals) → stop_after (strict reading) before l ≡ Some (Accepted t) → ⊥
unfolding stop_after
stop_after_refuses reading before l t is = stop_refuses _ _ _ _ t is

-- a line that is not good has no trace accepted
first_stop_refuses : (reading : Reading) (before ls : List (List ℕ)) (t : Totals) → first_stop (strict reading) before ls ≡ Some (Accepted t) → ⊥
first_stop_refuses reading before [] t is = cc
first_stop_refuses reading before (l ∷ ls) t is =
    neither (stop_after (strict reading) before l) (first_stop (strict reading) (before ++ l ∷ []) ls) (Accepted t)
    (stop_after_refuses reading before l t) (first_stop_refuses reading (before ++ l ∷ []) ls t) is

ends_accepted : (o : Option Verdict) (v : Verdict) (t : Totals) → (o ≡ Some (Accepted t) → ⊥) → unwrap_or o v ≡ Accepted t → (o ≡ None) × (v ≡ Accepted t)
ends_accepted None v t never is = (refl, is)
ends_accepted (Some w) v t never is = absurd (never (ap Some is))

pub no_packet : (ps : List Packet) → is_some_packet ps ≡ false → ps ≡ []
no_packet [] none = refl
no_packet (p ∷ ps) none = cc

complete_end : (some : Bool) (last : ℕ) (u t : Totals) → (if some then Refused last OwedAtEnd u else Accepted u) ≡ Accepted t → (some ≡ false) × (t ≡ u)
complete_end true last u t is = cc
complete_end false last u t is = (refl, cc)

ends_in_run : (n last : ℕ) (header : Option Settings) (events : List Event) (says : List (Result Line Fault)) (t : Totals)
    → end_at n last header (history_of events) ≡ Accepted t → IsRunBy header events → says ≡ opening header events
    → (c : Settings) × (events : List Event) × (says ≡ trace_of c events)
    × IsRun c (history_of events) × IsComplete c (history_of events) × (t ≡ totals c (history_of events))
ends_in_run n last None events says t is run so = cc
ends_in_run n last (Some c) events says t is run so =
    let ends = complete_end (is_some_packet (owed c (history_of events))) last (totals c (history_of events)) t is in
    (c, events, so, run, no_packet (owed c (history_of events)) ends.0, ends.1)

pub accepted_is_run : (reading : Reading) (bytes : List ℕ) (t : Totals) → verdict (strict reading) bytes ≡ Accepted t → IsTraceOfRun reading (lines bytes) t
unfolding verdict_of
accepted_is_run reading bytes t is =
    let ls = lines bytes in
    let ends = ends_accepted (first_stop (strict reading) [] ls) _ t (first_stop_refuses reading [] ls t) is in
    let run = good_run reading [] ls ends.0 (refl, refl) in
    let few : 0 + length ls ≤ 4294967295 = good_are_few (strict reading) [] ls ends.0 (omega arith) in
    let complete =
    ends_in_run (length ls + 1) (last_event_line reading ls) (header_in reading ls) (events_in reading ls) (sayings reading ls) t ends.1 run.0 run.1 in
    (omega (arith, few), good_are_short (strict reading) [] ls ends.0, complete.0, complete.1, complete.2, complete.3, complete.4, complete.5)
