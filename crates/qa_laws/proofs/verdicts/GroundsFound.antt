-- On what grounds verdicts stand, and that the grounds give them.
use Rattle.std.proofs.Common.{◌≡◌, ◌∙◌, ◌+◌, ◌<◌, ◌≤◌, ◌↔◌, ℕ, Bool, true, false, cond, List, [], ◌∷◌, ◌++◌, length, Option, Some, None, unwrap_or, Result, Ok, Err, ◌⊎◌, inl, inr, refl, sym, ap, arith, append_assoc, length-append, subst}
use Rattle.std.proofs.lemmas.Bool.{leb-true, leb-false, le-leb, lt-leb, lt-ltb, ltb-true, ltb-false}
use Rattle.std.proofs.lemmas.List.{append-nil}
use Rattle.std.proofs.lemmas.List.Elements.{filter_map-append}
use Rattle.std.specs.List.{filter, AllByRecursion}
use Rattle.std.specs.Option.{option_or}
use Rattle.std.specs.Prelude.{map, filter_map, option_map, nat_le, nat_lt, if◌then◌else◌, is_some}
use Rattle.qa_base.specs.declared.event.Event.{Event}
use Rattle.qa_base.specs.declared.event.Event.TheVariants.{Metrics}
use Rattle.qa_format.specs.declared.fault.Fault.{Fault}
use Rattle.qa_format.specs.declared.fault.Fault.TheVariants.{HeaderPlace, LineTooLong, TooManyLines}
use Rattle.qa_format.specs.declared.line.Line.{Line}
use Rattle.qa_format.specs.declared.line.Line.TheVariants as line
use Rattle.qa_base.specs.declared.rule.Rule.{Rule}
use Rattle.qa_base.specs.declared.rule.Rule.TheVariants.{CollapseMissing, OwedAtEnd, TimerLate}
use Rattle.qa_base.specs.declared.totals.Totals.{Totals}
use Rattle.qa_format.specs.declared.verdict.Verdict.{Verdict}
use Rattle.qa_format.specs.declared.verdict.Verdict.TheVariants.{Accepted, Refused, Unreadable}
use Rattle.qa_laws.specs.verdicts.Grounds.{AreGoodLines, BreaksAt, IsOutOfPlace, HasFault, FailsAt, OwesAtEnd, SaysNothing, IsGround}
use Rattle.qa_base.specs.values.Limits.{max_lines}
use Rattle.qa_format.specs.format.Lines.{line_limit, lines}
use Rattle.qa_base.specs.machine.Loss.{owed}
use Rattle.qa_base.specs.machine.Packets.{Packet, history_of, is_some_packet}
use Rattle.qa_base.specs.machine.Breaches.{is_collapse_missing, is_timer_late}
use Rattle.qa_base.specs.machine.Metrics.{metric_tests}
use Rattle.qa_base.specs.machine.Rules.{broken, first_of, first_broken}
use Rattle.qa_base.specs.values.Settings.{Settings}
use Rattle.qa_base.specs.machine.State.{totals}
use Rattle.qa_format.specs.verdicts.Verdict.{strict, Reading, IsWithinLimit, AreGood, event_said, header_in, events_in, said, stop_at, stop_after, first_stop, line_behind, last_event_line, end_at, end_of, verdict_of, verdict, is_saying, sayings, event_line, opening, IsRunBy}
use Rattle.qa_format.proofs.verdicts.Accepted.{good_run}
use Rattle.qa_format.proofs.verdicts.Fixed.{long_verdict}
use Rattle.qa_format.proofs.verdicts.RunsAccepted.{read_as_said, events_in-snoc, stop_of_reading, longer, no_stop_yet, events_of_lines, accepted_exactly_runs}
use Rattle.qa_format.proofs.verdicts.Stops.{header_in-snoc, good_are_few, good_are_short, first_stop-snoc, first_stop-append}

-- ---- good lines, by what they say and by the first that is not

pub good_lines : (reading : Reading) (ls : List (List ℕ)) → AreGood (strict reading) ls → AreGoodLines reading ls (header_in reading ls) (events_in reading ls)
good_lines reading ls good =
    let run = good_run reading [] ls good (refl, refl) in
    let few : 0 + length ls ≤ 4294967295 = good_are_few (strict reading) [] ls good (omega arith) in
    record { few = omega (arith, few); short = good_are_short (strict reading) [] ls good; says = run.1; run = run.0 }

blank_first : (s : Result Line Fault) (rest : List (Result Line Fault)) → filter is_saying (s ∷ rest) ≡ [] → (s ≡ Ok line.Blank) × (filter is_saying rest ≡ [])
blank_first (Err f) rest none = cc
blank_first (Ok line.Blank) rest none = (refl, none)
blank_first (Ok (line.Header c)) rest none = cc
blank_first (Ok (line.Event e)) rest none = cc

no_stop_in_blank : (reading : Reading) (before ls : List (List ℕ)) → header_in reading before ≡ None → events_in reading before ≡ []
    → sayings reading ls ≡ [] → length before + length ls ≤ max_lines → AllByRecursion IsWithinLimit ls → first_stop (strict reading) before ls ≡ None
no_stop_in_blank reading before [] no_header no_events none few short = refl
no_stop_in_blank reading before (l ∷ ls) no_header no_events none few short =
    let blank = blank_first (reading l) (map reading ls) none in
    let stop : stop_after (strict reading) before l ≡ None = stop_of_reading reading before l None [] (Ok line.Blank) (omega arith) short.0 no_header no_events blank.0 in
    let header_after : header_in reading (before ++ l ∷ []) ≡ None = header_in-snoc reading before l ∙ rw (no_header, blank.0) refl in
    let events_after : events_in reading (before ++ l ∷ []) ≡ [] = events_in-snoc reading before l ∙ rw (no_events, blank.0) refl in
    rw stop (no_stop_in_blank reading (before ++ l ∷ []) ls header_after events_after blank.1 (longer before l ls few) short.1)

pub are_good : (reading : Reading) (ls : List (List ℕ)) (header : Option Settings) (events : List Event) → AreGoodLines reading ls header events → AreGood (strict reading) ls
are_good reading ls None events good =
    no_stop_in_blank reading [] ls refl refl good.says (omega (arith, good.few)) good.short
are_good reading ls (Some c) events good =
    no_stop_yet reading [] ls c events refl refl good.says good.run (omega (arith, good.few)) good.short

known_opening : (header other : Option Settings) (events others : List Event) → opening header events ≡ opening other others → IsRunBy header events → IsRunBy other others
    → (header ≡ other) × (events ≡ others)
known_opening None None events others same run there = (refl, run ∙ sym there)
known_opening None (Some d) events others same run there = cc
known_opening (Some c) None events others same run there = cc
known_opening (Some c) (Some d) events others same run there = (cc, events_of_lines events others cc)

pub are_known : (reading : Reading) (ls : List (List ℕ)) (header : Option Settings) (events : List Event) → AreGoodLines reading ls header events
    → (header_in reading ls ≡ header) × (events_in reading ls ≡ events)
are_known reading ls header events good =
    let own = good_lines reading ls (are_good reading ls header events good) in
    known_opening (header_in reading ls) header (events_in reading ls) events (sym own.says ∙ good.says) own.run good.run

-- ---- the first line that is not good

-- the line at which these lines stop, which come behind others
abbrev StopsIn : Reading → List (List ℕ) → List (List ℕ) → Verdict → Type 0
StopsIn reading front ls v =
    (before : List (List ℕ)) × (l : List ℕ) × (behind : List (List ℕ)) × (ls ≡ before ++ l ∷ behind)
    × (first_stop (strict reading) front before ≡ None) × (stop_after (strict reading) (front ++ before) l ≡ Some v)

here_or_later : (reading : Reading) (front : List (List ℕ)) (l : List ℕ) (ls : List (List ℕ)) (v : Verdict) (o : Option Verdict) → stop_after (strict reading) front l ≡ o
    → option_or o (first_stop (strict reading) (front ++ l ∷ []) ls) ≡ Some v
    → (first_stop (strict reading) (front ++ l ∷ []) ls ≡ Some v → StopsIn reading (front ++ l ∷ []) ls v) → StopsIn reading front (l ∷ ls) v
here_or_later reading front l ls v None none is further =
    let found = further is in
    (l ∷ found.0, found.1, found.2, ap (λ k. l ∷ k) found.3, rw none found.4, rw append_assoc at found.5)
here_or_later reading front l ls v (Some w) some is further = ([], l, ls, refl, refl, rw append-nil (some ∙ is))

stops_in : (reading : Reading) (front ls : List (List ℕ)) (v : Verdict) → first_stop (strict reading) front ls ≡ Some v → StopsIn reading front ls v
stops_in reading front [] v is = cc
stops_in reading front (l ∷ ls) v is =
    here_or_later reading front l ls v (stop_after (strict reading) front l) refl is (λ rest. stops_in reading (front ++ l ∷ []) ls v rest)

-- ---- what a line says within the limits

said_cases : (many long : Bool) (r s : Result Line Fault) → cond many (Err TooManyLines) (cond long (Err LineTooLong) r) ≡ s
    → ((many ≡ true) × (s ≡ Err TooManyLines)) ⊎ (((many ≡ false) × (long ≡ true) × (s ≡ Err LineTooLong)) ⊎ ((many ≡ false) × (long ≡ false) × (r ≡ s)))
said_cases true long r s is = inl (refl, sym is)
said_cases false true r s is = inr (inl (refl, refl, sym is))
said_cases false false r s is = inr (inr (refl, refl, is))

-- one line too many, one too long, or a line within the limits that is read so
abbrev IsSaid : Reading → ℕ → List ℕ → Result Line Fault → Type 0
IsSaid reading n l s =
    ((max_lines < n + 1) × (s ≡ Err TooManyLines))
    ⊎ (((n + 1 ≤ max_lines) × (line_limit < length l) × (s ≡ Err LineTooLong)) ⊎ ((n + 1 ≤ max_lines) × IsWithinLimit l × (reading l ≡ s)))

is_said : (reading : Reading) (n : ℕ) (l : List ℕ) (s : Result Line Fault) → said reading n l ≡ s → IsSaid reading n l s
unfolding said
is_said reading n l s is = elim (said_cases (nat_le 4294967295 n) (nat_lt 65536 (length l)) (reading l) s is) [
  | inl (many, fault) ↦ (let past = leb-true 4294967295 n many in inl ((omega (arith, past)), fault))
  | inr (inl (few, long, fault)) ↦ (
      let below = leb-false 4294967295 n few in
      let past = ltb-true 65536 (length l) long in
      inr (inl ((omega (arith, below)), past, fault)))
  | inr (inr (few, short, reads)) ↦ (
      let below = leb-false 4294967295 n few in
      let within = ltb-false 65536 (length l) short in
      inr (inr ((omega (arith, below)), within, reads)))
]

-- and back
says_so : (reading : Reading) (n : ℕ) (l : List ℕ) (s : Result Line Fault) → IsSaid reading n l s → said reading n l ≡ s
unfolding said
says_so reading n l s (inl (past, fault)) = rw (le-leb 4294967295 n (omega (arith, past)), fault) refl
says_so reading n l s (inr (inl (few, long, fault))) = rw (lt-leb 4294967295 n (omega (arith, few)), lt-ltb 65536 (length l) long, fault) refl
says_so reading n l s (inr (inr (few, short, reads))) = read_as_said reading n l (omega (arith, few)) short ∙ reads

-- ---- why a line stops

refused_from : (o : Option Rule) (n m : ℕ) (r : Rule) (u t : Totals) → option_map (λ r. Refused n r u) o ≡ Some (Refused m r t) → (o ≡ Some r) × (m ≡ n) × (t ≡ u)
refused_from None n m r u t is = cc
refused_from (Some q) n m r u t is = (cc, cc, cc)

not_unreadable : (o : Option Rule) (n m : ℕ) (f : Fault) (u : Totals) (t : Option Totals) → option_map (λ r. Refused n r u) o ≡ Some (Unreadable m f t) → ⊥
not_unreadable None n m f u t is = cc
not_unreadable (Some q) n m f u t is = cc

-- the line says an event that breaks this rule first
abbrev Refuses : ℕ → Option Settings → List Event → Result Line Fault → ℕ → Rule → Totals → Type 0
Refuses n header h s m r t =
    (c : Settings) × (e : Event) × (header ≡ Some c) × (s ≡ event_line e) × (first_broken c h e ≡ Some r) × (m ≡ n) × (t ≡ totals c h)

stop_refuses : (n : ℕ) (header : Option Settings) (h : List Event) (s : Result Line Fault) (m : ℕ) (r : Rule) (t : Totals)
    → stop_at first_broken n header h s ≡ Some (Refused m r t) → Refuses n header h s m r t
stop_refuses n header h (Err f) m r t is = cc
stop_refuses n header h (Ok line.Blank) m r t is = cc
stop_refuses n None h (Ok (line.Header c)) m r t is = cc
stop_refuses n (Some d) h (Ok (line.Header c)) m r t is = cc
stop_refuses n None h (Ok (line.Event e)) m r t is = cc
stop_refuses n (Some c) h (Ok (line.Event e)) m r t is =
    let parts = refused_from (first_broken c h e) n m r (totals c h) t is in (c, e, refl, refl, parts.0, parts.1, parts.2)

abbrev held_by : Option Settings → List Event → Option Totals
held_by header h = option_map (λ c. totals c h) header

-- the line says this fault, or is out of place
abbrev Fails : ℕ → Option Settings → List Event → Result Line Fault → ℕ → Fault → Option Totals → Type 0
Fails n header h s m f t = ((s ≡ Err f) ⊎ (IsOutOfPlace header s × (f ≡ HeaderPlace))) × (m ≡ n) × (t ≡ held_by header h)

stop_fails : (n : ℕ) (header : Option Settings) (h : List Event) (s : Result Line Fault) (m : ℕ) (f : Fault) (t : Option Totals)
    → stop_at first_broken n header h s ≡ Some (Unreadable m f t) → Fails n header h s m f t
stop_fails n header h (Err g) m f t is = (inl cc, cc, cc)
stop_fails n header h (Ok line.Blank) m f t is = cc
stop_fails n None h (Ok (line.Header c)) m f t is = cc
stop_fails n (Some d) h (Ok (line.Header c)) m f t is = (inr ((c, refl), cc), cc, cc)
stop_fails n None h (Ok (line.Event e)) m f t is = (inr ((e, refl), cc), cc, cc)
stop_fails n (Some c) h (Ok (line.Event e)) m f t is = absurd (not_unreadable (first_broken c h e) n m f (totals c h) t is)

out_of_place_stops : (n : ℕ) (header : Option Settings) (h : List Event) (s : Result Line Fault) → IsOutOfPlace header s
    → stop_at first_broken n header h s ≡ Some (Unreadable n HeaderPlace (held_by header h))
out_of_place_stops n None h s (e, is) = rw is refl
out_of_place_stops n (Some d) h s (c, is) = rw is refl

-- what is said of a line within the limits is no fault of the limits
read_within : (reading : Reading) (n : ℕ) (l : List ℕ) (x : Line) → IsSaid reading n l (Ok x) → (n + 1 ≤ max_lines) × IsWithinLimit l × (reading l ≡ Ok x)
read_within reading n l x (inl (past, fault)) = cc
read_within reading n l x (inr (inl (few, long, fault))) = cc
read_within reading n l x (inr (inr within)) = within

event_within : (reading : Reading) (n : ℕ) (l : List ℕ) (e : Event) (s : Result Line Fault) → said reading n l ≡ s → s ≡ event_line e
    → (n + 1 ≤ max_lines) × IsWithinLimit l × (reading l ≡ event_line e)
event_within reading n l e s is says = read_within reading n l (line.Event e) (is_said reading n l (event_line e) (is ∙ says))

pub fault_of : (reading : Reading) (n : ℕ) (header : Option Settings) (l : List ℕ) (f : Fault) → IsSaid reading n l (Err f) → HasFault reading (n + 1) header l f
fault_of reading n header l f (inl (past, fault)) = inl (past, cc)
fault_of reading n header l f (inr (inl (few, long, fault))) = inr (inl (few, long, cc))
fault_of reading n header l f (inr (inr within)) = inr (inr (inl within))

misplaced : (reading : Reading) (n : ℕ) (header : Option Settings) (l : List ℕ) (s : Result Line Fault) → said reading n l ≡ s → IsOutOfPlace header s
    → (n + 1 ≤ max_lines) × IsWithinLimit l × IsOutOfPlace header (reading l)
misplaced reading n None l s is (e, says) =
    let within = read_within reading n l (line.Event e) (is_said reading n l (event_line e) (is ∙ says)) in (within.0, within.1, (e, within.2))
misplaced reading n (Some d) l s is (c, says) =
    let within = read_within reading n l (line.Header c) (is_said reading n l (Ok (line.Header c)) (is ∙ says)) in (within.0, within.1, (c, within.2))

-- ---- refused at an event

refused_at : (reading : Reading) (ls : List (List ℕ)) (n : ℕ) (r : Rule) (t : Totals) → first_stop (strict reading) [] ls ≡ Some (Refused n r t) → BreaksAt reading ls n r t
unfolding stop_after
refused_at reading ls n r t is =
    let found = stops_in reading [] ls (Refused n r t) is in
    let before = found.0 in
    let s = said reading (length before) found.1 in
    let good = good_lines reading before found.4 in
    let why = stop_refuses (length before + 1) (header_in reading before) (history_of (events_in reading before)) s n r t found.5 in
    let within = event_within reading (length before) found.1 why.1 s refl why.3 in
    let good_too : AreGoodLines reading before (Some why.0) (events_in reading before) = rw (← why.2) good in
    record {
      before = before;
      here = found.1;
      behind = found.2;
      header = why.0;
      events = events_in reading before;
      event = why.1;
      stands = found.3;
      number = why.5;
      good = good_too;
      in_limits = (omega (arith, why.5, within.0), within.1);
      says = within.2;
      breaks = why.4;
      held = why.6;
    }

stop_of_break : (n : ℕ) (c : Settings) (h : List Event) (e : Event) (r : Rule) → first_broken c h e ≡ Some r → stop_at first_broken n (Some c) h (event_line e) ≡ Some (Refused n r (totals c h))
stop_of_break n c h e r breaks = rw breaks refl

break_refused : (reading : Reading) (ls : List (List ℕ)) (n : ℕ) (r : Rule) (t : Totals) → BreaksAt reading ls n r t → verdict_of (strict reading) ls ≡ Refused n r t
break_refused reading ls n r t b =
    let known = are_known reading b.before (Some b.header) b.events b.good in
    let good = are_good reading b.before (Some b.header) b.events b.good in
    let stop : stop_after (strict reading) b.before b.here ≡ Some (Refused (length b.before + 1) r (totals b.header (history_of b.events))) =
    stop_of_reading reading b.before b.here (Some b.header) b.events (event_line b.event) (omega (arith, b.number, b.in_limits.0)) b.in_limits.1 known.0 known.1 b.says
    ∙ stop_of_break (length b.before + 1) b.header (history_of b.events) b.event r b.breaks in
    ap (verdict_of (strict reading)) b.stands
    ∙ (long_verdict (strict reading) b.before b.behind b.here (Refused (length b.before + 1) r (totals b.header (history_of b.events))) good stop
    ∙ rw (b.number, b.held) refl)

-- ---- a line that cannot be read

unreadable_at : (reading : Reading) (ls : List (List ℕ)) (n : ℕ) (f : Fault) (t : Option Totals) → first_stop (strict reading) [] ls ≡ Some (Unreadable n f t) → FailsAt reading ls n f t
unfolding stop_after
unreadable_at reading ls n f t is =
    let found = stops_in reading [] ls (Unreadable n f t) is in
    let before = found.0 in
    let s = said reading (length before) found.1 in
    let header = header_in reading before in
    let good = good_lines reading before found.4 in
    let why = stop_fails (length before + 1) header (history_of (events_in reading before)) s n f t found.5 in
    let fails : HasFault reading (length before + 1) header found.1 f = elim why.0 [
      | inl fault ↦ fault_of reading (length before) header found.1 f (is_said reading (length before) found.1 (Err f) fault)
      | inr (place, is_place) ↦ (let within = misplaced reading (length before) header found.1 s refl place in
          inr (inr (inr (within.0, within.1, within.2, is_place))))
    ] in
    record {
      before = before;
      here = found.1;
      behind = found.2;
      header = header;
      events = events_in reading before;
      stands = found.3;
      number = why.1;
      good = good;
      fails = subst (λ (k : ℕ). HasFault reading k header found.1 f) (sym why.1) fails;
      held = why.2;
    }

stop_of_fault : (reading : Reading) (before : List (List ℕ)) (l : List ℕ) (header : Option Settings) (events : List Event) (f : Fault)
    → header_in reading before ≡ header → events_in reading before ≡ events → said reading (length before) l ≡ Err f
    → stop_after (strict reading) before l ≡ Some (Unreadable (length before + 1) f (held_by header (history_of events)))
unfolding stop_after
stop_of_fault reading before l header events f is_header are_events says = rw (is_header, are_events, says) refl

stop_of_failing : (reading : Reading) (before : List (List ℕ)) (l : List ℕ) (header : Option Settings) (events : List Event) (f : Fault)
    → header_in reading before ≡ header → events_in reading before ≡ events → HasFault reading (length before + 1) header l f
    → stop_after (strict reading) before l ≡ Some (Unreadable (length before + 1) f (held_by header (history_of events)))
stop_of_failing reading before l header events f is_header are_events (inl (past, fault)) =
    stop_of_fault reading before l header events f is_header are_events (says_so reading (length before) l (Err f) (inl (past, ap Err fault)))
stop_of_failing reading before l header events f is_header are_events (inr (inl (few, long, fault))) =
    stop_of_fault reading before l header events f is_header are_events (says_so reading (length before) l (Err f) (inr (inl (few, long, ap Err fault))))
stop_of_failing reading before l header events f is_header are_events (inr (inr (inl within))) =
    stop_of_fault reading before l header events f is_header are_events (says_so reading (length before) l (Err f) (inr (inr within)))
stop_of_failing reading before l header events f is_header are_events (inr (inr (inr (few, short, place, fault)))) =
    stop_of_reading reading before l header events (reading l) (omega (arith, few)) short is_header are_events refl
    ∙ (out_of_place_stops (length before + 1) header (history_of events) (reading l) place
    ∙ ap (λ (g : Fault). Some (Unreadable (length before + 1) g (held_by header (history_of events)))) (sym fault))

fault_unreadable : (reading : Reading) (ls : List (List ℕ)) (n : ℕ) (f : Fault) (t : Option Totals) → FailsAt reading ls n f t → verdict_of (strict reading) ls ≡ Unreadable n f t
fault_unreadable reading ls n f t b =
    let known = are_known reading b.before b.header b.events b.good in
    let good = are_good reading b.before b.header b.events b.good in
    let fails : HasFault reading (length b.before + 1) b.header b.here f = rw (sym b.number) b.fails in
    let stop = stop_of_failing reading b.before b.here b.header b.events f known.0 known.1 fails in
    ap (verdict_of (strict reading)) b.stands
    ∙ (long_verdict (strict reading) b.before b.behind b.here (Unreadable (length b.before + 1) f (held_by b.header (history_of b.events))) good stop
    ∙ rw (b.number, b.held) refl)

-- ---- the last event

-- the last of these lines that says an event
abbrev LastIs : Reading → List (List ℕ) → ℕ → Type 0
LastIs reading ls n =
    (before : List (List ℕ)) × (l : List ℕ) × (behind : List (List ℕ)) × (e : Event) × (ls ≡ before ++ l ∷ behind)
    × (n ≡ length before + 1) × (reading l ≡ event_line e) × (events_in reading behind ≡ [])

event_of_said : (s : Result Line Fault) → is_some (event_said s) ≡ true → (e : Event) × (s ≡ event_line e)
event_of_said (Err f) some = cc
event_of_said (Ok line.Blank) some = cc
event_of_said (Ok (line.Header c)) some = cc
event_of_said (Ok (line.Event e)) some = (e, refl)

no_event_said : (s : Result Line Fault) (es : List Event) → is_some (event_said s) ≡ false → es ≡ [] → filter_map event_said (s ∷ []) ++ es ≡ []
no_event_said (Err f) es none rest = rest
no_event_said (Ok line.Blank) es none rest = rest
no_event_said (Ok (line.Header c)) es none rest = rest
no_event_said (Ok (line.Event e)) es none rest = cc

last_here : (reading : Reading) (l : List ℕ) (ls : List (List ℕ)) (here : Bool) → is_some (event_said (reading l)) ≡ here → (last_event_line reading ls ≡ 0) × (events_in reading ls ≡ [])
    → ((line_behind here (last_event_line reading ls) ≡ 0) × (events_in reading (l ∷ ls) ≡ [])) ⊎ LastIs reading (l ∷ ls) (line_behind here (last_event_line reading ls))
last_here reading l ls true is none =
    let event = event_of_said (reading l) is in
    inr ([], l, ls, event.0, refl, rw none.0 refl, event.1, none.1)
last_here reading l ls false is none =
    inl (rw none.0 refl, filter_map-append (λ m. event_said (reading m)) (l ∷ []) ls ∙ no_event_said (reading l) (events_in reading ls) is none.1)

behind_more : (here : Bool) (n : ℕ) → 0 < n → line_behind here n ≡ n + 1
behind_more here n some = rw (lt-ltb 0 n some) refl

last_event : (reading : Reading) (ls : List (List ℕ))
    → ((last_event_line reading ls ≡ 0) × (events_in reading ls ≡ [])) ⊎ LastIs reading ls (last_event_line reading ls)
last_event reading [] = inl (refl, refl)
last_event reading (l ∷ ls) = elim (last_event reading ls) [
  | inl none ↦ last_here reading l ls (is_some (event_said (reading l))) refl none
  | inr (before, m, behind, e, stands, number, says, last) ↦ (
      inr (
        l ∷ before,
        m,
        behind,
        e,
        ap (λ k. l ∷ k) stands,
        behind_more (is_some (event_said (reading l))) (last_event_line reading ls) (omega (arith, number)) ∙ ap (λ n. n + 1) number ∙ omega arith,
        says,
        last,
      ))
]

-- the other way round: no event behind, so this is the last
none_is_last : (reading : Reading) (ls : List (List ℕ)) → events_in reading ls ≡ [] → last_event_line reading ls ≡ 0
none_is_last reading ls none = elim (last_event reading ls) [
  | inl is ↦ is.0
  | inr (before, m, behind, e, stands, number, says, last) ↦ absurd (some_event (events_in reading before) e (events_in reading behind)
      (sym (filter_map-append (λ k. event_said (reading k)) before (m ∷ behind) ∙ with_event before m behind e says) ∙ ap (events_in reading) (sym stands) ∙ none))
]
  where
    some_event : (es : List Event) (e : Event) (more : List Event) → es ++ e ∷ more ≡ [] → ⊥
    some_event [] e more is = cc
    some_event (f ∷ es) e more is = cc

    with_event : (before : List (List ℕ)) (m : List ℕ) (behind : List (List ℕ)) (e : Event) → reading m ≡ event_line e
        → events_in reading before ++ events_in reading (m ∷ behind) ≡ events_in reading before ++ e ∷ events_in reading behind
    with_event before m behind e says = rw says refl

pub last_is : (reading : Reading) (before : List (List ℕ)) (l : List ℕ) (behind : List (List ℕ)) (e : Event) → reading l ≡ event_line e → events_in reading behind ≡ []
    → last_event_line reading (before ++ l ∷ behind) ≡ length before + 1
last_is reading [] l behind e says none = rw (says, none_is_last reading behind none) refl
last_is reading (m ∷ before) l behind e says none =
    let rest : last_event_line reading (before ++ l ∷ behind) ≡ length before + 1 = last_is reading before l behind e says none in
    behind_more (is_some (event_said (reading m))) (last_event_line reading (before ++ l ∷ behind)) (omega (arith, rest)) ∙ (ap (λ n. n + 1) rest ∙ omega arith)

-- ---- the end

by_stop : (o : Option Verdict) (w v : Verdict) → unwrap_or o w ≡ v → (o ≡ Some v) ⊎ ((o ≡ None) × (w ≡ v))
by_stop None w v is = inr (refl, is)
by_stop (Some u) w v is = inl (ap Some is)

owing_end : (some : Bool) (last m : ℕ) (u : Totals) (r : Rule) (t : Totals) → (if some then Refused last OwedAtEnd u else Accepted u) ≡ Refused m r t
    → (some ≡ true) × (m ≡ last) × (r ≡ OwedAtEnd) × (t ≡ u)
owing_end true last m u r t is = (refl, cc, cc, cc)
owing_end false last m u r t is = cc

readable_end : (some : Bool) (last m : ℕ) (u : Totals) (f : Fault) (t : Option Totals) → (if some then Refused last OwedAtEnd u else Accepted u) ≡ Unreadable m f t → ⊥
readable_end true last m u f t is = cc
readable_end false last m u f t is = cc

abbrev EndOwes : ℕ → Option Settings → List Event → ℕ → Rule → Totals → Type 0
EndOwes last header h m r t =
    (c : Settings) × (header ≡ Some c) × (is_some_packet (owed c h) ≡ true) × (m ≡ last) × (r ≡ OwedAtEnd) × (t ≡ totals c h)

end_refuses : (n last : ℕ) (header : Option Settings) (h : List Event) (m : ℕ) (r : Rule) (t : Totals) → end_at n last header h ≡ Refused m r t
    → EndOwes last header h m r t
end_refuses n last None h m r t is = cc
end_refuses n last (Some c) h m r t is =
    let parts = owing_end (is_some_packet (owed c h)) last m (totals c h) r t is in (c, refl, parts.0, parts.1, parts.2, parts.3)

end_fails : (n last : ℕ) (header : Option Settings) (h : List Event) (m : ℕ) (f : Fault) (t : Option Totals) → end_at n last header h ≡ Unreadable m f t
    → (header ≡ None) × (m ≡ n) × (f ≡ HeaderPlace) × (t ≡ None)
end_fails n last None h m f t is = (refl, cc, cc, cc)
end_fails n last (Some c) h m f t is = absurd (readable_end (is_some_packet (owed c h)) last m (totals c h) f t is)

some_is_not_none : (ps : List Packet) → is_some_packet ps ≡ true → ps ≡ [] → ⊥
some_is_not_none [] some none = cc
some_is_not_none (p ∷ ps) some none = cc

none_or_some : (ps : List Packet) → (ps ≡ [] → ⊥) → is_some_packet ps ≡ true
none_or_some [] some = absurd (some refl)
none_or_some (p ∷ ps) some = refl

owes_nothing : (c : Settings) (events : List Event) → events ≡ [] → is_some_packet (owed c (history_of events)) ≡ true → ⊥
owes_nothing c [] none some = cc
owes_nothing c (e ∷ events) none some = cc

owes_at_end : (reading : Reading) (ls : List (List ℕ)) (n : ℕ) (r : Rule) (t : Totals) → AreGood (strict reading) ls → end_of reading ls ≡ Refused n r t
    → OwesAtEnd reading ls n r t
owes_at_end reading ls n r t are is = elim (last_event reading ls) [
  | inl none ↦ absurd (owes_nothing why.0 (events_in reading ls) none.1 why.2)
  | inr (before, l, behind, e, stands, number, says, last) ↦ (record {
    before = before;
    here = l;
    behind = behind;
    header = why.0;
    events = events_in reading ls;
    event = e;
    good = rw (← why.1) (good_lines reading ls are);
    stands = stands;
    number = why.3 ∙ number;
    says = says;
    last = last;
    owing = some_is_not_none (owed why.0 (history_of (events_in reading ls))) why.2;
    rule = why.4;
    held = why.5;
  })
]
  where
    why : EndOwes (last_event_line reading ls) (header_in reading ls) (history_of (events_in reading ls)) n r t
    why = end_refuses (length ls + 1) (last_event_line reading ls) (header_in reading ls) (history_of (events_in reading ls)) n r t is

says_nothing : (reading : Reading) (ls : List (List ℕ)) (n : ℕ) (f : Fault) (t : Option Totals) → AreGood (strict reading) ls → end_of reading ls ≡ Unreadable n f t
    → SaysNothing reading ls n f t
says_nothing reading ls n f t are is =
    let why = end_fails (length ls + 1) (last_event_line reading ls) (header_in reading ls) (history_of (events_in reading ls)) n f t is in
    let own : AreGoodLines reading ls None (events_in reading ls) = rw (← why.0) (good_lines reading ls are) in
    let good : AreGoodLines reading ls None [] = rw (← own.run) own in
    record { good = good; number = why.1; fault = why.2; held = why.3 }

owing_refused : (reading : Reading) (ls : List (List ℕ)) (n : ℕ) (r : Rule) (t : Totals) → OwesAtEnd reading ls n r t → verdict_of (strict reading) ls ≡ Refused n r t
unfolding verdict_of
owing_refused reading ls n r t b =
    let known = are_known reading ls (Some b.header) b.events b.good in
    let good = are_good reading ls (Some b.header) b.events b.good in
    let last : last_event_line reading ls ≡ n = ap (last_event_line reading) b.stands ∙ (last_is reading b.before b.here b.behind b.event b.says b.last ∙ sym b.number) in
    rw (good, known.0, known.1, none_or_some (owed b.header (history_of b.events)) b.owing, last, b.rule, b.held) refl

nothing_unreadable : (reading : Reading) (ls : List (List ℕ)) (n : ℕ) (f : Fault) (t : Option Totals) → SaysNothing reading ls n f t → verdict_of (strict reading) ls ≡ Unreadable n f t
unfolding verdict_of
nothing_unreadable reading ls n f t b =
    let known = are_known reading ls None [] b.good in
    let good = are_good reading ls None [] b.good in
    rw (good, known.0, b.number, b.fault, b.held) refl

-- ---- any verdict

pub refused_ground : (reading : Reading) (bytes : List ℕ) (n : ℕ) (r : Rule) (t : Totals) → verdict (strict reading) bytes ≡ Refused n r t
    → BreaksAt reading (lines bytes) n r t ⊎ OwesAtEnd reading (lines bytes) n r t
unfolding verdict_of
refused_ground reading bytes n r t is = elim (by_stop (first_stop (strict reading) [] (lines bytes)) (end_of reading (lines bytes)) (Refused n r t) is) [
  | inl stop ↦ inl (refused_at reading (lines bytes) n r t stop)
  | inr (good, end) ↦ inr (owes_at_end reading (lines bytes) n r t good end)
]

pub unreadable_ground : (reading : Reading) (bytes : List ℕ) (n : ℕ) (f : Fault) (t : Option Totals) → verdict (strict reading) bytes ≡ Unreadable n f t
    → FailsAt reading (lines bytes) n f t ⊎ SaysNothing reading (lines bytes) n f t
unfolding verdict_of
unreadable_ground reading bytes n f t is = elim (by_stop (first_stop (strict reading) [] (lines bytes)) (end_of reading (lines bytes)) (Unreadable n f t) is) [
  | inl stop ↦ inl (unreadable_at reading (lines bytes) n f t stop)
  | inr (good, end) ↦ inr (says_nothing reading (lines bytes) n f t good end)
]

pub refused_exactly : (reading : Reading) (bytes : List ℕ) (n : ℕ) (r : Rule) (t : Totals)
    → (verdict (strict reading) bytes ≡ Refused n r t) ↔ (BreaksAt reading (lines bytes) n r t ⊎ OwesAtEnd reading (lines bytes) n r t)
refused_exactly reading bytes n r t = (
  refused_ground reading bytes n r t,
  λ ground. elim ground [
    | inl breaks ↦ break_refused reading (lines bytes) n r t breaks
    | inr owes ↦ owing_refused reading (lines bytes) n r t owes
  ],
)

pub unreadable_exactly : (reading : Reading) (bytes : List ℕ) (n : ℕ) (f : Fault) (t : Option Totals)
    → (verdict (strict reading) bytes ≡ Unreadable n f t) ↔ (FailsAt reading (lines bytes) n f t ⊎ SaysNothing reading (lines bytes) n f t)
unreadable_exactly reading bytes n f t = (
  unreadable_ground reading bytes n f t,
  λ ground. elim ground [
    | inl fails ↦ fault_unreadable reading (lines bytes) n f t fails
    | inr nothing ↦ nothing_unreadable reading (lines bytes) n f t nothing
  ],
)

-- a verdict has its ground, and no other verdict has one
pub exactly_its_ground : (reading : Reading) (bytes : List ℕ) (v : Verdict) → (verdict (strict reading) bytes ≡ v) ↔ IsGround reading (lines bytes) v
exactly_its_ground reading bytes (Accepted t) = accepted_exactly_runs reading bytes t
exactly_its_ground reading bytes (Refused n r t) = refused_exactly reading bytes n r t
exactly_its_ground reading bytes (Unreadable n f t) = unreadable_exactly reading bytes n f t

-- ---- no verdict has two grounds

good_to_the_end : (reading : Reading) (before behind : List (List ℕ)) (l : List ℕ) (v : Verdict) → AreGood (strict reading) before → stop_after (strict reading) before l ≡ Some v
    → AreGood (strict reading) (before ++ l ∷ behind) → ⊥
good_to_the_end reading before behind l v good stop all =
    let one : first_stop (strict reading) [] (before ++ l ∷ []) ≡ Some v = first_stop-snoc (strict reading) [] before l good ∙ stop in
    let stops : first_stop (strict reading) [] (before ++ l ∷ behind) ≡ Some v =
    ap (first_stop (strict reading) []) (sym (append_assoc before (l ∷ []) behind)) ∙ first_stop-append (strict reading) [] (before ++ l ∷ []) behind one in
    none_is_some v (sym all ∙ stops)
  where
    none_is_some : (v : Verdict) → None ≡ Some v → ⊥
    none_is_some v is = cc

pub breaks_or_owes : (reading : Reading) (ls : List (List ℕ)) (n : ℕ) (r : Rule) (t : Totals) → BreaksAt reading ls n r t → OwesAtEnd reading ls n r t → ⊥
breaks_or_owes reading ls n r t b owes =
    let known = are_known reading b.before (Some b.header) b.events b.good in
    let good = are_good reading b.before (Some b.header) b.events b.good in
    let stop = stop_of_reading reading b.before b.here (Some b.header) b.events (event_line b.event) (omega (arith, b.number, b.in_limits.0)) b.in_limits.1 known.0 known.1 b.says
    ∙ stop_of_break (length b.before + 1) b.header (history_of b.events) b.event r b.breaks in
    let all : AreGood (strict reading) (b.before ++ b.here ∷ b.behind) = rw (sym b.stands) (are_good reading ls (Some owes.header) owes.events owes.good) in
    good_to_the_end reading b.before b.behind b.here (Refused (length b.before + 1) r (totals b.header (history_of b.events))) good stop all

pub fails_or_says_nothing : (reading : Reading) (ls : List (List ℕ)) (n : ℕ) (f : Fault) (t : Option Totals) → FailsAt reading ls n f t → SaysNothing reading ls n f t → ⊥
fails_or_says_nothing reading ls n f t b nothing =
    let stands : length ls ≡ length b.before + length (b.here ∷ b.behind) = ap length b.stands ∙ length-append b.before (b.here ∷ b.behind) in
    omega (arith, stands, b.number, nothing.number)

-- ---- no event breaks V17

abbrev IsOfEvent : Bool × Rule → Type 0
IsOfEvent test = test.1 ≡ OwedAtEnd → ⊥

never_if : (here : Bool) (r : Rule) (rest : Option Rule) → (r ≡ OwedAtEnd → ⊥) → (rest ≡ Some OwedAtEnd → ⊥) → (if here then Some r else rest) ≡ Some OwedAtEnd → ⊥
never_if true r rest not later is = not cc
never_if false r rest not later is = later is

never_of : (tests : List (Bool × Rule)) → AllByRecursion IsOfEvent tests → first_of tests ≡ Some OwedAtEnd → ⊥
never_of [] all is = cc
never_of (test ∷ tests) all is = never_if test.0 test.1 (first_of tests) all.0 (never_of tests all.1) is

metrics_of_event : (c : Settings) (h : List Event) (e : Event) (tests : List (Bool × Rule)) → AllByRecursion IsOfEvent tests → AllByRecursion IsOfEvent (metric_tests c h e ++ tests)
metrics_of_event c h (Metrics time values) tests all = ((λ is. cc), ((λ is. cc), ((λ is. cc), ((λ is. cc), ((λ is. cc), ((λ is. cc), ((λ is. cc), all)))))))
metrics_of_event c h _ tests all = all

pub never_owed_at_end : (c : Settings) (h : List Event) (e : Event) → first_broken c h e ≡ Some OwedAtEnd → ⊥
unfolding first_broken
never_owed_at_end c h e is = let metrics = metrics_of_event c h e ((is_timer_late c h e, TimerLate) ∷ (is_collapse_missing c h e, CollapseMissing) ∷ []) ((λ is. cc), ((λ is. cc), tt)) in never_of (broken c h e) ((λ is. cc), ((λ is. cc), ((λ is. cc), ((λ is. cc), ((λ is. cc), ((λ is. cc), ((λ is. cc), ((λ is. cc), ((λ is. cc), ((λ is. cc), ((λ is. cc), ((λ is. cc), ((λ is. cc), ((λ is. cc), ((λ is. cc), metrics))))))))))))))) is
