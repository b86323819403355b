-- The verdict of a trace, and its violations.
use Rattle.std.proofs.Common.{◌≡◌, ◌∙◌, ◌+◌, ℕ, Bool, true, false, List, [], ◌∷◌, ◌++◌, length, Option, Some, None, Result, Ok, Err, refl, sym, ap, ap₂, subst, cond, append_assoc}
use Rattle.std.proofs.lemmas.List.{append-nil}
use Rattle.std.specs.Option.{option_or}
use Rattle.std.specs.Prelude.{if◌then◌else◌, map, option_map, unwrap_or, is_some}
use Rattle.qa_violations.specs.all.All.{all_outcome, outcome_with, past_sender_rules}
use Rattle.qa_violations.specs.all.Tolerating.{explained}
use Rattle.qa_violations.specs.all.Violated.{Violated, violated, violated_after, violated_at, findings, history_in}
use Rattle.qa_violations.specs.laws.Agreement.{ComesFirst, EndsUnviolated, goes_on_past, violations_of_trace}
use Rattle.qa_violations.specs.declared.table.finding.Finding.{Finding}
use Rattle.qa_violations.proofs.laws_lemmas.Accepted.{none_on, none_violated, tolerated_after, tolerated_lines}
use Rattle.qa_violations.proofs.laws_lemmas.Breaking.{first_violation, not_passed_over, passed_over}
use Rattle.qa_base.specs.declared.event.Event.{Event}
use Rattle.qa_base.specs.declared.rule.Rule.{Rule}
use Rattle.qa_base.specs.declared.rule.Rule.TheVariants as rule
use Rattle.qa_base.specs.declared.totals.Totals.{Totals}
use Rattle.qa_base.specs.machine.Violations.{first_untolerated, is_tolerated}
use Rattle.qa_base.specs.machine.Packets.{history_of, is_some_packet}
use Rattle.qa_base.specs.machine.Rules.{first_broken}
use Rattle.qa_base.specs.machine.Loss.{owed}
use Rattle.qa_base.specs.machine.State.{totals}
use Rattle.qa_base.specs.values.Settings.{Settings}
use Rattle.qa_check.specs.Audit.{outcome_of}
use Rattle.qa_check.specs.declared.auditing.Outcome.{Outcome}
use Rattle.qa_check.specs.declared.auditing.Outcome.TheVariants as outcomes
use Rattle.qa_format.proofs.verdicts.Stops.{said_reading}
use Rattle.qa_format.specs.declared.fault.Fault.{Fault}
use Rattle.qa_format.specs.declared.line.Line.{Line}
use Rattle.qa_format.specs.declared.line.Line.TheVariants as line
use Rattle.qa_format.specs.declared.verdict.Verdict.{Verdict}
use Rattle.qa_format.specs.declared.verdict.Verdict.TheVariants.{Accepted, Refused, Unreadable}
use Rattle.qa_format.specs.format.Lines.{lines}
use Rattle.qa_format.specs.format.Reading.{reading}
use Rattle.qa_format.specs.verdicts.Verdict.{AreGood, end_at, end_of, event_said, events_in, first_stop, header_in, last_event_line, said, stop_after, stop_at, strict, verdict, verdict_of}
use Rattle.qa_why.proofs.Told.{good_at_end}
use Rattle.qa_why.specs.Why.{judged_at}

-- ---- one line

-- the line ends the trace past violations too
abbrev EndsAt : ℕ → Option Settings → List Event → Result Line Fault → Verdict → Type 0
EndsAt n header h s v = stop_at first_untolerated n header h s ≡ Some v

-- the line says an event past which the machine goes on, and that breaks this rule first
pub record GoesOnAt (n : ℕ) (header : Option Settings) (h : List Event) (s : Result Line Fault) (m : ℕ) (r : Rule) : Type 0 where
  pub good : stop_at first_untolerated n header h s ≡ None
  pub there : m ≡ n
  pub settings : Settings
  pub event : Event
  pub headed : header ≡ Some settings
  pub says : s ≡ Ok (line.Event event)
  pub breaks : first_broken settings h event ≡ Some r

abbrev AtEvent : Bool → ℕ → Option Settings → List Event → Result Line Fault → ℕ → Rule → Totals → Type 0
AtEvent true n header h s m r t = GoesOnAt n header h s m r
AtEvent false n header h s m r t = EndsAt n header h s (Refused m r t)

-- what a line that strictly has this verdict is past violations
abbrev AtLine : ℕ → Option Settings → List Event → Result Line Fault → Verdict → Type 0
AtLine n header h s (Accepted t) = ⊥
AtLine n header h s (Refused m r t) = AtEvent (goes_on_past r t) n header h s m r t
AtLine n header h s (Unreadable m f t) = EndsAt n header h s (Unreadable m f t)

-- the machine goes on past a rule by its totals
same_passing : (c : Settings) (h : List Event) (r : Rule) → is_tolerated c h r ≡ goes_on_past r (totals c h)
same_passing c h rule.TimerEarly = refl
same_passing c h r = refl

at_event : (n : ℕ) (c : Settings) (h : List Event) (e : Event) (r : Rule) (b : Bool) → first_broken c h e ≡ Some r → is_tolerated c h r ≡ b
    → AtEvent b n (Some c) h (Ok (line.Event e)) n r (totals c h)
at_event n c h e r true breaks passed = record {
  good = ap (λ (o : Option Rule). option_map (λ r. Refused n r (totals c h)) o) (passed_over c h e r breaks passed);
  there = refl;
  settings = c;
  event = e;
  headed = refl;
  says = refl;
  breaks = breaks;
}
at_event n c h e r false breaks ends = ap (λ (o : Option Rule). option_map (λ r. Refused n r (totals c h)) o) (not_passed_over c h e r breaks ends)

of_some : {A : Type 0} (x y : A) → Some x ≡ Some y → x ≡ y
of_some x y same = cc

by_rule : (n : ℕ) (c : Settings) (h : List Event) (e : Event) (o : Option Rule) (v : Verdict) → first_broken c h e ≡ o
    → option_map (λ r. Refused n r (totals c h)) o ≡ Some v → AtLine n (Some c) h (Ok (line.Event e)) v
by_rule n c h e None v breaks is = absurd cc
by_rule n c h e (Some r) v breaks is =
    subst (λ w. AtLine n (Some c) h (Ok (line.Event e)) w) (of_some (Refused n r (totals c h)) v is)
    (at_event n c h e r (goes_on_past r (totals c h)) breaks (same_passing c h r))

at_line : (n : ℕ) (header : Option Settings) (h : List Event) (s : Result Line Fault) (v : Verdict) → stop_at first_broken n header h s ≡ Some v → AtLine n header h s v
at_line n header h (Err f) v is = subst (λ w. AtLine n header h (Err f) w) (of_some _ v is) refl
at_line n None h (Ok line.Blank) v is = absurd cc
at_line n (Some c) h (Ok line.Blank) v is = absurd cc
at_line n None h (Ok (line.Header c)) v is = absurd cc
at_line n (Some d) h (Ok (line.Header c)) v is = subst (λ w. AtLine n (Some d) h (Ok (line.Header c)) w) (of_some _ v is) refl
at_line n None h (Ok (line.Event e)) v is = subst (λ w. AtLine n None h (Ok (line.Event e)) w) (of_some _ v is) refl
at_line n (Some c) h (Ok (line.Event e)) v is = by_rule n c h e (first_broken c h e) v refl is

-- ---- the lines behind others

-- the lines before the first that is not good past violations
abbrev front : List (List ℕ) → List (List ℕ) → List (List ℕ)
front before [] = []
front before (l ∷ ls) = cond (is_some (stop_after past_sender_rules before l)) [] (l ∷ front (before ++ l ∷ []) ls)

front_by : (before ls : List (List ℕ)) (l : List ℕ) (o : Option Verdict) → stop_after past_sender_rules before l ≡ o
    → (judged_at past_sender_rules (before ++ l ∷ []) ls).0 ≡ (before ++ l ∷ []) ++ front (before ++ l ∷ []) ls
    → (judged_at past_sender_rules before (l ∷ ls)).0 ≡ before ++ front before (l ∷ ls)
front_by before ls l None is rest = rw is (rest ∙ append_assoc before (l ∷ []) (front (before ++ l ∷ []) ls))
front_by before ls l (Some v) is rest = rw is (sym (append-nil before))

front_is : (before ls : List (List ℕ)) → (judged_at past_sender_rules before ls).0 ≡ before ++ front before ls
front_is before [] = sym (append-nil before)
front_is before (l ∷ ls) = front_by before ls l (stop_after past_sender_rules before l) refl (front_is (before ++ l ∷ []) ls)

front_more : (before ls : List (List ℕ)) (l : List ℕ) → stop_after past_sender_rules before l ≡ None → front before (l ∷ ls) ≡ l ∷ front (before ++ l ∷ []) ls
front_more before ls l good = ap (λ (o : Option Verdict). cond (is_some o) [] (l ∷ front (before ++ l ∷ []) ls)) good

front_none : (before ls : List (List ℕ)) (l : List ℕ) (v : Verdict) → stop_after past_sender_rules before l ≡ Some v → front before (l ∷ ls) ≡ []
front_none before ls l v ends = ap (λ (o : Option Verdict). cond (is_some o) [] (l ∷ front (before ++ l ∷ []) ls)) ends

-- of these lines behind others the trace has no violation, and past violations too this is its verdict
abbrev Ends : List (List ℕ) → List (List ℕ) → Verdict → Type 0
Ends before ls v = (first_stop past_sender_rules before ls ≡ Some v) × (violated_after before (front before ls) ≡ [])

abbrev ByRule : Bool → List (List ℕ) → List (List ℕ) → ℕ → Rule → Totals → Type 0
ByRule true before ls n r t = ComesFirst n r (violated_after before (front before ls))
ByRule false before ls n r t = Ends before ls (Refused n r t)

abbrev Agrees : List (List ℕ) → List (List ℕ) → Verdict → Type 0
Agrees before ls (Accepted t) = ⊥
Agrees before ls (Refused n r t) = ByRule (goes_on_past r t) before ls n r t
Agrees before ls (Unreadable n f t) = Ends before ls (Unreadable n f t)

-- ---- behind a line that is good strictly

-- it adds no violation
same_violated : (before ls : List (List ℕ)) (l : List ℕ) → stop_after (strict reading) before l ≡ None
    → violated_after before (front before (l ∷ ls)) ≡ violated_after (before ++ l ∷ []) (front (before ++ l ∷ []) ls)
same_violated before ls l good =
    ap (violated_after before) (front_more before ls l (tolerated_after before l good))
    ∙ ap (λ (ds : List Violated). ds ++ violated_after (before ++ l ∷ []) (front (before ++ l ∷ []) ls)) (none_on before l good)

ends_behind : (before ls : List (List ℕ)) (l : List ℕ) (v : Verdict) → stop_after (strict reading) before l ≡ None → Ends (before ++ l ∷ []) ls v → Ends before (l ∷ ls) v
ends_behind before ls l v good ends =
    (ap₂ (λ (o p : Option Verdict). option_or o p) (tolerated_after before l good) ends.0, same_violated before ls l good ∙ ends.1)

rule_behind : (b : Bool) (before ls : List (List ℕ)) (l : List ℕ) (n : ℕ) (r : Rule) (t : Totals) → stop_after (strict reading) before l ≡ None → ByRule b (before ++ l ∷ []) ls n r t
    → ByRule b before (l ∷ ls) n r t
rule_behind true before ls l n r t good first = subst (λ (ds : List Violated). ComesFirst n r ds) (sym (same_violated before ls l good)) first
rule_behind false before ls l n r t good ends = ends_behind before ls l (Refused n r t) good ends

agrees_behind : (before ls : List (List ℕ)) (l : List ℕ) (v : Verdict) → stop_after (strict reading) before l ≡ None → Agrees (before ++ l ∷ []) ls v → Agrees before (l ∷ ls) v
agrees_behind before ls l (Accepted t) good agrees = agrees
agrees_behind before ls l (Refused n r t) good agrees = rule_behind (goes_on_past r t) before ls l n r t good agrees
agrees_behind before ls l (Unreadable n f t) good agrees = ends_behind before ls l (Unreadable n f t) good agrees

-- ---- at the line that is not

ends_here : (before ls : List (List ℕ)) (l : List ℕ) (v : Verdict) → stop_after past_sender_rules before l ≡ Some v → Ends before (l ∷ ls) v
ends_here before ls l v ends =
    (ap (λ (o : Option Verdict). option_or o (first_stop past_sender_rules (before ++ l ∷ []) ls)) ends, ap (violated_after before) (front_none before ls l v ends))

-- what stands on a line past which the machine goes on
on_line : (n : ℕ) (before : List (List ℕ)) (l : List ℕ) (header : Option Settings) (h : List Event) (c : Settings) (e : Event) (r : Rule) → header ≡ Some c
    → reading l ≡ Ok (line.Event e) → first_broken c h e ≡ Some r → (ds : List Violated)
    → ComesFirst n r (violated_at n before l header h (event_said (reading l)) ++ ds)
on_line n before l header h c e r headed says breaks ds =
    let all = first_violation c h e r breaks in
    let same = ap₂ (λ (o : Option Settings) (x : Result Line Fault). violated_at n before l o h (event_said x)) headed says
    ∙ ap (λ (rules : List Rule). map (violated c.unit n before l e) (explained c h e rules)) all.1 in
    subst (λ (found : List Violated). ComesFirst n r (found ++ ds)) (sym same) (refl, refl)

comes_first : (before ls : List (List ℕ)) (l : List ℕ) (m : ℕ) (r : Rule)
    → GoesOnAt (length before + 1) (header_in reading before) (history_of (events_in reading before)) (said reading (length before) l) m r
    → ComesFirst m r (violated_after before (front before (l ∷ ls)))
unfolding stop_after
comes_first before ls l m r at =
    let good : stop_after past_sender_rules before l ≡ None = at.good in
    let read = said_reading reading (length before) l at.says in
    let here = on_line (length before + 1) before l (header_in reading before) (history_in before) at.settings at.event r at.headed read at.breaks
    (violated_after (before ++ l ∷ []) (front (before ++ l ∷ []) ls)) in
    subst (λ (n : ℕ). ComesFirst n r (violated_after before (front before (l ∷ ls)))) (sym at.there)
    (subst (λ (ls : List (List ℕ)). ComesFirst (length before + 1) r (violated_after before ls)) (sym (front_more before ls l good)) here)

rule_here : (b : Bool) (before ls : List (List ℕ)) (l : List ℕ) (m : ℕ) (r : Rule) (t : Totals)
    → AtEvent b (length before + 1) (header_in reading before) (history_of (events_in reading before)) (said reading (length before) l) m r t
    → ByRule b before (l ∷ ls) m r t
unfolding stop_after
rule_here true before ls l m r t at = comes_first before ls l m r at
rule_here false before ls l m r t ends = ends_here before ls l (Refused m r t) ends

agrees_here : (before ls : List (List ℕ)) (l : List ℕ) (v : Verdict)
    → AtLine (length before + 1) (header_in reading before) (history_of (events_in reading before)) (said reading (length before) l) v → Agrees before (l ∷ ls) v
unfolding stop_after
agrees_here before ls l (Accepted t) at = at
agrees_here before ls l (Refused m r t) at = rule_here (goes_on_past r t) before ls l m r t at
agrees_here before ls l (Unreadable m f t) ends = ends_here before ls l (Unreadable m f t) ends

agrees_at : (before ls : List (List ℕ)) (l : List ℕ) (v : Verdict) → stop_after (strict reading) before l ≡ Some v → Agrees before (l ∷ ls) v
unfolding stop_after
agrees_at before ls l v is =
    agrees_here before ls l v
    (at_line (length before + 1) (header_in reading before) (history_of (events_in reading before)) (said reading (length before) l) v is)

-- ---- all lines

at_either : (before ls : List (List ℕ)) (l : List ℕ) (v : Verdict) (o : Option Verdict) → stop_after (strict reading) before l ≡ o
    → (first_stop (strict reading) (before ++ l ∷ []) ls ≡ Some v → Agrees (before ++ l ∷ []) ls v)
    → option_or o (first_stop (strict reading) (before ++ l ∷ []) ls) ≡ Some v → Agrees before (l ∷ ls) v
at_either before ls l v None good later is = agrees_behind before ls l v good (later is)
at_either before ls l v (Some w) stops later is = agrees_at before ls l v (stops ∙ is)

agrees : (before ls : List (List ℕ)) (v : Verdict) → first_stop (strict reading) before ls ≡ Some v → Agrees before ls v
agrees before [] v is = absurd cc
agrees before (l ∷ ls) v is = at_either before ls l v (stop_after (strict reading) before l) refl (λ later. agrees (before ++ l ∷ []) ls v later) is

-- ---- the trace

abbrev WholeByRule : Bool → ℕ → Rule → Totals → List ℕ → Type 0
WholeByRule true n r t bytes = ComesFirst n r (violations_of_trace bytes)
WholeByRule false n r t bytes = EndsUnviolated (Refused n r t) bytes

-- how the violations of a trace are that strictly has this verdict
abbrev Whole : Verdict → List ℕ → Type 0
Whole (Accepted t) bytes = EndsUnviolated (Accepted t) bytes
Whole (Refused n r t) bytes = WholeByRule (goes_on_past r t) n r t bytes
Whole (Unreadable n f t) bytes = EndsUnviolated (Unreadable n f t) bytes

violations_are : (bytes : List ℕ) → violations_of_trace bytes ≡ violated_after [] (front [] (lines bytes))
violations_are bytes = ap (violated_after []) (front_is [] (lines bytes))

ends_whole : (bytes : List ℕ) (v : Verdict) → Ends [] (lines bytes) v → EndsUnviolated v bytes
unfolding verdict_of
ends_whole bytes v ends = (ap (λ (o : Option Verdict). unwrap_or o (end_of reading (lines bytes))) ends.0, violations_are bytes ∙ ends.1)

rule_whole : (b : Bool) (bytes : List ℕ) (n : ℕ) (r : Rule) (t : Totals) → ByRule b [] (lines bytes) n r t → WholeByRule b n r t bytes
rule_whole true bytes n r t first = subst (λ (ds : List Violated). ComesFirst n r ds) (sym (violations_are bytes)) first
rule_whole false bytes n r t ends = ends_whole bytes (Refused n r t) ends

agrees_whole : (bytes : List ℕ) (v : Verdict) → Agrees [] (lines bytes) v → Whole v bytes
agrees_whole bytes (Accepted t) agrees = absurd agrees
agrees_whole bytes (Refused n r t) agrees = rule_whole (goes_on_past r t) bytes n r t agrees
agrees_whole bytes (Unreadable n f t) agrees = ends_whole bytes (Unreadable n f t) agrees

-- no rule is passed over at the end
end_by : (b : Bool) (bytes : List ℕ) (n : ℕ) (t : Totals) → EndsUnviolated (if b then Refused n rule.OwedAtEnd t else Accepted t) bytes
    → Whole (if b then Refused n rule.OwedAtEnd t else Accepted t) bytes
end_by true bytes n t ends = ends
end_by false bytes n t ends = ends

end_whole : (bytes : List ℕ) (n last : ℕ) (header : Option Settings) (h : List Event) → EndsUnviolated (end_at n last header h) bytes → Whole (end_at n last header h) bytes
end_whole bytes n last None h ends = ends
end_whole bytes n last (Some c) h ends = end_by (is_some_packet (owed c h)) bytes last (totals c h) ends

good_whole : (bytes : List ℕ) → AreGood (strict reading) (lines bytes) → EndsUnviolated (end_of reading (lines bytes)) bytes
unfolding verdict_of
good_whole bytes good =
    let past = tolerated_lines [] (lines bytes) good in (
      ap (λ (o : Option Verdict). unwrap_or o (end_of reading (lines bytes))) past,
      ap (violated_after []) (good_at_end past_sender_rules bytes (lines bytes) past refl) ∙ none_violated [] (lines bytes) good,
    )

by_stop : (bytes : List ℕ) (o : Option Verdict) → first_stop (strict reading) [] (lines bytes) ≡ o → Whole (unwrap_or o (end_of reading (lines bytes))) bytes
by_stop bytes None good =
    end_whole bytes (length (lines bytes) + 1) (last_event_line reading (lines bytes)) (header_in reading (lines bytes)) (history_of (events_in reading (lines bytes)))
    (good_whole bytes good)
by_stop bytes (Some v) stops = agrees_whole bytes v (agrees [] (lines bytes) v stops)

whole : (bytes : List ℕ) → Whole (verdict (strict reading) bytes) bytes
unfolding verdict_of
whole bytes = by_stop bytes (first_stop (strict reading) [] (lines bytes)) refl

-- ---- the law

whole_of : (bytes : List ℕ) (v : Verdict) → verdict (strict reading) bytes ≡ v → Whole v bytes
whole_of bytes v is = subst (λ (w : Verdict). Whole w bytes) is (whole bytes)

pub accepted_unviolated : (bytes : List ℕ) (t : Totals) → verdict (strict reading) bytes ≡ Accepted t → EndsUnviolated (Accepted t) bytes
accepted_unviolated bytes t is = whole_of bytes (Accepted t) is

pub first_is : (bytes : List ℕ) (n : ℕ) (r : Rule) (t : Totals) → verdict (strict reading) bytes ≡ Refused n r t → goes_on_past r t ≡ true → ComesFirst n r (violations_of_trace bytes)
first_is bytes n r t is passed = subst (λ (b : Bool). WholeByRule b n r t bytes) passed (whole_of bytes (Refused n r t) is)

pub refused_unviolated : (bytes : List ℕ) (n : ℕ) (r : Rule) (t : Totals) → verdict (strict reading) bytes ≡ Refused n r t → goes_on_past r t ≡ false
    → EndsUnviolated (Refused n r t) bytes
refused_unviolated bytes n r t is ends = subst (λ (b : Bool). WholeByRule b n r t bytes) ends (whole_of bytes (Refused n r t) is)

pub unreadable_unviolated : (bytes : List ℕ) (n : ℕ) (f : Fault) (t : Option Totals) → verdict (strict reading) bytes ≡ Unreadable n f t → EndsUnviolated (Unreadable n f t) bytes
unreadable_unviolated bytes n f t is = whole_of bytes (Unreadable n f t) is

-- ---- and back

not_both : (b : Bool) (bytes : List ℕ) (n : ℕ) (r : Rule) (u t : Totals) → WholeByRule b n r u bytes → EndsUnviolated (Accepted t) bytes → ⊥
not_both true bytes n r u t first ends = subst (λ (ds : List Violated). ComesFirst n r ds) ends.1 first
not_both false bytes n r u t refused ends = let same : Refused n r u ≡ Accepted t = sym refused.0 ∙ ends.0 in cc

strict_of : (bytes : List ℕ) (v : Verdict) (t : Totals) → Whole v bytes → EndsUnviolated (Accepted t) bytes → v ≡ Accepted t
strict_of bytes (Accepted u) t one ends = sym one.0 ∙ ends.0
strict_of bytes (Refused n r u) t one ends = absurd (not_both (goes_on_past r u) bytes n r u t one ends)
strict_of bytes (Unreadable n f u) t one ends = absurd (let same : Unreadable n f u ≡ Accepted t = sym one.0 ∙ ends.0 in cc)

pub unviolated_accepted : (bytes : List ℕ) (t : Totals) → EndsUnviolated (Accepted t) bytes → verdict (strict reading) bytes ≡ Accepted t
unviolated_accepted bytes t ends = strict_of bytes (verdict (strict reading) bytes) t (whole bytes) ends

accepted_with : (fs : List Finding) (o : Outcome) → outcome_with fs o ≡ outcomes.Accepted → (fs ≡ []) × (o ≡ outcomes.Accepted)
accepted_with [] o is = (refl, is)
accepted_with (f ∷ fs) outcomes.Accepted is = absurd cc
accepted_with (f ∷ fs) outcomes.Refused is = absurd cc
accepted_with (f ∷ fs) outcomes.Unreadable is = absurd cc

none_found : (ds : List Violated) → findings ds ≡ [] → ds ≡ []
none_found [] is = refl
none_found (d ∷ ds) is = absurd cc

accepted_of : (v : Verdict) → outcome_of v ≡ outcomes.Accepted → (t : Totals) × (v ≡ Accepted t)
accepted_of (Accepted t) is = (t, refl)
accepted_of (Refused n r t) is = absurd cc
accepted_of (Unreadable n f t) is = absurd cc

pub outcome_accepted : (bytes : List ℕ) → all_outcome bytes ≡ outcomes.Accepted → (t : Totals) × (verdict (strict reading) bytes ≡ Accepted t)
unfolding all_outcome
outcome_accepted bytes is =
    let both = accepted_with (findings (violations_of_trace bytes)) (outcome_of (verdict past_sender_rules bytes)) is in
    let past = accepted_of (verdict past_sender_rules bytes) both.1 in
    (past.0, unviolated_accepted bytes past.0 (past.1, none_found (violations_of_trace bytes) both.0))
