-- What one more line does to the lines that a checker stands for.
use Rattle.std.proofs.Common.{◌≡◌, ◌∙◌, ◌+◌, ◌<◌, ◌≤◌, ℕ, List, [], ◌∷◌, ◌++◌, length, Bool, true, false, Option, Some, None, Ok, Err, refl, sym, ap, length-append, is_some, arith}
use Rattle.std.proofs.lemmas.List.{append-nil}
use Rattle.std.proofs.lemmas.List.Elements.{filter_map-append}
use Rattle.std.proofs.lemmas.Bool.{le-leb, lt-leb, lt-ltb}
use Rattle.std.specs.Option.{option_or}
use Rattle.std.specs.Prelude.{filter_map, IsSome, if◌then◌else◌}
use Rattle.qa_base.specs.declared.event.Event.{Event}
use Rattle.qa_format.specs.declared.fault.Fault.{Fault}
use Rattle.qa_format.specs.declared.fault.Fault.TheVariants.{HeaderPlace, LineTooLong, TooManyLines}
use Rattle.qa_format.specs.declared.line.Line.{Line}
use Rattle.qa_format.specs.declared.line.Line.TheVariants as line
use Rattle.qa_base.specs.declared.rule.Rule.TheVariants.{OwedAtEnd}
use Rattle.qa_base.specs.declared.totals.Totals.{Totals}
use Rattle.qa_format.specs.declared.verdict.Verdict.{Verdict}
use Rattle.qa_format.specs.declared.verdict.Verdict.TheVariants.{Accepted, Refused, Unreadable}
use Rattle.qa_base.specs.machine.Loss.{owed}
use Rattle.qa_base.specs.machine.Packets.{history_of, is_some_packet}
use Rattle.qa_format.specs.format.Reading.{reading}
use Rattle.qa_base.specs.values.Settings.{Settings}
use Rattle.qa_base.specs.machine.State.{totals}
use Rattle.qa_format.specs.verdicts.Verdict.{Breaking, header_said, event_said, header_in, events_in, said, stop_at, stop_after, first_stop, line_behind, last_event_line, verdict_of, unreadable, AreGood, AreDecided}
use Rattle.qa_base.proofs.machine.Histories.{history_of-snoc}
use Rattle.qa_format.proofs.verdicts.Stops.{or_none, first_stop-snoc, verdict_at_stop, verdict_stays, decided_stays, header_in-snoc, said_reading}
use Rattle.qa_check.specs.Standing.{by, Held, Judges, HoldsRun, Open, StandsBy, StandsFor, AddsGood, AddsBad, TakesIn, StopsAt, header_after, history_after, last_after}

-- ---- what one test says of a checker

-- a and b are one: a by the fields of a checker, b by what it holds
pub count_of : {L : Type 0} (a b : Held L) → a ≡ b → a.lines ≡ b.lines
count_of a b same = ap (λ held. held.lines) same

pub whole_of : {L : Type 0} (a b : Held L) → a ≡ b → (failed : Bool) → a.failed ≡ failed → b.failed ≡ failed
whole_of a b same failed is = ap (λ held. held.failed) (sym same) ∙ is

pub undecided : {L : Type 0} (a b : Held L) → a ≡ b → (test : Bool) → test ≡ is_some a.verdict → test ≡ false → b.verdict ≡ None
undecided a b same test is fails = sym (ap (λ held. held.verdict) same) ∙ none_of a.verdict (sym is ∙ fails)
  where
    none_of : (v : Option Verdict) → is_some v ≡ false → v ≡ None
    none_of None h = refl
    none_of (Some v) h = cc

pub not_undecided : {L : Type 0} (a b : Held L) → a ≡ b → (test : Bool) → test ≡ is_some a.verdict → test ≡ true → b.verdict ≡ None → ⊥
not_undecided a b same test is holds none = no_verdict b.verdict (ap (λ held. is_some held.verdict) (sym same) ∙ (sym is ∙ holds)) none
  where
    no_verdict : (v : Option Verdict) → is_some v ≡ true → v ≡ None → ⊥
    no_verdict None some none = cc
    no_verdict (Some v) some none = cc

pub headed : {L : Type 0} (a b : Held L) → a ≡ b → (test : Bool) → test ≡ is_some a.ledger → test ≡ true → is_some b.ledger ≡ true
headed a b same test is holds = ap (λ held. is_some held.ledger) (sym same) ∙ (sym is ∙ holds)

-- ---- with and without a verdict

pub open_from : {L : Type 0} (judges : Judges L) (v : Option Verdict) (ledger : Option L) (n last : ℕ) (ls : List (List ℕ))
    → v ≡ None → StandsBy judges v ledger n last ls → Open judges ledger n last ls
open_from judges None ledger n last ls none s = s
open_from judges (Some v) ledger n last ls none s = cc

pub stands_open : {L : Type 0} (judges : Judges L) (v : Option Verdict) (ledger : Option L) (n last : ℕ) (ls : List (List ℕ))
    → v ≡ None → Open judges ledger n last ls → StandsBy judges v ledger n last ls × AreGood (by judges) ls
stands_open judges None ledger n last ls none s = (s, s.0)
stands_open judges (Some v) ledger n last ls none s = cc

-- ---- a line that is not good

pub fixed_adds : {L : Type 0} (judges : Judges L) (v : Option Verdict) (ledger : Option L) (n last : ℕ) (l : List ℕ) → IsSome v
    → (ls : List (List ℕ)) → StandsBy judges v ledger n last ls → StandsBy judges v ledger n last (ls ++ l ∷ []) × AreDecided (by judges) (ls ++ l ∷ [])
fixed_adds judges None ledger n last l some ls s = cc
fixed_adds judges (Some v) ledger n last l some ls s =
    let still : AreDecided (by judges) (ls ++ l ∷ []) = decided_stays (by judges) ls (l ∷ []) s.0 in
    ((still, s.1 ∙ sym (verdict_stays (by judges) ls (l ∷ []) s.0)), still)

stop_there : {L : Type 0} (judges : Judges L) (ledger : Option L) (n last : ℕ) (ls : List (List ℕ)) (l : List ℕ) (o : Option Verdict)
    → Open judges ledger n last ls → o ≡ stop_at judges.breaks (n + 1) (header_in reading ls) (history_of (events_in reading ls)) (said reading n l) → stop_after (by judges) ls l ≡ o
unfolding stop_after
stop_there judges ledger n last ls l o holds is = rw (← holds.2) (sym is)

stop_adds : {L : Type 0} (judges : Judges L) (ledger ledger' : Option L) (n last n' last' : ℕ) (v : Option Verdict) (l : List ℕ)
    → IsSome v → ((c : Option Settings) (h : List Event) → HoldsRun judges ledger c h → v ≡ stop_at judges.breaks (n + 1) c h (said reading n l))
    → (ls : List (List ℕ)) → Open judges ledger n last ls → StandsBy judges v ledger' n' last' (ls ++ l ∷ []) × AreDecided (by judges) (ls ++ l ∷ [])
stop_adds judges ledger ledger' n last n' last' None l some is ls holds = cc
stop_adds judges ledger ledger' n last n' last' (Some v) l some is ls holds =
    let there = stop_there judges ledger n last ls l (Some v) holds (is (header_in reading ls) (history_of (events_in reading ls)) holds.1) in
    let bad : first_stop (by judges) [] (ls ++ l ∷ []) ≡ Some v = first_stop-snoc (by judges) [] ls l holds.0 ∙ there in
    let decided : AreDecided (by judges) (ls ++ l ∷ []) = rw bad refl in
    ((decided, sym (verdict_at_stop (by judges) (ls ++ l ∷ []) v bad)), decided)

pub refused_adds : {L : Type 0} (judges : Judges L) (old new : Held L) (l : List ℕ) (x : Line) → new.failed ≡ false → StopsAt judges old new x → old.verdict ≡ None
    → said reading old.lines l ≡ Ok x → AddsBad judges old new l
refused_adds judges old new l x whole stops none says = (
  whole,
  λ ls holds.
      stop_adds judges old.ledger new.ledger old.lines old.last_event new.lines new.last_event new.verdict l stops.decided (λ c h held. stops.verdict c h held ∙ ap (stop_at judges.breaks (old.lines + 1) c h) (sym says)) ls
      (open_from judges old.verdict old.ledger old.lines old.last_event ls none holds),
)

-- ---- a good line

header_grows : (breaks : Breaking) (n : ℕ) (header : Option Settings) (h : List Event) (x : Line) → stop_at breaks n header h (Ok x) ≡ None
    → header_after header x ≡ option_or header (header_said (Ok x))
header_grows breaks n header h line.Blank good = sym (or_none header)
header_grows breaks n None h (line.Header c) good = refl
header_grows breaks n (Some d) h (line.Header c) good = cc
header_grows breaks n header h (line.Event e) good = sym (or_none header)

history_grows : (events : List Event) (x : Line) → history_after (history_of events) x ≡ history_of (events ++ filter_map event_said (Ok x ∷ []))
history_grows events line.Blank = ap history_of (sym (append-nil events))
history_grows events (line.Header c) = ap history_of (sym (append-nil events))
history_grows events (line.Event e) = sym (history_of-snoc events e)

same_last : (ls : List (List ℕ)) (l : List ℕ) → is_some (event_said (reading l)) ≡ false → last_event_line reading (ls ++ l ∷ []) ≡ last_event_line reading ls
same_last [] l none = rw none refl
same_last (m ∷ ls) l none = ap (line_behind (is_some (event_said (reading m)))) (same_last ls l none)

-- the number of a line counted from one line earlier is one more
behind_more : (here : Bool) (n : ℕ) → 0 < n → line_behind here n ≡ n + 1
behind_more here n some = rw (lt-ltb 0 n some) refl

event_last : (ls : List (List ℕ)) (l : List ℕ) → is_some (event_said (reading l)) ≡ true → last_event_line reading (ls ++ l ∷ []) ≡ length ls + 1
event_last [] l some = rw some refl
event_last (m ∷ ls) l some =
    let rest : last_event_line reading (ls ++ l ∷ []) ≡ length ls + 1 = event_last ls l some in
    behind_more (is_some (event_said (reading m))) (last_event_line reading (ls ++ l ∷ [])) (omega (arith, rest)) ∙ (ap (λ n. n + 1) rest ∙ omega arith)

last_grows : (ls : List (List ℕ)) (l : List ℕ) (x : Line) → reading l ≡ Ok x → last_event_line reading (ls ++ l ∷ []) ≡ last_after (length ls + 1) (last_event_line reading ls) x
last_grows ls l line.Blank is = same_last ls l (rw is refl)
last_grows ls l (line.Header c) is = same_last ls l (rw is refl)
last_grows ls l (line.Event e) is = event_last ls l (rw is refl)

good_adds : {L : Type 0} (judges : Judges L) (old new : Held L) (l : List ℕ) (x : Line) → TakesIn judges old new x → said reading old.lines l ≡ Ok x
    → (ls : List (List ℕ)) → Open judges old.ledger old.lines old.last_event ls → StandsFor judges new (ls ++ l ∷ []) × AreGood (by judges) (ls ++ l ∷ [])
good_adds judges old new l x taken says ls holds =
    let reads : reading l ≡ Ok x = said_reading reading old.lines l says in
    let header = header_in reading ls in
    let events = events_in reading ls in
    let next = taken.runs header (history_of events) holds.1 in
    let there = stop_there judges old.ledger old.lines old.last_event ls l None holds (sym (ap (stop_at judges.breaks (old.lines + 1) header (history_of events)) says ∙ next.0)) in
    let good : AreGood (by judges) (ls ++ l ∷ []) = first_stop-snoc (by judges) [] ls l holds.0 ∙ there in
    let header_is : header_after header x ≡ header_in reading (ls ++ l ∷ []) =
    header_grows judges.breaks (old.lines + 1) header (history_of events) x next.0 ∙ (ap (λ r. option_or header (header_said r)) (sym reads) ∙ sym (header_in-snoc reading ls l)) in
    let history_is : history_after (history_of events) x ≡ history_of (events_in reading (ls ++ l ∷ [])) =
    history_grows events x ∙ (ap (λ r. history_of (events ++ filter_map event_said (r ∷ []))) (sym reads)
    ∙ ap history_of (sym (filter_map-append (λ m. event_said (reading m)) ls (l ∷ [])))) in
    let held : HoldsRun judges new.ledger (header_in reading (ls ++ l ∷ [])) (history_of (events_in reading (ls ++ l ∷ []))) =
    rw (← header_is, ← history_is) next.1 in
    stands_open judges new.verdict new.ledger new.lines new.last_event (ls ++ l ∷ []) taken.undecided (
      good,
      held,
      taken.count ∙ (ap (λ k. k + 1) holds.2 ∙ sym (length-append ls (l ∷ []))),
      taken.last ∙ (ap (λ k. last_after (k + 1) old.last_event x) holds.2 ∙ (ap (λ k. last_after (length ls + 1) k x) holds.3 ∙ sym (last_grows ls l x reads))),
    )

pub taken_adds : {L : Type 0} (judges : Judges L) (old new : Held L) (l : List ℕ) (x : Line) → new.failed ≡ false → TakesIn judges old new x → old.verdict ≡ None
    → said reading old.lines l ≡ Ok x → AddsGood judges old new l
taken_adds judges old new l x whole taken none says =
    (whole, λ ls holds. good_adds judges old new l x taken says ls (open_from judges old.verdict old.ledger old.lines old.last_event ls none holds))

-- ---- the end

pub end_without : {L : Type 0} (judges : Judges L) (ledger : Option L) (n last : ℕ) (ls : List (List ℕ)) → ledger ≡ None → Open judges ledger n last ls
    → Unreadable (n + 1) HeaderPlace None ≡ verdict_of (by judges) ls
unfolding verdict_of
end_without judges None n last ls none (good, held, count, last_is) = rw (good, held.0, count) refl
end_without judges (Some l) n last ls none holds = cc

-- where a ledger is there, what it says is owed decides
pub end_with : {L : Type 0} (judges : Judges L) (ledger : Option L) (l : L) (n last : ℕ) (owing : Bool) (t : Totals) (ls : List (List ℕ)) → ledger ≡ Some l
    → ((c : Settings) (h : List Event) → judges.stands l c h → owing ≡ is_some_packet (owed c h)) → ((c : Settings) (h : List Event) → judges.stands l c h → t ≡ totals c h)
    → Open judges ledger n last ls → (if owing then Refused last OwedAtEnd t else Accepted t) ≡ verdict_of (by judges) ls
unfolding verdict_of
end_with judges ledger l n last owing t ls is owes holds_totals holds =
    let held : HoldsRun judges (Some l) (header_in reading ls) (history_of (events_in reading ls)) = rw is at holds.1 in
    let h = history_of (events_in reading ls) in
    rw (holds.0, held.1, holds.3, sym (owes held.0 h held.2), holds_totals held.0 h held.2) refl

-- ---- lines out of place

abbrev pub StopsUnread : {L : Type 0} → Judges L → Option L → ℕ → Option Verdict → Fault → Type 0
StopsUnread judges ledger n v f = (c : Option Settings) (h : List Event) → HoldsRun judges ledger c h → v ≡ Some (unreadable (n + 1) c h f)

header_of : {L : Type 0} (judges : Judges L) (ledger : Option L) (c : Option Settings) (h : List Event) → is_some ledger ≡ true → HoldsRun judges ledger c h
    → (d : Settings) × (c ≡ Some d)
header_of judges None c h some held = cc
header_of judges (Some l) c h some held = (held.0, held.1)

header_there : (breaks : Breaking) (n : ℕ) (c : Option Settings) (h : List Event) (x d : Settings) → c ≡ Some d → Some (unreadable n c h HeaderPlace) ≡ stop_at breaks n c h (Ok (line.Header x))
header_there breaks n None h x d is = cc
header_there breaks n (Some e) h x d is = refl

pub header_stops : {L : Type 0} (judges : Judges L) (old new : Held L) (x : Settings) → is_some old.ledger ≡ true → IsSome new.verdict
    → StopsUnread judges old.ledger old.lines new.verdict HeaderPlace → StopsAt judges old new (line.Header x)
header_stops judges old new x some decided unread = record {
  decided = decided;
  verdict = λ c h held. let d = header_of judges old.ledger c h some held in unread c h held ∙ header_there judges.breaks (old.lines + 1) c h x d.0 d.1;
}

event_there : (breaks : Breaking) (n : ℕ) (c : Option Settings) (h : List Event) (e : Event) → c ≡ None → Some (unreadable n c h HeaderPlace) ≡ stop_at breaks n c h (Ok (line.Event e))
event_there breaks n None h e is = refl
event_there breaks n (Some d) h e is = cc

unheader_of : {L : Type 0} (judges : Judges L) (ledger : Option L) (c : Option Settings) (h : List Event) → ledger ≡ None → HoldsRun judges ledger c h → c ≡ None
unheader_of judges None c h none held = held.0
unheader_of judges (Some l) c h none held = cc

pub event_stops : {L : Type 0} (judges : Judges L) (old new : Held L) (e : Event) → old.ledger ≡ None → IsSome new.verdict
    → StopsUnread judges old.ledger old.lines new.verdict HeaderPlace → StopsAt judges old new (line.Event e)
event_stops judges old new e none decided unread = record {
  decided = decided;
  verdict = λ c h held. unread c h held ∙ event_there judges.breaks (old.lines + 1) c h e (unheader_of judges old.ledger c h none held);
}

-- ---- lines that cannot be read

pub unread_adds : {L : Type 0} (judges : Judges L) (old new : Held L) (l : List ℕ) (f : Fault)
    → new.failed ≡ false → IsSome new.verdict → StopsUnread judges old.ledger old.lines new.verdict f → old.verdict ≡ None → said reading old.lines l ≡ Err f
    → AddsBad judges old new l
unread_adds judges old new l f whole some unread none says = (
  whole,
  λ ls holds.
      stop_adds judges old.ledger new.ledger old.lines old.last_event new.lines new.last_event new.verdict l some (λ c h held. unread c h held ∙ ap (stop_at judges.breaks (old.lines + 1) c h) (sym says)) ls
      (open_from judges old.verdict old.ledger old.lines old.last_event ls none holds),
)

pub too_many : (n : ℕ) (l : List ℕ) → 4294967295 ≤ n → said reading n l ≡ Err TooManyLines
unfolding said
too_many n l many = rw (le-leb 4294967295 n many) refl

pub too_long : (n : ℕ) (l : List ℕ) → n < 4294967295 → 65536 < length l → said reading n l ≡ Err LineTooLong
unfolding said
too_long n l few long = rw (lt-leb 4294967295 n few, lt-ltb 65536 (length l) long) refl
