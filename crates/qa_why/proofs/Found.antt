-- What is told of a walk that ended.
use Rattle.std.proofs.Common.{◌≡◌, ◌∙◌, ◌+◌, ℕ, List, [], ◌∷◌, ◌++◌, ◌<◌, length, Bool, true, false, cond, Option, Some, None, Result, Ok, Err, is_some, refl, sym, ap}
use Rattle.std.specs.Option.{option_or}
use Rattle.std.specs.Prelude.{IfSome, IsSome, if◌then◌else◌, nat_le, nat_lt, option_map, unwrap_or}
use Rattle.std.specs.Result.{result_ok}
use Rattle.qa_base.specs.declared.event.Event.{Event}
use Rattle.qa_base.specs.declared.rule.Rule.{Rule}
use Rattle.qa_base.specs.declared.totals.Totals.{Totals}
use Rattle.qa_base.specs.machine.Packets.{history_of}
use Rattle.qa_base.specs.values.Settings.{Settings}
use Rattle.qa_check.specs.declared.taking.LastLine.{LastLine}
use Rattle.qa_check.specs.declared.walking.Ended.{Ended}
use Rattle.qa_check.specs.Places.{good_lines, judged_at}
use Rattle.qa_check.specs.Standing.{HoldsRun, Judges, by}
use Rattle.qa_check.specs.Walking.{HandsOut, HoldsGood, IsEnd}
use Rattle.qa_format.specs.declared.fault.Fault.{Fault}
use Rattle.qa_format.specs.declared.fault.Fault.TheVariants.{LineTooLong, TooManyLines}
use Rattle.qa_format.specs.declared.form.Form.{Form}
use Rattle.qa_format.specs.declared.line.Line.{Line}
use Rattle.qa_format.specs.declared.line.Line.TheVariants as line
use Rattle.qa_format.specs.declared.verdict.Verdict.{Verdict}
use Rattle.qa_format.specs.declared.verdict.Verdict.TheVariants.{Accepted, Refused, Unreadable}
use Rattle.qa_format.specs.format.Lines.{line_limit, lines}
use Rattle.qa_format.specs.format.Reading.{reading}
use Rattle.qa_format.specs.verdicts.Verdict.{Breaking, Judging, end_at, end_of, event_said, events_in, first_stop, header_in, said, stop_after, stop_at, unreadable, verdict, verdict_of}
use Rattle.qa_check.proofs.Judged.{judged_good}
use Rattle.qa_why.proofs.Told.{hidden_stop, same_hidden}
use Rattle.qa_why.specs.Ending.{CanRefuse, IsEvent, event_of, told_of_end}
use Rattle.qa_why.specs.Why.{Place, event_text, told, told_at, why_by, with_caveats}

-- ---- the verdict of a place

-- at the line that is not good
abbrev pub StopsThere : Judging → Place → Option Verdict → Type 0
StopsThere judging (before, Some l) v = (stop_after judging before l ≡ v) × IsSome v
StopsThere judging (before, None) v = v ≡ None

pub stop_of_place : (judging : Judging) (before ls : List (List ℕ)) → StopsThere judging (judged_at judging before ls) (first_stop judging before ls)
stop_of_place judging before [] = refl
stop_of_place judging before (m ∷ ls) = either (stop_after judging before m) refl (stop_of_place judging (before ++ m ∷ []) ls)
  where
    either : (o : Option Verdict) → stop_after judging before m ≡ o → StopsThere judging (judged_at judging (before ++ m ∷ []) ls) (first_stop judging (before ++ m ∷ []) ls)
        → StopsThere judging (if is_some o then (before, Some m) else judged_at judging (before ++ m ∷ []) ls) (option_or o (first_stop judging (before ++ m ∷ []) ls))
    either None is later = later
    either (Some v) is later = (is, refl)

-- ---- a refusal

-- what is refused at a line is an event behind a header
refused_there : (breaks : Breaking) (n k : ℕ) (r : Rule) (t : Totals) (header : Option Settings) (h : List Event) (says : Result Line Fault) → stop_at breaks k header h says ≡ Some (Refused n r t)
    → IsSome header × IfSome (result_ok says) IsEvent × IsSome (result_ok says)
refused_there breaks n k r t header h (Err f) is = cc
refused_there breaks n k r t header h (Ok line.Blank) is = cc
refused_there breaks n k r t None h (Ok (line.Header c)) is = cc
refused_there breaks n k r t (Some d) h (Ok (line.Header c)) is = cc
refused_there breaks n k r t None h (Ok (line.Event e)) is = cc
refused_there breaks n k r t (Some c) h (Ok (line.Event e)) is = (refl, tt, refl)

refused_after : (judging : Judging) (before : List (List ℕ)) (l : List ℕ) (n : ℕ) (r : Rule) (t : Totals) → stop_after judging before l ≡ Some (Refused n r t)
    → IsSome (header_in judging.says before) × IfSome (result_ok (said judging.says (length before) l)) IsEvent × IsSome (result_ok (said judging.says (length before) l))
unfolding stop_after
refused_after judging before l n r t is = refused_there judging.breaks n (length before + 1) r t (header_in judging.says before) (history_of (events_in judging.says before)) (said judging.says (length before) l) is

-- the end is refused behind a header
refused_at_end : (n last m : ℕ) (r : Rule) (t : Totals) (header : Option Settings) (h : List Event) → end_at n last header h ≡ Refused m r t → IsSome header
refused_at_end n last m r t None h is = cc
refused_at_end n last m r t (Some c) h is = refl

-- without a judge there is no header
judged : {J : Type 0} (judges : Judges J) (judge : Option J) (header : Option Settings) (h : List Event) → HoldsRun judges judge header h → IsSome header → IsSome judge
judged judges None header h holds some = cc
judged judges (Some j) header h holds some = refl

-- where the verdict is that an event or the end is refused there is a judge, and the line that is handed out says an event
refuse_at : {J : Type 0} (judges : Judges J) (judge : Option J) (last : Option LastLine) (ls : List (List ℕ)) (place : Place) (first : Option Verdict) (n : ℕ) (r : Rule) (t : Totals)
    → StopsThere (by judges) place first → unwrap_or first (end_of reading ls) ≡ Refused n r t → (first ≡ None → place.0 ≡ ls)
    → HoldsRun judges judge (header_in reading place.0) (history_of (events_in reading place.0)) → HandsOut last place
    → IsSome judge × IfSome last (λ x. IfSome x.said IsEvent × IsSome x.said)
refuse_at judges judge (Some x) ls (before, Some l) None n r t there is all holds hands = cc
refuse_at judges judge (Some x) ls (before, Some l) (Some w) n r t there is all holds hands =
    let same : l ≡ x.bytes.items = cc in
    let refused = refused_after (by judges) before l n r t (there.0 ∙ ap Some is) in
    let says : x.said ≡ result_ok (said reading (length before) l) = hands.1.1 ∙ ap (λ (m : List ℕ). result_ok (said reading (length before) m)) (sym same) in
    (judged judges judge (header_in reading before) (history_of (events_in reading before)) holds refused.0, rw says (refused.1, refused.2))
refuse_at judges judge None ls (before, Some l) None n r t there is all holds hands = cc
refuse_at judges judge None ls (before, Some l) (Some w) n r t there is all holds hands =
    let hidden = hidden_stop (by judges) before l hands in
    absurd (readable n r t _ _ _ _ (sym is ∙ some_of (sym there.0 ∙ hidden.1)))
  where
    some_of : {A : Type 0} {x y : A} → ◌≡◌ {A = Option A} (Some x) (Some y) → x ≡ y
    some_of same = cc

    readable : (n : ℕ) (r : Rule) (t : Totals) (m : ℕ) (header : Option Settings) (h : List Event) (f : Fault) → Refused n r t ≡ unreadable m header h f → ⊥
    readable n r t m header h f same = cc
refuse_at judges judge (Some x) ls (before, None) first n r t there is all holds hands = cc
refuse_at judges judge None ls (before, None) first n r t there is all holds hands =
    let end : end_of reading ls ≡ Refused n r t = rw there at is in
    let some = refused_at_end _ _ n r t (header_in reading ls) (history_of (events_in reading ls)) end in
    let same = all there in
    (judged judges judge (header_in reading before) (history_of (events_in reading before)) holds (rw same some), tt)

all_good : (judging : Judging) (ls : List (List ℕ)) → first_stop judging [] ls ≡ None → (judged_at judging [] ls).0 ≡ ls
all_good judging ls good = ap (λ (p : Place). p.0) (judged_good judging [] ls good)

can_refuse_by : {J : Type 0} (judges : Judges J) (judge : Option J) (last : Option LastLine) (v : Verdict) (bytes : List ℕ) → v ≡ verdict (by judges) bytes → HoldsGood judges judge bytes
    → HandsOut last (judged_at (by judges) [] (lines bytes)) → CanRefuse v judge last
unfolding verdict_of
can_refuse_by judges judge last (Accepted t) bytes is holds hands = tt
can_refuse_by judges judge last (Refused n r t) bytes is holds hands =
    refuse_at judges judge last (lines bytes) (judged_at (by judges) [] (lines bytes)) (first_stop (by judges) [] (lines bytes)) n r t (stop_of_place (by judges) [] (lines bytes)) (sym is)
    (all_good (by judges) (lines bytes)) holds hands
can_refuse_by judges judge last (Unreadable n f t) bytes is holds hands = tt

pub can_refuse : {J : Type 0} (judges : Judges J) (ended : Ended J) (bytes : List ℕ) → IsEnd judges true ended bytes → CanRefuse ended.verdict ended.judge ended.line
can_refuse judges ended bytes end = can_refuse_by judges ended.judge ended.line ended.verdict bytes end.0 end.1 (end.2 refl)

-- ---- what is told of what is handed out

some_of : {A : Type 0} {x y : A} → ◌≡◌ {A = Option A} (Some x) (Some y) → x ≡ y
some_of same = cc

-- the event that is read of a line is the one that it says
event_read : (many long : Bool) (f k : Fault) (r : Result Line Fault) → IsSome (result_ok (cond {A = Result Line Fault} many (Err f) (cond {A = Result Line Fault} long (Err k) r)))
    → event_of (result_ok (cond {A = Result Line Fault} many (Err f) (cond {A = Result Line Fault} long (Err k) r))) ≡ event_said r
event_read true long f k r some = cc
event_read false true f k r some = cc
event_read false false f k (Err e) some = cc
event_read false false f k (Ok line.Blank) some = refl
event_read false false f k (Ok (line.Header c)) some = refl
event_read false false f k (Ok (line.Event e)) some = refl

event_of_said : (n : ℕ) (l : List ℕ) → IsSome (result_ok (said reading n l)) → event_of (result_ok (said reading n l)) ≡ event_said (reading l)
unfolding said
event_of_said n l some = event_read (nat_le 4294967295 n) (nat_lt 65536 (length l)) TooManyLines LineTooLong (reading l) some

-- at the line that is handed out
told_shown : {J : Type 0} (judges : Judges J) (form : Form) (name : List ℕ) (x : LastLine) (before : List (List ℕ)) (v : Verdict) → stop_after (by judges) before x.bytes.items ≡ Some v
    → x.said ≡ result_ok (said reading (length before) x.bytes.items)
    → told_of_end form name v (header_in reading before) (history_of (events_in reading before)) (Some x) ≡ told form name v (header_in reading before) (history_of (events_in reading before)) (Some x.bytes.items)
told_shown judges form name x before (Accepted t) stop read = refl
told_shown judges form name x before (Refused n r t) stop read =
    let refused = refused_after (by judges) before x.bytes.items n r t stop in
    let says : event_of x.said ≡ event_said (reading x.bytes.items) = ap event_of read ∙ event_of_said (length before) x.bytes.items refused.2 in
    ap (λ e. event_text form name n r (header_in reading before) (history_of (events_in reading before)) e x.bytes.items) says
told_shown judges form name x before (Unreadable n f t) stop read = refl

-- at a line that is too long
told_hidden : {J : Type 0} (judges : Judges J) (form : Form) (name : List ℕ) (before : List (List ℕ)) (l : List ℕ) (v : Verdict) → stop_after (by judges) before l ≡ Some v → line_limit < length l
    → told_of_end form name v (header_in reading before) (history_of (events_in reading before)) None ≡ told form name v (header_in reading before) (history_of (events_in reading before)) (Some l)
told_hidden judges form name before l v stop long =
    let hidden = hidden_stop (by judges) before l long in
    let is : v ≡ unreadable (length before + 1) (header_in reading before) (history_of (events_in reading before)) hidden.0 = some_of (sym stop ∙ hidden.1) in
    rw is (sym (same_hidden form name (length before + 1) hidden.0 _ (Some l) hidden.2))

told_none : (form : Form) (name : List ℕ) (v : Verdict) (header : Option Settings) (h : List Event) → told_of_end form name v header h None ≡ told form name v header h None
told_none form name (Accepted t) header h = refl
told_none form name (Refused n r t) header h = refl
told_none form name (Unreadable n f t) header h = refl

told_there : {J : Type 0} (judges : Judges J) (form : Form) (name : List ℕ) (last : Option LastLine) (all : Verdict) (place : Place) (first : Option Verdict) (v : Verdict)
    → StopsThere (by judges) place first → unwrap_or first all ≡ v → HandsOut last place
    → told_of_end form name v (header_in reading place.0) (history_of (events_in reading place.0)) last ≡ told form name v (header_in reading place.0) (history_of (events_in reading place.0)) place.1
told_there judges form name (Some x) all (before, Some l) None v there is hands = cc
told_there judges form name (Some x) all (before, Some l) (Some w) v there is hands =
    let same : l ≡ x.bytes.items = cc in
    let stop : stop_after (by judges) before l ≡ Some v = there.0 ∙ ap Some is in
    rw same (told_shown judges form name x before v (rw same at stop) hands.1.1)
told_there judges form name None all (before, Some l) None v there is hands = cc
told_there judges form name None all (before, Some l) (Some w) v there is hands = told_hidden judges form name before l v (there.0 ∙ ap Some is) hands
told_there judges form name (Some x) all (before, None) first v there is hands = cc
told_there judges form name None all (before, None) first v there is hands = told_none form name v _ _

told_by : {J : Type 0} (judges : Judges J) (form : Form) (name : List ℕ) (last : Option LastLine) (v : Verdict) (bytes : List ℕ) → v ≡ verdict (by judges) bytes
    → HandsOut last (judged_at (by judges) [] (lines bytes))
    → told_of_end form name v (header_in reading (good_lines (by judges) bytes)) (history_of (events_in reading (good_lines (by judges) bytes))) last ≡ told form name v (header_in reading (good_lines (by judges) bytes)) (history_of (events_in reading (good_lines (by judges) bytes))) (judged_at (by judges) [] (lines bytes)).1
unfolding verdict_of
told_by judges form name last v bytes is hands =
    told_there judges form name last (end_of reading (lines bytes)) (judged_at (by judges) [] (lines bytes)) (first_stop (by judges) [] (lines bytes)) v (stop_of_place (by judges) [] (lines bytes)) (sym is) hands

-- ---- caveats

abbrev pub line_handed : Option LastLine → Option (List ℕ)
line_handed last = option_map (λ (x : LastLine). x.bytes.items) last

-- a line that is too long is not refused
caveats_hidden : {J : Type 0} (judges : Judges J) (form : Form) (before : List (List ℕ)) (l : List ℕ) (v : Verdict) (text : List ℕ) → stop_after (by judges) before l ≡ Some v → line_limit < length l
    → with_caveats v form (before, None) text ≡ with_caveats v form (before, Some l) text
caveats_hidden judges form before l v text stop long =
    let hidden = hidden_stop (by judges) before l long in
    let is : v ≡ unreadable (length before + 1) (header_in reading before) (history_of (events_in reading before)) hidden.0 = some_of (sym stop ∙ hidden.1) in
    rw is refl

caveats_there : {J : Type 0} (judges : Judges J) (form : Form) (last : Option LastLine) (all : Verdict) (place : Place) (first : Option Verdict) (v : Verdict) (text : List ℕ)
    → StopsThere (by judges) place first → unwrap_or first all ≡ v → HandsOut last place
    → with_caveats v form (place.0, line_handed last) text ≡ with_caveats v form place text
caveats_there judges form (Some x) all (before, Some l) first v text there is hands =
    let same : l ≡ x.bytes.items = cc in
    ap (λ (m : List ℕ). with_caveats v form (before, Some m) text) (sym same)
caveats_there judges form None all (before, Some l) None v text there is hands = cc
caveats_there judges form None all (before, Some l) (Some w) v text there is hands = caveats_hidden judges form before l v text (there.0 ∙ ap Some is) hands
caveats_there judges form (Some x) all (before, None) first v text there is hands = cc
caveats_there judges form None all (before, None) first v text there is hands = refl

caveats_by : {J : Type 0} (judges : Judges J) (form : Form) (last : Option LastLine) (v : Verdict) (bytes text : List ℕ) → v ≡ verdict (by judges) bytes
    → HandsOut last (judged_at (by judges) [] (lines bytes))
    → with_caveats v form (good_lines (by judges) bytes, line_handed last) text ≡ with_caveats v form (judged_at (by judges) [] (lines bytes)) text
unfolding verdict_of
caveats_by judges form last v bytes text is hands =
    caveats_there judges form last (end_of reading (lines bytes)) (judged_at (by judges) [] (lines bytes)) (first_stop (by judges) [] (lines bytes)) v text (stop_of_place (by judges) [] (lines bytes)) (sym is) hands

-- what is told of a walk that ended is told of the bytes
pub ended_tells : {J : Type 0} (judges : Judges J) (form : Form) (name : List ℕ) (ended : Ended J) (bytes : List ℕ) → IsEnd judges true ended bytes
    → with_caveats ended.verdict form (good_lines (by judges) bytes, line_handed ended.line)
    (told_of_end form name ended.verdict (header_in reading (good_lines (by judges) bytes)) (history_of (events_in reading (good_lines (by judges) bytes))) ended.line)
    ≡ why_by (by judges) form name bytes
unfolding why_by
ended_tells judges form name ended bytes end =
    caveats_by judges form ended.line ended.verdict bytes _ end.0 (end.2 refl)
    ∙ (ap (with_caveats ended.verdict form (judged_at (by judges) [] (lines bytes))) (told_by judges form name ended.line ended.verdict bytes end.0 (end.2 refl))
    ∙ ap (λ v. told_at (by judges) form name v (judged_at (by judges) [] (lines bytes))) end.0)
