-- What is written of the bytes of a trace: why they are refused or cannot be read, or that they are
-- accepted.
use Rattle.std.specs.Prelude.{◌≡◌, ℕ, Bool, true, is_some, List, [], ◌++◌, Option, Some, None}
use Rattle.std.specs.Prelude.{unwrap_or}
use Rattle.std.specs.Io.KnownBytes.{Appends}
use Rattle.qa_base.specs.declared.event.Event.{Event}
use Rattle.qa_base.specs.declared.rule.Rule.{Rule}
use Rattle.qa_base.specs.declared.space.TimeUnit.{TimeUnit}
use Rattle.qa_base.specs.declared.totals.Totals.{Totals}
use Rattle.qa_base.specs.machine.Packets.{history_of}
use Rattle.qa_base.specs.values.Settings.{Settings}
use Rattle.qa_ledger.specs.causes.Causes.{cause_of, owed_now}
use Rattle.qa_ledger.specs.declared.causes.cause.Cause.{Cause}
use Rattle.qa_ledger.specs.declared.causes.cause.Owed.{Owed}
use Rattle.qa_check.specs.Audit.{outcome_of}
pub use Rattle.qa_check.specs.Places.{good_lines, judged_at}
use Rattle.qa_check.specs.declared.auditing.Outcome.{Outcome}
use Rattle.qa_check.specs.declared.auditing.Outcome.TheVariants as outcomes
use Rattle.qa_format.specs.declared.fault.Fault.{Fault}
use Rattle.qa_format.specs.declared.verdict.Verdict.{Verdict}
use Rattle.qa_format.specs.declared.verdict.Verdict.TheVariants.{Accepted, Refused, Unreadable}
use Rattle.qa_format.specs.format.Lines.{lines}
use Rattle.qa_format.specs.format.Reading.{reading}
use Rattle.qa_format.specs.verdicts.Verdict.{Judging, event_said, events_in, header_in}
use Rattle.qa_format.specs.verdicts.Verdict.{strict, verdict}
use Rattle.qa_why.specs.caveats.Caveats.{caveats}
use Rattle.qa_why.specs.Objects.{accepted_members, object_line, owed_at_end_members}
use Rattle.qa_why.specs.Objects.{refused_members, unreadable_members}
use Rattle.qa_why.specs.Texts.{accepted_text, owed_at_end_text, refused_text, unreadable_text}
use Rattle.qa_format.specs.declared.form.Form.{Form}
use Rattle.qa_format.specs.declared.form.Form.TheVariants as forms

-- ---- in a form: a text, or the members of an object

abbrev pub accepted_in : Form → List ℕ → Totals → List ℕ
accepted_in forms.Text name t = accepted_text name t
accepted_in forms.Json name t = accepted_members t

abbrev pub refused_in : Form → TimeUnit → List ℕ → ℕ → Rule → Event → Cause → List ℕ → List ℕ
refused_in forms.Text u name n r e k l = refused_text name n u r e k l
refused_in forms.Json u name n r e k l = refused_members u n r e k

abbrev pub owed_at_end_in : Form → List ℕ → ℕ → Owed → List ℕ
owed_at_end_in forms.Text name n o = owed_at_end_text name n o
owed_at_end_in forms.Json name n o = owed_at_end_members n o

abbrev pub unreadable_in : Form → List ℕ → ℕ → Fault → Bool → Option (List ℕ) → List ℕ
unreadable_in forms.Text name n f headed line = unreadable_text name n f headed line
unreadable_in forms.Json name n f headed line = unreadable_members n f headed

-- ---- by the header and the history before

-- why an event is refused, which a line says
abbrev pub event_text : Form → List ℕ → ℕ → Rule → Option Settings → List Event → Option Event
    → List ℕ → List ℕ
event_text form name n r (Some c) h (Some e) l =
    refused_in form c.unit name n r e (cause_of c h e r) l
event_text form name n r header h said l = []

-- why the end is refused
abbrev pub end_text : Form → List ℕ → ℕ → Option Settings → List Event → List ℕ
end_text form name n (Some c) h = owed_at_end_in form name n (owed_now c h)
end_text form name n None h = []

-- why line n is refused, or the end behind it
abbrev pub refusal_text : Form → List ℕ → ℕ → Rule → Option Settings → List Event → Option (List ℕ)
    → List ℕ
refusal_text form name n r header h (Some l) =
    event_text form name n r header h (event_said (reading l)) l
refusal_text form name n r header h None = end_text form name n header h

-- what is told of a verdict on a line that is not good, or else on the end, after this header and
-- this history
abbrev pub told : Form → List ℕ → Verdict → Option Settings → List Event → Option (List ℕ) → List ℕ
told form name (Accepted t) header h line = accepted_in form name t
told form name (Refused n r t) header h line = refusal_text form name n r header h line
told form name (Unreadable n f t) header h line = unreadable_in form name n f (is_some t) line

-- ---- where lines are judged

-- the good lines, and behind them the line that is not, or none
abbrev pub Place : Type 0
Place = List (List ℕ) × Option (List ℕ)

-- in a text, behind why a line or the end is refused, what that may rest on besides the sender
abbrev pub with_caveats : Verdict → Form → Place → List ℕ → List ℕ
with_caveats (Refused n r t) forms.Text place text =
    text ++ caveats place.0 n r (unwrap_or place.1 [])
with_caveats v form place text = text

abbrev pub told_at : Judging → Form → List ℕ → Verdict → Place → List ℕ
told_at judging form name v place =
    with_caveats v form place
    (told form name v (header_in judging.says place.0)
    (history_of (events_in judging.says place.0)) place.1)

-- ---- the bytes

-- what is told of bytes in a form, under the name of their file
unfoldable pub why_by : Judging → Form → List ℕ → List ℕ → List ℕ
why_by judging form name bytes =
    told_at judging form name (verdict judging bytes) (judged_at judging [] (lines bytes))

-- in a line the members stand behind the file
abbrev pub whole : Form → List ℕ → List ℕ → List ℕ
whole forms.Text name told = told
whole forms.Json name told = object_line name told

-- what is written where a trace ends at an event that breaks a rule
abbrev pub why : Form → List ℕ → List ℕ → List ℕ
why form name bytes = whole form name (why_by (strict reading) form name bytes)

-- it is this text, and the kind of their verdict is this
abbrev pub TellsBy : Judging → Form → List ℕ → Outcome → List ℕ → List ℕ → Type 0
TellsBy judging form name outcome text bytes =
    (text ≡ why_by judging form name bytes) × (outcome ≡ outcome_of (verdict judging bytes))

-- what is written: where it is to be quiet, nothing of accepted bytes
abbrev pub unless_accepted : Bool → Outcome → List ℕ → List ℕ
unless_accepted true outcomes.Accepted text = []
unless_accepted quiet outcome text = text

abbrev pub written : Form → Bool → List ℕ → List ℕ → List ℕ
written form quiet name bytes =
    unless_accepted quiet (outcome_of (verdict (strict reading) bytes)) (why form name bytes)

-- it was written, and the kind of their verdict is returned
abbrev pub Writes : Option (List ℕ) → Option (List ℕ) → Form → Bool → List ℕ → Outcome → List ℕ
    → Type 0
Writes held held' form quiet name outcome bytes =
    Appends held held' (written form quiet name bytes)
    × (outcome ≡ outcome_of (verdict (strict reading) bytes))
