-- What is told of a walk that ended, by what it hands out.
use Rattle.std.specs.Prelude.{⊤, ℕ, List, Option, Some, None, IfSome, IsSome, option_map, is_some}
use Rattle.qa_base.specs.declared.event.Event.{Event}
use Rattle.qa_base.specs.declared.rule.Rule.{Rule}
use Rattle.qa_base.specs.values.Settings.{Settings}
use Rattle.qa_check.specs.declared.taking.LastLine.{LastLine}
use Rattle.qa_format.specs.declared.form.Form.{Form}
use Rattle.qa_format.specs.declared.line.Line.{Line}
use Rattle.qa_format.specs.declared.line.Line.TheVariants as line
use Rattle.qa_format.specs.declared.verdict.Verdict.{Verdict}
use Rattle.qa_format.specs.declared.verdict.Verdict.TheVariants.{Accepted, Refused, Unreadable}
use Rattle.qa_why.specs.Why.{accepted_in, end_text, event_text, unreadable_in}

abbrev pub IsEvent : Line → Type 0
IsEvent (line.Event e) = ⊤
IsEvent l = ⊥

-- the event that a line says
abbrev pub event_of : Option Line → Option Event
event_of (Some (line.Event e)) = Some e
event_of said = None

-- why the line is refused that is handed out, or else the end
abbrev pub refusal_of : Form → List ℕ → ℕ → Rule → Option Settings → List Event → Option LastLine
    → List ℕ
refusal_of form name n r header h (Some last) =
    event_text form name n r header h (event_of last.said) last.bytes.items
refusal_of form name n r header h None = end_text form name n header h

-- what is told of a verdict, on the line that is handed out, or else on the end
abbrev pub told_of_end : Form → List ℕ → Verdict → Option Settings → List Event → Option LastLine
    → List ℕ
told_of_end form name (Accepted t) header h last = accepted_in form name t
told_of_end form name (Refused n r t) header h last = refusal_of form name n r header h last
told_of_end form name (Unreadable n f t) header h last =
    unreadable_in form name n f (is_some t) (option_map (λ x. x.bytes.items) last)

-- where the verdict is that an event is refused there is a judge, and a line that is handed out
-- says an event
abbrev pub CanRefuse : {J : Type 0} → Verdict → Option J → Option LastLine → Type 0
CanRefuse (Refused n r t) judge last =
    IsSome judge × IfSome last (λ x. IfSome x.said IsEvent × IsSome x.said)
CanRefuse v judge last = ⊤
