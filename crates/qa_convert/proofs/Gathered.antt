-- What is held when a group begins, goes on or ends.
use Rattle.std.proofs.Common.{◌≡◌, ◌∙◌, List, [], ◌∷◌, ◌++◌, Bool, true, false, cond, Err, IfSome, None, Ok, OnOk, Option, Result, Some, append_assoc, append-nil, refl, sym, ap}
use Rattle.std.specs.List.{AllByRecursion}
use Rattle.std.specs.Prelude.{◌&&◌, ◌||◌, option_to_list}
use Rattle.qa_convert.proofs.Grouped.{up_to_behind}
use Rattle.qa_convert.specs.Gathering.{IsLast, kept_events, told_by, told_open}
use Rattle.qa_convert.specs.Groups.{Gathers, Held, IsGroup, Keeps, UpToClose, closes, events, events_about, events_of, is_of_sent}
use Rattle.qa_convert.specs.declared.event.LoggedEvent.{LoggedEvent}
use Rattle.qa_convert.specs.declared.event.Said.{Said}
use Rattle.qa_convert.specs.declared.groups.About.{About}
use Rattle.qa_convert.specs.declared.groups.Group.{Group}
use Rattle.qa_convert.specs.declared.groups.Open.{Open}

-- ---- nothing ended

pub gathers_none : (old new : Held) (more : List LoggedEvent) (out : List Group) → new.reports_first ≡ old.reports_first
    → Keeps old.reports_first old.is_closed new.is_closed old.events more new.events → Gathers old more new out out
gathers_none old new more out order kept = record {
  ended = [];
  handed = sym (append-nil out);
  groups = tt;
  unclosed = tt;
  order = order;
  kept = kept;
}

-- ---- a report that was held

keeps_joined : (first c : Bool) (es joined more kept : List LoggedEvent) → Keeps first false c es (joined ++ more) kept → Keeps first false c (es ++ joined) more kept
keeps_joined first true es joined more kept is = rw (append_assoc es joined more) is
keeps_joined first false es joined more kept is = is ∙ sym (append_assoc es joined more)

-- a report that was held goes on its way
keeps_report : (first a c : Bool) (last : Option Group) (begun : Option Open) (r : Option LoggedEvent) (more kept : List LoggedEvent)
    → Keeps first a c (kept_events first a last begun None) (option_to_list r ++ more) kept → Keeps first a c (kept_events first a last begun r) more kept
keeps_report first true c last begun r more kept is = is
keeps_report first false c last begun r more kept is =
    keeps_joined first c (told_by first last ++ told_open first begun) (option_to_list r) more kept
    (rw append-nil at is)

pub gathers_report : (first a : Bool) (new : Held) (last : Option Group) (begun : Option Open) (r : Option LoggedEvent) (more : List LoggedEvent) (out out' : List Group)
    → Gathers record { events = kept_events first a last begun None; is_closed = a; reports_first = first } (option_to_list r ++ more) new out out'
    → Gathers record { events = kept_events first a last begun r; is_closed = a; reports_first = first } more new out out'
gathers_report first a new last begun r more out out' is = record {
  ended = is.ended;
  handed = is.handed;
  groups = is.groups;
  unclosed = is.unclosed;
  order = is.order;
  kept = keeps_report first a new.is_closed last begun r more (events first is.ended ++ new.events) is.kept;
}

-- ---- a group goes on, and a group begins

pub keeps_open : (first : Bool) (told olds news : List LoggedEvent) (more : List LoggedEvent) → news ≡ olds ++ more
    → Keeps first false false ((told ++ olds) ++ []) more ((told ++ news) ++ [])
keeps_open first told olds news more is =
    rw (append-nil (told ++ news), append-nil (told ++ olds), is) (sym (append_assoc told olds more))

-- ---- a group ends

pub or_none : (a : Bool) → (a || false) ≡ a
or_none true = refl
or_none false = refl

pub none_open : (closed : Bool) (begun : Option Open) → closed ≡ false → closed ≡ true → begun ≡ None
none_open true begun not is = cc
none_open false begun not is = cc

told_either : (b : Bool) (told beside : List LoggedEvent) (e : LoggedEvent) → told ≡ e ∷ [] → beside ≡ [] → cond b (beside ++ told) (told ++ beside) ≡ e ∷ []
told_either true told beside e is none = rw (is, none) refl
told_either false told beside e is none = rw (is, none) refl

pub told_begun : (first : Bool) (about : About) (beside : List LoggedEvent) (e : LoggedEvent) → events_about about ≡ e ∷ [] → beside ≡ []
    → cond (first && is_of_sent about) (beside ++ events_about about) (events_about about ++ beside) ≡ e ∷ []
told_begun first about beside e is none = told_either (first && is_of_sent about) (events_about about) beside e is none

pub keeps_opened : (first closed : Bool) (last : Option Group) (begun : Option Open) (report : Option LoggedEvent) (now : Open) (es : List LoggedEvent)
    → closed ≡ false → report ≡ None → events_of first now.group ≡ told_open first begun ++ es
    → Keeps first closed closed (kept_events first closed last begun report) es (kept_events first closed last (Some now) report)
keeps_opened first closed last begun report now es is none told =
    rw (is, none) (keeps_open first (told_by first last) (told_open first begun) (events_of first now.group) es told)

-- ---- a group ends

ended_groups : (closed : Bool) (last : Option Group) → IfSome last (IsLast closed) → AllByRecursion IsGroup (option_to_list last)
ended_groups closed None is = tt
ended_groups closed (Some g) is = (is.place, tt)

ended_unclosed : (closed : Bool) (last : Option Group) → closed ≡ false → IfSome last (IsLast closed) → AllByRecursion (λ (g : Group). closes g ≡ false) (option_to_list last)
ended_unclosed closed None not is = tt
ended_unclosed closed (Some g) not is = (rw (is.unsent, is.unclosed not) refl, tt)

pub told_last : (first : Bool) (last : Option Group) → events first (option_to_list last) ≡ told_by first last
told_last first None = refl
told_last first (Some g) = append-nil (events_of first g)

pub last_closed : (closed : Bool) (last : Option Group) → IfSome last (IsLast closed) → IfSome last (IsLast true)
last_closed closed None is = tt
last_closed closed (Some g) is = record { place = is.place; unsent = is.unsent; unclosed = λ no. cc }

pub some_group : (g : Group) → Some g ≡ None → ⊥
some_group g is = cc

-- the connection closes: this is left of the group
pub keeps_closed : (first closed : Bool) (last : Option Group) (begun : Option Open) (report : Option LoggedEvent) (es left : List LoggedEvent)
    → closed ≡ false → begun ≡ None → report ≡ None → UpToClose first es left
    → Keeps first closed true (kept_events first closed last begun report) es (told_by first last ++ left)
keeps_closed first closed last begun report es left not none report_is up =
    rw (not, none, report_is)
    (let told = told_by first last in
    let up_to : UpToClose first (((told ++ []) ++ []) ++ es) (told ++ left) =
    rw (append-nil (told ++ []), append-nil told) (up_to_behind first told es left up) in
    up_to)

pub gathers_closed : (first closed : Bool) (last : Option Group) (begun : Option Open) (report : Option LoggedEvent) (es : List LoggedEvent) (left : Group) (out out' : List Group)
    → closed ≡ false → begun ≡ None → report ≡ None → IfSome last (IsLast closed) → UpToClose first es (events_of first left) → out' ≡ out ++ option_to_list last
    → Gathers record { events = kept_events first closed last begun report; is_closed = closed; reports_first = first } es
    record { events = events_of first left; is_closed = true; reports_first = first } out out'
gathers_closed first closed last begun report es left out out' not none report_is is up handed = record {
  ended = option_to_list last;
  handed = handed;
  groups = ended_groups closed last is;
  unclosed = ended_unclosed closed last not is;
  order = refl;
  kept = rw (told_last first last) (keeps_closed first closed last begun report es (events_of first left) not none report_is up);
}

-- ---- two clauses of one result

pub on_ok_both : {T E P Q R : Type 0} (r : Result T E) → (P → Q → R) → OnOk r P → OnOk r Q → OnOk r R
on_ok_both (Ok x) f p q = f p q
on_ok_both (Err e) f p q = tt

pub same_event : (e : LoggedEvent) (s : Said) → e.said ≡ s → record { at = e.at; said = s } ≡ e
same_event e s is = let make : Said → LoggedEvent = λ t. record { at = e.at; said = t } in ap make (sym is)
