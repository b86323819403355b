-- Events that are passed on, and those that are left out.
use Rattle.std.proofs.Common.{◌≡◌, List, [], ◌∷◌, Bool, true, false, Option, append-nil, refl, sym}
use Rattle.qa_convert.proofs.Gathered.{gathers_none}
use Rattle.qa_convert.proofs.GroupTold.{tells_none}
use Rattle.qa_convert.proofs.Ordered.{same_follows}
use Rattle.qa_convert.specs.Groups.{Held, Keeps}
use Rattle.qa_convert.specs.Passing.{Passes, counted, is_left_out}
use Rattle.qa_convert.specs.Rules.{Rules}
use Rattle.qa_convert.specs.Telling.{Told}
use Rattle.qa_convert.specs.declared.event.LoggedEvent.{LoggedEvent}
use Rattle.qa_convert.specs.declared.groups.Group.{Group}
use Rattle.qa_convert.specs.declared.survey.Retry.{Retry}

keeps_same : (first closed : Bool) (es : List LoggedEvent) → Keeps first closed closed es [] es
keeps_same first true es = (refl, refl)
keeps_same first false es = sym (append-nil es)

pub passes_none : (rules : Rules) (waits : List LoggedEvent) (held : Held) (ready : List Group) (before after : Told) → after ≡ before
    → Passes rules waits held ready before [] rules waits held ready after
passes_none rules waits held ready before after same = record {
  ordered = [];
  follows = same_follows waits;
  written = [];
  gathers = gathers_none held held [] ready refl (keeps_same held.reports_first held.is_closed held.events);
  told = tells_none rules before after same;
  rules = refl;
}

counted_none : (retry : Option Retry) (e : LoggedEvent) → is_left_out retry e ≡ true → counted retry e ≡ []
counted_none retry e is = rw is refl

counted_one : (retry : Option Retry) (e : LoggedEvent) → is_left_out retry e ≡ false → counted retry e ≡ e ∷ []
counted_one retry e is = rw is refl

pub passes_left_out : (rules : Rules) (retry : Option Retry) (e : LoggedEvent) (waits : List LoggedEvent) (held : Held) (ready : List Group) (before after : Told) → is_left_out retry e ≡ true
    → after ≡ before → Passes rules waits held ready before (counted retry e) rules waits held ready after
passes_left_out rules retry e waits held ready before after is same = rw (counted_none retry e is) (passes_none rules waits held ready before after same)

pub passes_counted : (rules : Rules) (retry : Option Retry) (e : LoggedEvent) (waits : List LoggedEvent) (old : Held) (ready : List Group) (before : Told) (rules' : Rules)
    (waits' : List LoggedEvent) (new : Held) (ready' : List Group) (after : Told) → is_left_out retry e ≡ false
    → Passes rules waits old ready before (e ∷ []) rules' waits' new ready' after → Passes rules waits old ready before (counted retry e) rules' waits' new ready' after
passes_counted rules retry e waits old ready before rules' waits' new ready' after is passes = rw (counted_one retry e is) passes
