-- What is kept of the timer is that of the history.
use Rattle.std.proofs.Common.{◌≡◌, ◌∙◌, ◌+◌, ◌-◌, ℕ, max, nat_lt, List, [], ◌∷◌, Bool, true, false, Option, None, refl, sym, arith}
use Rattle.std.proofs.lemmas.Bool.Decides.{nat_tests}
use Rattle.std.specs.Prelude.{if◌then◌else◌}
use Rattle.qa_base.specs.declared.event.Event.{Event}
use Rattle.qa_base.specs.machine.Handshake.{is_validated}
use Rattle.qa_base.specs.machine.Timer.{Due, deadline, is_same_due, set_since}
use Rattle.qa_base.specs.values.Events.{time_of}
use Rattle.qa_base.specs.values.Settings.{Settings}
use Rattle.qa_sender.specs.Watch.{IsWatched}
use Rattle.qa_sender.specs.declared.watch.TimerWatch.{TimerWatch}

-- ---- late

pub late_is : (due since limit time : ℕ) → nat_lt limit (time - max due since) ≡ nat_lt (max due since + limit) time
late_is due since limit time = grind (arith, nat_tests)

-- ---- since when

none_either : (b : Bool) (due : Option Due) → due ≡ None → (if b then None else due) ≡ None
none_either true due none = refl
none_either false due none = none

-- before any event the timer is not set
pub watched_at_start : (watch : TimerWatch) → watch.due ≡ None → watch.since ≡ 0 → (c : Settings) → IsWatched watch c []
watched_at_start watch due since c = record {
  due = λ app_limited. due ∙ sym (none_either (is_validated c []) None refl);
  since = λ app_limited. since;
}

-- one event more
pub watched_more : (old new : TimerWatch) (c : Settings) (e : Event) (h : List Event) (due : Option Due) (now : ℕ) → due ≡ deadline c (e ∷ h) → now ≡ time_of e
    → new.due ≡ due → new.since ≡ (if is_same_due old.due due then old.since else now) → IsWatched old c h → IsWatched new c (e ∷ h)
watched_more old new c e h due now is_due is_now new_due new_since watched = record {
  due = λ app_limited. new_due ∙ is_due;
  since = λ app_limited.
      let is : (if is_same_due old.due due then old.since else now) ≡ set_since c (e ∷ h) = rw (watched.due app_limited, watched.since app_limited, is_due, is_now) refl in
      new_since ∙ is;
}
