-- Entries into recovery, by the last packet that is lost by an event.
use Rattle.std.proofs.Common.{◌≡◌, ◌∙◌, ℕ, List, [], ◌∷◌, ◌++◌, Bool, true, false, Option, Some, None, refl, sym, ap, map}
use Rattle.std.specs.Prelude.{if◌then◌else◌}
use Rattle.qa_base.specs.declared.event.Event.{Event}
use Rattle.qa_base.specs.machine.Loss.{declared, is_persistent}
use Rattle.qa_base.specs.machine.Moments.{before_last, detection_of}
use Rattle.qa_base.specs.machine.Packets.{Packet, newly_acknowledged}
use Rattle.qa_base.specs.machine.Reno.{Control, Move, Grow, persistent_congestions, enters, event_mark, sent_mark, grows, is_entry, is_app_limited, reno}
use Rattle.qa_base.specs.values.Settings.{Settings}
use Rattle.qa_sender.specs.connection.Steps.{enters_at, hits_at, last_sent}
use Rattle.qa_sender.proofs.connection_lemmas.Grown.{hits_is}

no_growth_enters : (c : Settings) (r : Option ℕ) (ps : List Packet) → enters r (map (λ (p : Packet). Grow p.size (sent_mark c p)) ps) ≡ false
no_growth_enters c r [] = refl
no_growth_enters c r (p ∷ ps) = refl

open_growth : (c : Settings) (r : Option ℕ) (app_limited : Bool) (ps : List Packet) → enters r (if app_limited then [] else map (λ (p : Packet). Grow p.size (sent_mark c p)) ps) ≡ false
open_growth c r true ps = refl
open_growth c r false ps = no_growth_enters c r ps

by_last : (r : Option ℕ) (now : ℕ) (last : Option ℕ) (b : Bool) (zs : List Move) → enters r zs ≡ false → enters r ((hits_at now last ++ persistent_congestions b) ++ zs) ≡ enters_at r last
by_last r now (Some t) b zs none = refl
by_last r now None true zs none = refl
by_last r now None false zs none = none

-- an event enters recovery by the last packet that is lost by it, and by what NewReno was before their detection
pub entry_is : (c : Settings) (e : Event) (h : List Event)
    → enters_at (reno c (before_last (detection_of (e ∷ h)))).recovery_start_time (last_sent c (declared c (e ∷ h))) ≡ is_entry c (e ∷ h)
entry_is c e h =
    let r = (reno c (before_last (detection_of (e ∷ h)))).recovery_start_time in
    let now = event_mark c (detection_of (e ∷ h)) in
    let zs : List Move = if is_app_limited e then [] else grows c (newly_acknowledged (e ∷ h)) in
    sym (ap (λ (xs : List Move). enters r ((xs ++ persistent_congestions (is_persistent c (e ∷ h))) ++ zs)) (hits_is c now (declared c (e ∷ h)))
    ∙ by_last r now (last_sent c (declared c (e ∷ h))) (is_persistent c (e ∷ h)) zs (open_growth c r (is_app_limited e) _))

-- .. from what is told of it
pub entry_of : (c : Settings) (e : Event) (h : List Event) (before : Control) (last : Option ℕ) → before ≡ reno c (before_last (detection_of (e ∷ h)))
    → last ≡ last_sent c (declared c (e ∷ h)) → enters_at before.recovery_start_time last ≡ is_entry c (e ∷ h)
entry_of c e h before last is is_last = rw (is, is_last) (entry_is c e h)

-- it does not where none is lost by it
pub no_entry : (c : Settings) (e : Event) (h : List Event) → declared c (e ∷ h) ≡ [] → is_entry c (e ∷ h) ≡ false
no_entry c e h free = sym (entry_of c e h (reno c (before_last (detection_of (e ∷ h)))) None refl (ap (last_sent c) (sym free)))
