-- Entries into recovery, by the last packet that is lost by an event.
use Rattle.std.proofs.Common.{◌≡◌, ◌∙◌, ◌+◌, ℕ, List, [], ◌∷◌, ◌++◌, Bool, true, false, Option, Some, None, option_map, refl, ap, map}
use Rattle.std.specs.Prelude.{if◌then◌else◌}
use Rattle.qa_base.specs.declared.event.Event.{Event}
use Rattle.qa_base.specs.machine.Permission.{recovery_spent, is_recovery_packet}
use Rattle.qa_base.specs.machine.Loss.{declared, is_persistent}
use Rattle.qa_base.specs.machine.Moments.{before_last, detection_of}
use Rattle.qa_base.specs.machine.Packets.{Packet, newly_acknowledged}
use Rattle.qa_base.specs.machine.Reno.{Move, Grow, reno, is_entry, enters, event_mark, sent_mark, grows, persistent_congestions, is_app_limited}
use Rattle.qa_base.specs.values.Settings.{Settings}
use Rattle.qa_reference.specs.Words.{last_sending, hits_at, entry_by}
use Rattle.qa_reference.proofs.Moved.{hits_is}
use Rattle.qa_base.proofs.machine.Steps.{recovery_spent_after}

no_growth_enters : (c : Settings) (r : Option ℕ) (ps : List Packet) → enters r (map (λ (p : Packet). Grow p.size (sent_mark c p)) ps) ≡ false
no_growth_enters c r [] = refl
no_growth_enters c r (p ∷ ps) = refl

open_growth : (c : Settings) (r : Option ℕ) (app_limited : Bool) (ps : List Packet) → enters r (if app_limited then [] else map (λ (p : Packet). Grow p.size (sent_mark c p)) ps) ≡ false
open_growth c r true ps = refl
open_growth c r false ps = no_growth_enters c r ps

by_last : (r : Option ℕ) (now : ℕ) (last : Option ℕ) (b : Bool) (zs : List Move) → enters r zs ≡ false → enters r ((hits_at now last ++ persistent_congestions b) ++ zs) ≡ entry_by r last
by_last r now (Some t) b zs none = refl
by_last r now None true zs none = refl
by_last r now None false zs none = none

pub entry_is : (c : Settings) (e : Event) (h : List Event) → is_entry c (e ∷ h) ≡ entry_by (reno c (before_last (detection_of (e ∷ h)))).recovery_start_time (last_sending c (declared c (e ∷ h)))
entry_is c e h =
    let zs : List Move = if is_app_limited e then [] else grows c (newly_acknowledged (e ∷ h)) in
    ap (λ (xs : List Move). enters (reno c (before_last (detection_of (e ∷ h)))).recovery_start_time ((xs ++ persistent_congestions (is_persistent c (e ∷ h))) ++ zs)) (hits_is c (event_mark c (detection_of (e ∷ h))) (declared c (e ∷ h)))
    ∙ by_last (reno c (before_last (detection_of (e ∷ h)))).recovery_start_time (event_mark c (detection_of (e ∷ h))) (last_sending c (declared c (e ∷ h))) (is_persistent c (e ∷ h)) zs (open_growth c (reno c (before_last (detection_of (e ∷ h)))).recovery_start_time (is_app_limited e) _)

pub recovery_spent_is : (c : Settings) (e : Event) (h : List Event)
    → recovery_spent c (e ∷ h) ≡ (if entry_by (reno c (before_last (detection_of (e ∷ h)))).recovery_start_time (last_sending c (declared c (e ∷ h))) then Some 0 else option_map (λ n. (if is_recovery_packet (e ∷ h) then 1 else 0) + n) (recovery_spent c h))
recovery_spent_is c e h = recovery_spent_after c e h ∙ ap (λ (b : Bool). if b then Some 0 else option_map (λ n. (if is_recovery_packet (e ∷ h) then 1 else 0) + n) (recovery_spent c h)) (entry_is c e h)
