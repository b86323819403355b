-- When recovery began after an event, by what is lost by it.
use Rattle.std.proofs.Common.{◌≡◌, ◌∙◌, ◌+◌, ◌≤◌, ℕ, List, [], ◌∷◌, ◌++◌, map, fold, filter, reverse, Bool, true, false, Option, Some, None, refl, ap, arith}
use Rattle.std.proofs.lemmas.Bool.{lt-ltb, ltb-true}
use Rattle.std.specs.Prelude.{if◌then◌else◌}
use Rattle.qa_base.specs.declared.event.Event.{Event}
use Rattle.qa_base.specs.machine.Loss.{declared, is_persistent}
use Rattle.qa_base.specs.machine.Moments.{detection_of}
use Rattle.qa_base.specs.machine.Packets.{Packet, newly_acknowledged}
use Rattle.qa_base.specs.machine.Reno.{Control, Grow, on_persistent_congestion, persistent_congestions, grows, growth, on_congestion_event, congestion_events, is_app_limited, is_outside_recovery, latest_sent, moved, reno, event_mark, sent_mark}
use Rattle.qa_base.specs.values.Settings.{Settings}
use Rattle.qa_base.proofs.machine.Steps.{reno_after}
use Rattle.qa_laws.specs.machine.Conduct.{is_entered_by}

-- ---- what the moves make of it

grow_keeps : (d size : ℕ) (r : Control) (here : Bool)
    → (if here then record { window = r.window + growth d size r; ssthresh = r.ssthresh; recovery_start_time = r.recovery_start_time } else r).recovery_start_time ≡ r.recovery_start_time
grow_keeps d size r true = refl
grow_keeps d size r false = refl

growths_keep : (c : Settings) (d : ℕ) (r : Control) (ps : List Packet) → (fold (moved d) r (map (λ (p : Packet). Grow p.size (sent_mark c p)) ps)).recovery_start_time ≡ r.recovery_start_time
growths_keep c d r [] = refl
growths_keep c d r (p ∷ ps) = growths_keep c d (moved d r (Grow p.size (sent_mark c p))) ps ∙ grow_keeps d p.size r (is_outside_recovery r.recovery_start_time (sent_mark c p))

growths_if : (c : Settings) (d : ℕ) (r : Control) (app_limited : Bool) (new : List Packet) → (fold (moved d) r (if app_limited then [] else grows c new)).recovery_start_time ≡ r.recovery_start_time
growths_if c d r true new = refl
growths_if c d r false new = growths_keep c d r (reverse (filter (λ p. p.in_flight) new))

-- with no collapse of the window
abbrev pub begun : Settings → Option ℕ → ℕ → List Packet → Option ℕ
begun c recovery now ps = if is_entered_by c recovery ps then Some now else recovery

hit_by : (d last_sent now : ℕ) (r : Control) (here : Bool) → is_outside_recovery r.recovery_start_time last_sent ≡ here
    → (on_congestion_event d last_sent now r).recovery_start_time ≡ (if here then Some now else r.recovery_start_time)
hit_by d last_sent now r true is = rw is refl
hit_by d last_sent now r false is = rw is refl

recovery_by : (c : Settings) (d now : ℕ) (r : Control) (ps : List Packet) (persistent app_limited : Bool) (new : List Packet)
    → (fold (moved d) r (congestion_events c now ps ++ persistent_congestions persistent ++ (if app_limited then [] else grows c new))).recovery_start_time ≡ (if persistent then None else begun c r.recovery_start_time now ps)
recovery_by c d now r [] true app_limited new = growths_if c d (on_persistent_congestion d r) app_limited new
recovery_by c d now r (p ∷ ps) true app_limited new = growths_if c d (on_persistent_congestion d (on_congestion_event d (latest_sent c (p ∷ ps)) now r)) app_limited new
recovery_by c d now r [] false app_limited new = growths_if c d r app_limited new
recovery_by c d now r (p ∷ ps) false app_limited new =
    growths_if c d (on_congestion_event d (latest_sent c (p ∷ ps)) now r) app_limited new ∙ hit_by d (latest_sent c (p ∷ ps)) now r (is_outside_recovery r.recovery_start_time (latest_sent c (p ∷ ps))) refl

pub recovery_is : (c : Settings) (e : Event) (h : List Event)
    → (reno c (e ∷ h)).recovery_start_time ≡ (if is_persistent c (e ∷ h) then None else begun c (reno c h).recovery_start_time (event_mark c (detection_of (e ∷ h))) (declared c (e ∷ h)))
recovery_is c e h =
    ap (λ (r : Control). r.recovery_start_time) (reno_after c e h)
    ∙ recovery_by c c.max_datagram_size (event_mark c (detection_of (e ∷ h))) (reno c h) (declared c (e ∷ h)) (is_persistent c (e ∷ h)) (is_app_limited e) (newly_acknowledged (e ∷ h))

-- ---- some packets, and more of them

latest_if : (c : Settings) (p : Packet) (some more : List Packet) (a b : Bool) → (a ≡ true → b ≡ true) → latest_sent c some ≤ latest_sent c more
    → latest_sent c (if a then p ∷ some else some) ≤ latest_sent c (if b then p ∷ more else more)
latest_if c p some more true true keeps rest = omega (arith, rest)
latest_if c p some more true false keeps rest = let never = keeps refl in cc
latest_if c p some more false true keeps rest = omega (arith, rest)
latest_if c p some more false false keeps rest = rest

latest_more : (c : Settings) (f g : Packet → Bool) (ps : List Packet) → ((p : Packet) → f p ≡ true → g p ≡ true) → latest_sent c (filter f ps) ≤ latest_sent c (filter g ps)
latest_more c f g [] keeps = omega arith
latest_more c f g (p ∷ ps) keeps = latest_if c p (filter f ps) (filter g ps) (f p) (g p) (keeps p) (latest_more c f g ps keeps)

outside_more : (recovery : Option ℕ) (sent more : ℕ) → sent ≤ more → is_outside_recovery recovery sent ≡ true → is_outside_recovery recovery more ≡ true
outside_more None sent more le is = refl
outside_more (Some began) sent more le is = let less = ltb-true began sent is in lt-ltb began more (omega (arith, less, le))

entered_if : (c : Settings) (recovery : Option ℕ) (some more : List Packet) → (more ≡ [] → some ≡ []) → latest_sent c some ≤ latest_sent c more → is_entered_by c recovery some ≡ true
    → is_entered_by c recovery more ≡ true
entered_if c recovery [] more none le is = cc
entered_if c recovery (p ∷ some) [] none le is = let never = none refl in cc
entered_if c recovery (p ∷ some) (q ∷ more) none le is = outside_more recovery (latest_sent c (p ∷ some)) (latest_sent c (q ∷ more)) le is

none_if : (p : Packet) (some more : List Packet) (a b : Bool) → (a ≡ true → b ≡ true) → (more ≡ [] → some ≡ []) → (if b then p ∷ more else more) ≡ [] → (if a then p ∷ some else some) ≡ []
none_if p some more true true keeps rest none = cc
none_if p some more true false keeps rest none = let never = keeps refl in cc
none_if p some more false true keeps rest none = cc
none_if p some more false false keeps rest none = rest none

none_more : (f g : Packet → Bool) (ps : List Packet) → ((p : Packet) → f p ≡ true → g p ≡ true) → filter g ps ≡ [] → filter f ps ≡ []
none_more f g [] keeps none = refl
none_more f g (p ∷ ps) keeps none = none_if p (filter f ps) (filter g ps) (f p) (g p) (keeps p) (none_more f g ps keeps) none

-- what enters recovery does with more packets
pub entered_more : (c : Settings) (recovery : Option ℕ) (f g : Packet → Bool) (ps : List Packet) → ((p : Packet) → f p ≡ true → g p ≡ true)
    → is_entered_by c recovery (filter f ps) ≡ true → is_entered_by c recovery (filter g ps) ≡ true
entered_more c recovery f g ps keeps is =
    entered_if c recovery (filter f ps) (filter g ps) (none_more f g ps keeps) (latest_more c f g ps keeps) is

-- ---- a detection that is completed

again_if : (now : ℕ) (b : Bool) → (if b then Some now else Some now) ≡ Some now
again_if now true = refl
again_if now false = refl

begun_again : (c : Settings) (now : ℕ) (recovery : Option ℕ) (ps : List Packet) (some more : Bool) → is_entered_by c recovery ps ≡ more → (some ≡ true → more ≡ true)
    → begun c (if some then Some now else recovery) now ps ≡ (if more then Some now else recovery)
begun_again c now recovery ps true true is keeps = again_if now (is_entered_by c (Some now) ps)
begun_again c now recovery ps true false is keeps = let never = keeps refl in cc
begun_again c now recovery ps false more is keeps = ap (λ b. if b then Some now else recovery) is

-- recovery begins as by all that is lost at once
pub begun_twice : (c : Settings) (now : ℕ) (recovery : Option ℕ) (some more : List Packet) (few all : Bool) → (few ≡ true → all ≡ true) → (is_entered_by c recovery some ≡ true → is_entered_by c recovery more ≡ true)
    → (if all then None else begun c (if few then None else begun c recovery now some) now more) ≡ (if all then None else begun c recovery now more)
begun_twice c now recovery some more few true persistent_congestions keeps = refl
begun_twice c now recovery some more true false persistent_congestions keeps = let never = persistent_congestions refl in cc
begun_twice c now recovery some more false false persistent_congestions keeps = begun_again c now recovery more (is_entered_by c recovery some) (is_entered_by c recovery more) refl keeps
