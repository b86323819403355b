-- Where no packet has a time at which recovery began, the window is the same by the order of the lines and by times.
use Rattle.std.proofs.Common.{◌≡◌, ◌∙◌, ◌+◌, ◌&&◌, ◌||◌, ℕ, List, [], ◌∷◌, ◌++◌, Bool, true, false, Option, Some, None, refl, sym, ap, ap₂, subst, arith, fold, map, filter, length, max, reverse, Contains}
use Rattle.std.proofs.lemmas.Bool.{le-ltb, lt-ltb, ltb-false, ltb-true}
use Rattle.std.proofs.lemmas.List.{append_assoc}
use Rattle.std.specs.List.{AllByRecursion, list_any}
use Rattle.std.specs.Prelude.{◌≢◌, nat_lt, if◌then◌else◌}
use Rattle.qa_base.specs.declared.event.Event.{Event}
use Rattle.qa_base.specs.declared.event.Event.TheVariants.{Lost, Sent, Timer}
use Rattle.qa_base.specs.declared.space.TimerKind.TheVariants.{Loss, Pto}
use Rattle.qa_base.specs.declared.space.Space.{Space}
use Rattle.qa_base.specs.machine.Detection.{are_ends, detection_by, is_at, is_found, is_free_by, is_left, is_owed_by, is_past_threshold, is_unsettled, may_be_spared}
use Rattle.qa_base.specs.machine.Estimates.{found_by, rtt, sampled, with_sample_of}
use Rattle.qa_base.specs.machine.Loss.{declared, is_free, is_owed, is_persistent, owed}
use Rattle.qa_base.specs.history.Declared.{is_lost_now}
use Rattle.qa_base.specs.machine.Moments.{before_last, detection_of}
use Rattle.qa_base.specs.machine.Packets.{Packet, packets, is_newly_acknowledged, is_of, largest_acknowledged, newly_acknowledged}
use Rattle.qa_base.specs.machine.Reno.{Control, Grow, Move, congestion_events, event_mark, grow, grows, growth, is_app_limited, is_entry, is_outside_recovery, latest_sent, moved, on_congestion_event, on_persistent_congestion, persistent_congestions, reno}
use Rattle.qa_base.specs.machine.Rtt.{Estimate, after_congestion}
use Rattle.qa_base.specs.machine.Rules.{IsRun}
use Rattle.qa_base.specs.machine.Window.{reported_window, ssthresh, ssthresh_by, window, window_by}
use Rattle.qa_base.specs.values.Events.{declares_lost, time_of}
use Rattle.qa_base.specs.values.Settings.{Settings}
use Rattle.qa_base.proofs.history.LostNow.{lost_now_part}
use Rattle.qa_base.proofs.history.Pairs.{at_one, each_turned, of_each, same_part}
use Rattle.qa_base.proofs.machine.Declared.{declared_is, owed_is}
use Rattle.qa_base.proofs.machine.Steps.{reno_after}
use Rattle.qa_base.proofs.machine.WindowBound.{each_of_part}
use Rattle.qa_laws.specs.machine.Alike.{NoneAtStarts, with_recovery_by_order}
use Rattle.qa_laws.specs.machine.Conduct.{is_entered_by}
use Rattle.qa_laws.proofs.machine.ConductOfWindows.{entry_by_losses, grow_keeps, growths_if, growths_keep, hit_by}
use Rattle.qa_laws.proofs.machine.Marks.{order_is_time}

-- ---- losses are the same

past : (c : Settings) (b : Bool) (r : Estimate) (h : List Event) (now : ℕ) (most : Option ℕ) (p : Packet) → is_past_threshold (with_recovery_by_order c b) r h now most p ≡ is_past_threshold c r h now most p
past c b r h now None p = refl
past c b r h now (Some m) p = refl

found : (c : Settings) (b : Bool) (r : Estimate) (h : List Event) (p : Packet) (d : Option (Space × ℕ)) → is_at (is_found (with_recovery_by_order c b) r h) p d ≡ is_at (is_found c r h) p d
found c b r h p None = refl
found c b r h p (Some d) = ap (λ here. is_of d.0 p && (p.in_flight && is_unsettled h p && here)) (past c b r h d.1 (largest_acknowledged h d.0) p)

spared : (c : Settings) (b : Bool) (r : Estimate) (h : List Event) (now : ℕ) (most : Option ℕ) (p : Packet) → may_be_spared (with_recovery_by_order c b) r h now most p ≡ may_be_spared c r h now most p
spared c b r h now None p = refl
spared c b r h now (Some m) p = refl

left : (c : Settings) (b : Bool) (r : Estimate) (h : List Event) (p : Packet) (d : Option (Space × ℕ)) → is_at (is_left (with_recovery_by_order c b) r h) p d ≡ is_at (is_left c r h) p d
left c b r h p None = refl
left c b r h p (Some d) = ap (λ here. is_of d.0 p && (p.in_flight && is_unsettled h p && here)) (spared c b r h d.1 (largest_acknowledged h d.0) p)

detects : (c : Settings) (b : Bool) (r : Estimate) (h : List Event) → detection_by (with_recovery_by_order c b) r h ≡ detection_by c r h
detects c b r [] = refl
detects c b r (Timer time Loss space ∷ h) = refl
detects c b r (Timer time Pto space ∷ h) = refl
detects c b r (_ ∷ h) = refl

owes : (c : Settings) (b : Bool) (r : Estimate) (h : List Event) (p : Packet) → is_owed_by (with_recovery_by_order c b) r h p ≡ is_owed_by c r h p
owes c b r h p = ap (is_at (is_found (with_recovery_by_order c b) r h) p) (detects c b r h) ∙ found c b r h p (detection_by c r h)

frees : (c : Settings) (b : Bool) (r : Estimate) (h : List Event) (p : Packet) → is_free_by (with_recovery_by_order c b) r h p ≡ is_free_by c r h p
frees c b r h p = ap (is_at (is_left (with_recovery_by_order c b) r h) p) (detects c b r h) ∙ left c b r h p (detection_by c r h)

is_owed_alike : (c : Settings) (b : Bool) (h : List Event) → sampled (with_recovery_by_order c b) h ≡ sampled c h → (p : Packet) → is_owed (with_recovery_by_order c b) h p ≡ is_owed c h p
is_owed_alike c b h same p = ap (λ r. is_owed_by (with_recovery_by_order c b) r h p) same ∙ owes c b (sampled c h) h p

is_free_alike : (c : Settings) (b : Bool) (h : List Event) → sampled (with_recovery_by_order c b) h ≡ sampled c h → (p : Packet) → is_free (with_recovery_by_order c b) h p ≡ is_free c h p
is_free_alike c b h same p = ap (λ r. is_free_by (with_recovery_by_order c b) r h p) same ∙ frees c b (sampled c h) h p

owed_alike : (c : Settings) (b : Bool) (h : List Event) → sampled (with_recovery_by_order c b) h ≡ sampled c h → owed (with_recovery_by_order c b) h ≡ owed c h
owed_alike c b h same =
    owed_is (with_recovery_by_order c b) h
    ∙ same_part (is_owed (with_recovery_by_order c b) h) (is_owed c h) (packets h) (of_each (λ p. is_owed (with_recovery_by_order c b) h p ≡ is_owed c h p) (packets h) (λ p has. is_owed_alike c b h same p))
    ∙ sym (owed_is c h)

same_any : (f g : Packet → Bool) (ps : List Packet) → AllByRecursion (λ p. f p ≡ g p) ps → list_any f ps ≡ list_any g ps
same_any f g [] same = refl
same_any f g (p ∷ ps) same = rw (same.0, same_any f g ps same.1) refl

lost_alike : (c : Settings) (b : Bool) (e : Event) (h : List Event) → sampled (with_recovery_by_order c b) h ≡ sampled c h → sampled (with_recovery_by_order c b) (e ∷ h) ≡ sampled c (e ∷ h)
    → declared (with_recovery_by_order c b) (e ∷ h) ≡ declared c (e ∷ h)
lost_alike c b (Lost time space ranges) h before now =
    let d = with_recovery_by_order c b in
    let e = Lost time space ranges in
    let frees : Packet → Bool = λ p. is_free d h p && declares_lost p.space p.number e in
    let freed : Packet → Bool = λ p. is_free c h p && declares_lost p.space p.number e in
    let names : (p : Packet) → frees p ≡ freed p = λ p. ap (λ here. here && declares_lost p.space p.number e) (is_free_alike c b h before p) in
    let takes : (p : Packet) → (is_owed d h p || frees p) ≡ (is_owed c h p || freed p) = λ p. ap₂ (λ x y. x || y) (is_owed_alike c b h before p) (names p) in
    declared_is d time space ranges h
    ∙ ap₂ (λ (any : Bool) (ps : List Packet). if any then ps else [])
    (same_any frees freed (packets h) (of_each (λ p. frees p ≡ freed p) (packets h) (λ p has. names p)))
    (same_part (λ p. is_owed d h p || frees p) (λ p. is_owed c h p || freed p) (packets h) (of_each (λ p. (is_owed d h p || frees p) ≡ (is_owed c h p || freed p)) (packets h) (λ p has. takes p)))
    ∙ sym (declared_is c time space ranges h)
lost_alike c b e h before now = owed_alike c b (e ∷ h) now

record SameLosses (c : Settings) (b : Bool) (h : List Event) : Type 0 where
  samples : sampled (with_recovery_by_order c b) h ≡ sampled c h
  estimate : rtt (with_recovery_by_order c b) h ≡ rtt c h
  lost : declared (with_recovery_by_order c b) h ≡ declared c h
  collapses : is_persistent (with_recovery_by_order c b) h ≡ is_persistent c h

same_losses : (c : Settings) (b : Bool) (h : List Event) → SameLosses c b h
same_losses c b [] = record { samples = refl; estimate = refl; lost = refl; collapses = refl }
same_losses c b (e ∷ h) =
    let before = same_losses c b h in
    let own : with_sample_of (with_recovery_by_order c b) (e ∷ h) (rtt (with_recovery_by_order c b) h) ≡ with_sample_of c (e ∷ h) (rtt c h) = ap (with_sample_of c (e ∷ h)) before.estimate in
    let samples : sampled (with_recovery_by_order c b) (e ∷ h) ≡ sampled c (e ∷ h) = ap₂ (found_by e) before.samples own in
    let lost = lost_alike c b e h before.samples samples in
    let collapses = ap₂ (λ r ps. list_any (λ p. list_any (are_ends c r (e ∷ h) p) ps) ps) samples lost in
    record { samples = samples; estimate = ap₂ (after_congestion c) collapses own; lost = lost; collapses = collapses }

-- ---- recovery is told alike

abbrev timed : Settings → Settings
timed c = with_recovery_by_order c false

abbrev ordered : Settings → Settings
ordered c = with_recovery_by_order c true

-- the same, but that recovery began then
abbrev at : Control → Option ℕ → Control
at r began = record { window = r.window; ssthresh = r.ssthresh; recovery_start_time = began }

-- the packet was sent in recovery by its time and by its place, or by neither
abbrev AgreeOn : Option ℕ → Option ℕ → Packet → Type 0
AgreeOn began placed p = is_outside_recovery placed p.place ≡ is_outside_recovery began p.time

-- the second is the first, but for when recovery began, and that is the same for these packets
record Like (ps : List Packet) (r q : Control) : Type 0 where
  placed : Option ℕ
  is : q ≡ at r placed
  agree : AllByRecursion (AgreeOn r.recovery_start_time placed) ps

nowhere : (ps : List Packet) → AllByRecursion (AgreeOn None None) ps
nowhere ps = of_each (AgreeOn None None) ps (λ p has. refl)

lt_max_if : (n a x : ℕ) (here there : Bool) → nat_lt n a ≡ here → nat_lt n x ≡ there → nat_lt n (max a x) ≡ (here || there)
lt_max_if n a x true there is other = let less = ltb-true n a is in lt-ltb n (max a x) (omega (arith, less))
lt_max_if n a x false true is other = let less = ltb-true n x other in lt-ltb n (max a x) (omega (arith, less))
lt_max_if n a x false false is other = let least = ltb-false n a is in let most = ltb-false n x other in le-ltb n (max a x) (omega (arith, least, most))

lt_max : (n a x : ℕ) → nat_lt n (max a x) ≡ (nat_lt n a || nat_lt n x)
lt_max n a x = lt_max_if n a x (nat_lt n a) (nat_lt n x) refl refl

late_alike : (c : Settings) (t n : ℕ) (qs : List Packet) → AllByRecursion (AgreeOn (Some t) (Some n)) qs → nat_lt n (latest_sent (ordered c) qs) ≡ nat_lt t (latest_sent (timed c) qs)
late_alike c t n [] all = le-ltb n 0 (omega arith) ∙ sym (le-ltb t 0 (omega arith))
late_alike c t n (p ∷ qs) all =
    lt_max n p.place (latest_sent (ordered c) qs)
    ∙ (ap₂ (λ x y. x || y) all.0 (late_alike c t n qs all.1) ∙ sym (lt_max t p.time (latest_sent (timed c) qs)))

-- and so for the last of some
latest_alike : (c : Settings) (began placed : Option ℕ) (p : Packet) (qs : List Packet) → AllByRecursion (AgreeOn began placed) (p ∷ qs)
    → is_outside_recovery placed (latest_sent (ordered c) (p ∷ qs)) ≡ is_outside_recovery began (latest_sent (timed c) (p ∷ qs))
latest_alike c None None p qs all = refl
latest_alike c None (Some n) p qs all = let less = ltb-true n p.place all.0 in lt-ltb n (max p.place (latest_sent (ordered c) qs)) (omega (arith, less))
latest_alike c (Some t) None p qs all = let less = ltb-true t p.time (sym all.0) in sym (lt-ltb t (max p.time (latest_sent (timed c) qs)) (omega (arith, less)))
latest_alike c (Some t) (Some n) p qs all = late_alike c t n (p ∷ qs) all

-- ---- growth

push : (b o : Bool) (x y : Control) (placed : Option ℕ) → o ≡ b → (if o then at x placed else at y placed) ≡ at (if b then x else y) placed
push true true x y placed same = refl
push false false x y placed same = refl
push true false x y placed same = cc
push false true x y placed same = cc

grow_at : (d : ℕ) (r : Control) (placed : Option ℕ) (p : Packet) → AgreeOn r.recovery_start_time placed p → grow d p.size p.place (at r placed) ≡ at (grow d p.size p.time r) placed
grow_at d r placed p agree =
    push (is_outside_recovery r.recovery_start_time p.time) (is_outside_recovery placed p.place)
    (record { window = r.window + growth d p.size r; ssthresh = r.ssthresh; recovery_start_time = r.recovery_start_time }) r placed agree

grown_at : (d : ℕ) (r : Control) (placed : Option ℕ) (qs : List Packet) → AllByRecursion (AgreeOn r.recovery_start_time placed) qs
    → fold (moved d) (at r placed) (map (λ (p : Packet). Grow p.size p.place) qs) ≡ at (fold (moved d) r (map (λ (p : Packet). Grow p.size p.time) qs)) placed
grown_at d r placed [] all = refl
grown_at d r placed (p ∷ qs) all =
    let keeps = grow_keeps d p.size r (is_outside_recovery r.recovery_start_time p.time) in
    ap (λ (k : Control). fold (moved d) k (map (λ (p : Packet). Grow p.size p.place) qs)) (grow_at d r placed p all.0)
    ∙ grown_at d (grow d p.size p.time r) placed qs (subst (λ (began : Option ℕ). AllByRecursion (AgreeOn began placed) qs) (sym keeps) all.1)

growth_like : (c : Settings) (d : ℕ) (limited : Bool) (ps new : List Packet) (r q : Control) → Like ps r q → ((P : Packet → Type 0) → AllByRecursion P ps → AllByRecursion P new)
    → Like ps (fold (moved d) r (if limited then [] else grows (timed c) new)) (fold (moved d) q (if limited then [] else grows (ordered c) new))
growth_like c d true ps new r q like within = like
growth_like c d false ps new r q like within =
    let qs = reverse (filter (λ (p : Packet). p.in_flight) new) in
    let all = each_turned (AgreeOn r.recovery_start_time like.placed) (filter (λ (p : Packet). p.in_flight) new)
    (each_of_part (AgreeOn r.recovery_start_time like.placed) (λ (p : Packet). p.in_flight) new (within (AgreeOn r.recovery_start_time like.placed) like.agree)) in
    record {
      placed = like.placed;
      is = ap (λ (k : Control). fold (moved d) k (map (λ (p : Packet). Grow p.size p.place) qs)) like.is ∙ grown_at d r like.placed qs all;
      agree = subst (λ (began : Option ℕ). AllByRecursion (AgreeOn began like.placed) ps) (sym (growths_keep (timed c) d r qs)) like.agree;
    }

-- ---- losses

hit_is : (d t n : ℕ) (r : Control) (placed : Option ℕ) (last_t last_n : ℕ) (b : Bool) → is_outside_recovery r.recovery_start_time last_t ≡ b → is_outside_recovery placed last_n ≡ b
    → (k : Option ℕ) × (on_congestion_event d last_n n (at r placed) ≡ at (on_congestion_event d last_t t r) k)
hit_is d t n r placed last_t last_n true by_time by_order = rw (by_time, by_order) (Some n, refl)
hit_is d t n r placed last_t last_n false by_time by_order = rw (by_time, by_order) (placed, refl)

hit_like : (d t n : ℕ) (r : Control) (placed : Option ℕ) (last_t last_n : ℕ) (b : Bool) (ps : List Packet) → is_outside_recovery r.recovery_start_time last_t ≡ b → is_outside_recovery placed last_n ≡ b
    → AllByRecursion (AgreeOn r.recovery_start_time placed) ps → (b ≡ true → AllByRecursion (AgreeOn (Some t) (Some n)) ps)
    → Like ps (on_congestion_event d last_t t r) (on_congestion_event d last_n n (at r placed))
hit_like d t n r placed last_t last_n true ps by_time by_order agree fresh = rw (by_time, by_order) (record { placed = Some n; is = refl; agree = fresh refl })
hit_like d t n r placed last_t last_n false ps by_time by_order agree fresh = rw (by_time, by_order) (record { placed = placed; is = refl; agree = agree })

collapsed : (d : ℕ) (ps : List Packet) (r q : Control) (k : Option ℕ) → q ≡ at r k → Like ps (on_persistent_congestion d r) (on_persistent_congestion d q)
collapsed d ps r q k is = record { placed = None; is = ap (on_persistent_congestion d) is; agree = nowhere ps }

-- ---- one event

step : (c : Settings) (d t n : ℕ) (r : Control) (placed : Option ℕ) (ps lost new : List Packet) (persistent limited : Bool) → AllByRecursion (AgreeOn r.recovery_start_time placed) ps
    → ((P : Packet → Type 0) → AllByRecursion P ps → AllByRecursion P lost)
    → ((P : Packet → Type 0) → AllByRecursion P ps → AllByRecursion P new)
    → ((fold (moved d) r (congestion_events (timed c) t lost ++ persistent_congestions persistent ++ (if limited then [] else grows (timed c) new))).recovery_start_time ≡ Some t
    → AllByRecursion (AgreeOn (Some t) (Some n)) ps)
    → Like ps (fold (moved d) r (congestion_events (timed c) t lost ++ persistent_congestions persistent ++ (if limited then [] else grows (timed c) new)))
    (fold (moved d) (at r placed) (congestion_events (ordered c) n lost ++ persistent_congestions persistent ++ (if limited then [] else grows (ordered c) new)))
step c d t n r placed ps [] new false limited agree losses within fresh = growth_like c d limited ps new r (at r placed) (record { placed = placed; is = refl; agree = agree }) within
step c d t n r placed ps [] new true limited agree losses within fresh =
    growth_like c d limited ps new (on_persistent_congestion d r) (on_persistent_congestion d (at r placed)) (collapsed d ps r (at r placed) placed refl) within
step c d t n r placed ps (p ∷ lost) new true limited agree losses within fresh =
    let last_t = latest_sent (timed c) (p ∷ lost) in
    let last_n = latest_sent (ordered c) (p ∷ lost) in
    let same = latest_alike c r.recovery_start_time placed p lost (losses (AgreeOn r.recovery_start_time placed) agree) in
    let hit = hit_is d t n r placed last_t last_n (is_outside_recovery r.recovery_start_time last_t) refl same in
    growth_like c d limited ps new (on_persistent_congestion d (on_congestion_event d last_t t r)) (on_persistent_congestion d (on_congestion_event d last_n n (at r placed)))
    (collapsed d ps (on_congestion_event d last_t t r) (on_congestion_event d last_n n (at r placed)) hit.0 hit.1) within
step c d t n r placed ps (p ∷ lost) new false limited agree losses within fresh =
    let last_t = latest_sent (timed c) (p ∷ lost) in
    let last_n = latest_sent (ordered c) (p ∷ lost) in
    let same = latest_alike c r.recovery_start_time placed p lost (losses (AgreeOn r.recovery_start_time placed) agree) in
    let hit = hit_like d t n r placed last_t last_n (is_outside_recovery r.recovery_start_time last_t) ps refl same agree (λ out.
    fresh (growths_if (timed c) d (on_congestion_event d last_t t r) limited new
    ∙ (hit_by d last_t t r (is_outside_recovery r.recovery_start_time last_t) refl ∙ ap (λ (b : Bool). if b then Some t else r.recovery_start_time) out))) in
    growth_like c d limited ps new (on_congestion_event d last_t t r) (on_congestion_event d last_n n (at r placed)) hit within

-- ---- a history

behind : (P : Packet → Type 0) (more h : List Event) → AllByRecursion P (packets (more ++ h)) → AllByRecursion P (packets h)
behind P [] h all = all
behind P (Sent packet ∷ more) h all = behind P more h all.1
behind P (_ ∷ more) h all = behind P more h all

at_event : (c : Settings) (whole between : List Event) (f : Event) (g : List Event) → whole ≡ between ++ f ∷ g → IsRun c whole → AllByRecursion (λ (p : Packet). p.time ≢ time_of f) (packets whole)
    → AllByRecursion (AgreeOn (Some (time_of f)) (Some (length g))) (packets whole)
at_event c whole between f g parts run other =
    of_each (AgreeOn (Some (time_of f)) (Some (length g))) (packets whole)
    (λ p has. order_is_time c f between g p (subst (IsRun c) parts run) (subst (λ (k : List Event). Contains (packets k) p) parts has) (at_one (λ (q : Packet). q.time ≢ time_of f) (packets whole) p other has))

pushed : (whole more : List Event) (e : Event) (h : List Event) → whole ≡ more ++ e ∷ h → whole ≡ (more ++ e ∷ []) ++ h
pushed whole more e h parts = parts ∙ sym (append_assoc more (e ∷ []) h)

fresh_at : (c : Settings) (whole more : List Event) (e : Event) (h : List Event) → whole ≡ more ++ e ∷ h → IsRun c whole
    → (reno (timed c) (e ∷ h)).recovery_start_time ≡ Some (event_mark (timed c) (detection_of (e ∷ h)))
    → AllByRecursion (λ (p : Packet). p.time ≢ event_mark (timed c) (detection_of (e ∷ h))) (packets whole)
    → AllByRecursion (AgreeOn (Some (event_mark (timed c) (detection_of (e ∷ h)))) (Some (event_mark (ordered c) (detection_of (e ∷ h))))) (packets whole)
fresh_at c whole more (Lost time space ranges) [] parts run began other = cc
fresh_at c whole more (Lost time space ranges) (f ∷ g) parts run began other =
    at_event c whole (more ++ Lost time space ranges ∷ []) f g (pushed whole more (Lost time space ranges) (f ∷ g) parts) run other
fresh_at c whole more e h parts run began other = at_event c whole more e h parts run other

alike : (c : Settings) (whole h more : List Event) → whole ≡ more ++ h → IsRun c whole → NoneAtStarts (timed c) (packets whole) h → Like (packets whole) (reno (timed c) h) (reno (ordered c) h)
alike c whole [] more parts run none = record { placed = None; is = refl; agree = nowhere (packets whole) }
alike c whole (e ∷ h) more parts run none =
    let d = c.max_datagram_size in
    let ps = packets whole in
    let before = alike c whole h (more ++ e ∷ []) (pushed whole more e h parts) run none.0 in
    let r = reno (timed c) h in
    let t = event_mark (timed c) (detection_of (e ∷ h)) in
    let n = event_mark (ordered c) (detection_of (e ∷ h)) in
    let lost = declared c (e ∷ h) in
    let new = newly_acknowledged (e ∷ h) in
    let persistent = is_persistent c (e ∷ h) in
    let limited = is_app_limited e in
    let by_time = same_losses c false (e ∷ h) in
    let by_order = same_losses c true (e ∷ h) in
    let timed_moves : List Move = congestion_events (timed c) t lost ++ persistent_congestions persistent ++ (if limited then [] else grows (timed c) new) in
    let ordered_moves : List Move = congestion_events (ordered c) n lost ++ persistent_congestions persistent ++ (if limited then [] else grows (ordered c) new) in
    let first : reno (timed c) (e ∷ h) ≡ fold (moved d) r timed_moves =
    reno_after (timed c) e h
    ∙ ap₂ (λ (qs : List Packet) (b : Bool). fold (moved d) r (congestion_events (timed c) t qs ++ persistent_congestions b ++ (if limited then [] else grows (timed c) new))) by_time.lost by_time.collapses in
    let second : reno (ordered c) (e ∷ h) ≡ fold (moved d) (at r before.placed) ordered_moves =
    reno_after (ordered c) e h
    ∙ (ap₂ (λ (qs : List Packet) (b : Bool). fold (moved d) (reno (ordered c) h) (congestion_events (ordered c) n qs ++ persistent_congestions b ++ (if limited then [] else grows (ordered c) new))) by_order.lost by_order.collapses
    ∙ ap (λ (k : Control). fold (moved d) k ordered_moves) before.is) in
    let within_losses : (P : Packet → Type 0) → AllByRecursion P ps → AllByRecursion P lost =
    λ P all. subst (λ (qs : List Packet). AllByRecursion P qs) (sym (lost_now_part c (e ∷ h)))
    (each_of_part P (is_lost_now c (e ∷ h)) (packets (e ∷ h)) (behind P more (e ∷ h) (subst (λ (k : List Event). AllByRecursion P (packets k)) parts all))) in
    let within_new : (P : Packet → Type 0) → AllByRecursion P ps → AllByRecursion P new =
    λ P all. each_of_part P (is_newly_acknowledged e h) (packets h) (behind P (more ++ e ∷ []) h (subst (λ (k : List Event). AllByRecursion P (packets k)) (pushed whole more e h parts) all)) in
    let stepped = step c d t n r before.placed ps lost new persistent limited before.agree within_losses within_new (λ began.
    let starts = ap (λ (k : Control). k.recovery_start_time) first ∙ began in
    fresh_at c whole more e h parts run starts (none.1 t starts)) in
    subst (λ (k : Control). Like ps k (reno (ordered c) (e ∷ h))) (sym first)
    (subst (λ (k : Control). Like ps (fold (moved d) r timed_moves) k) (sym second) stepped)

-- so the window and its threshold are the same by either
pub same_window : (c : Settings) (h : List Event) → IsRun c h → NoneAtStarts (timed c) (packets h) h → window (ordered c) h ≡ window (timed c) h
same_window c h run none =
    ap (λ (r : Control). window_by c.options.controller r.window (reported_window c h)) (alike c h h [] refl run none).is

pub same_ssthresh : (c : Settings) (h : List Event) → IsRun c h → NoneAtStarts (timed c) (packets h) h → ssthresh (ordered c) h ≡ ssthresh (timed c) h
same_ssthresh c h run none =
    ap (λ (r : Control). ssthresh_by c.options.controller r.ssthresh) (alike c h h [] refl run none).is

-- ---- entries

entered_alike : (c : Settings) (ps lost : List Packet) (r q : Control) → Like ps r q → ((P : Packet → Type 0) → AllByRecursion P ps → AllByRecursion P lost)
    → is_entered_by (ordered c) q.recovery_start_time lost ≡ is_entered_by (timed c) r.recovery_start_time lost
entered_alike c ps [] r q like within = refl
entered_alike c ps (p ∷ lost) r q like within =
    ap (λ (k : Control). is_outside_recovery k.recovery_start_time (latest_sent (ordered c) (p ∷ lost))) like.is
    ∙ latest_alike c r.recovery_start_time like.placed p lost (within (AgreeOn r.recovery_start_time like.placed) like.agree)

entry_by : (c : Settings) (h : List Event) → Like (packets h) (reno (timed c) (before_last (detection_of h))) (reno (ordered c) (before_last (detection_of h))) → is_entry (ordered c) h ≡ is_entry (timed c) h
entry_by c h like =
    let g = before_last (detection_of h) in
    let within : (P : Packet → Type 0) → AllByRecursion P (packets h) → AllByRecursion P (declared c h) =
    λ P all. subst (λ (qs : List Packet). AllByRecursion P qs) (sym (lost_now_part c h)) (each_of_part P (is_lost_now c h) (packets h) all) in
    entry_by_losses (ordered c) h
    ∙ (ap (is_entered_by (ordered c) (reno (ordered c) g).recovery_start_time) (same_losses c true h).lost
    ∙ (entered_alike c (packets h) (declared c h) (reno (timed c) g) (reno (ordered c) g) like within
    ∙ (ap (is_entered_by (timed c) (reno (timed c) g).recovery_start_time) (sym (same_losses c false h).lost) ∙ sym (entry_by_losses (timed c) h))))

-- and an event enters recovery by the one where it does by the other
pub same_entry : (c : Settings) (h : List Event) → IsRun c h → NoneAtStarts (timed c) (packets h) h → is_entry (ordered c) h ≡ is_entry (timed c) h
same_entry c [] run none = refl
same_entry c (Lost time space ranges ∷ []) run none = entry_by c (Lost time space ranges ∷ []) (record { placed = None; is = refl; agree = nowhere (packets (Lost time space ranges ∷ [])) })
same_entry c (Lost time space ranges ∷ d ∷ g) run none =
    let h = Lost time space ranges ∷ d ∷ g in entry_by c h (alike c h g (Lost time space ranges ∷ d ∷ []) refl run none.0.0)
same_entry c (e ∷ g) run none = entry_by c (e ∷ g) (alike c (e ∷ g) g (e ∷ []) refl run none.0)
