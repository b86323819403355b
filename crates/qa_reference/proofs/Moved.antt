-- The moves of one event.
use Rattle.std.proofs.Common.{arith, ◌≡◌, ◌∙◌, ◌≤◌, ◌<◌, ◌^◌, ℕ, max, List, [], ◌∷◌, ◌++◌, Bool, true, false, unwrap_or, refl, ap, map, reverse, filter, fold, length}
use Rattle.std.proofs.lemmas.List.{map-append, reverse-append}
use Rattle.std.proofs.lemmas.List.Sums.{fold-append}
use Rattle.std.specs.List.{All}
use Rattle.std.specs.Prelude.{if◌then◌else◌}
use Rattle.qa_base.specs.declared.event.Event.{Event}
use Rattle.qa_base.specs.machine.Loss.{declared, is_persistent}
use Rattle.qa_base.specs.machine.Moments.{detection_of}
use Rattle.qa_base.specs.machine.Packets.{Packet, history_of, newly_acknowledged}
use Rattle.qa_base.specs.machine.Widths.{Fits}
use Rattle.qa_base.specs.values.Constants.{minimum_window}
use Rattle.qa_base.specs.values.Settings.{Settings, AreInRange}
use Rattle.qa_base.specs.machine.Reno.{Move, CongestionEvent, Grow, Control, congestion_events, event_mark, latest_sent, sent_mark, grows, moved, persistent_congestions, is_app_limited, moves_of_last, reno}
use Rattle.qa_base.proofs.machine.Histories.{length-history_of}
use Rattle.qa_base.proofs.machine.Steps.{reno_after}
use Rattle.qa_base.proofs.machine.WindowBound.{window_bound, fits_history}
use Rattle.qa_reference.specs.Words.{last_sending, hits_at}

latest_is : (c : Settings) (ps : List Packet) → latest_sent c ps ≡ unwrap_or (last_sending c ps) 0
latest_is c [] = refl
latest_is c (p ∷ ps) = ap (λ t. max (sent_mark c p) t) (latest_is c ps)

pub hits_is : (c : Settings) (now : ℕ) (ps : List Packet) → congestion_events c now ps ≡ hits_at now (last_sending c ps)
hits_is c now [] = refl
hits_is c now (p ∷ ps) = ap (λ t. CongestionEvent t now ∷ []) (latest_is c (p ∷ ps))

abbrev growing : Settings → Packet → Move
growing c p = Grow p.size (sent_mark c p)

pub grows_in_flight : (c : Settings) (p : Packet) (ps : List Packet) → p.in_flight ≡ true → grows c (p ∷ ps) ≡ grows c ps ++ Grow p.size (sent_mark c p) ∷ []
grows_in_flight c p ps is =
    let rest = filter (λ (q : Packet). q.in_flight) ps in
    let turned : reverse (p ∷ rest) ≡ reverse rest ++ p ∷ [] = reverse-append (p ∷ []) rest in
    ap (λ (b : Bool). map (growing c) (reverse (if b then p ∷ rest else rest))) is
    ∙ (ap (map (growing c)) turned ∙ map-append (growing c) (reverse rest) (p ∷ []))

pub grows_bare : (c : Settings) (p : Packet) (ps : List Packet) → p.in_flight ≡ false → grows c (p ∷ ps) ≡ grows c ps
grows_bare c p ps is =
    let rest = filter (λ (q : Packet). q.in_flight) ps in
    ap (λ (b : Bool). map (growing c) (reverse (if b then p ∷ rest else rest))) is

pub grown_by : (c : Settings) (d : ℕ) (r : Control) (p : Packet) (ps : List Packet) → p.in_flight ≡ true
    → fold (moved d) r (grows c (p ∷ ps)) ≡ moved d (fold (moved d) r (grows c ps)) (Grow p.size (sent_mark c p))
grown_by c d r p ps is = ap (fold (moved d) r) (grows_in_flight c p ps is) ∙ fold-append (moved d) r (grows c ps) (Grow p.size (sent_mark c p) ∷ [])

three : (d : ℕ) (r : Control) (xs ys zs : List Move) → fold (moved d) r ((xs ++ ys) ++ zs) ≡ fold (moved d) (fold (moved d) (fold (moved d) r xs) ys) zs
three d r xs ys zs = fold-append (moved d) r (xs ++ ys) zs ∙ ap (λ (x : Control). fold (moved d) x zs) (fold-append (moved d) r xs ys)

-- the moves of the last event, one kind after the other
moves_are : (c : Settings) (e : Event) (h : List Event) (d : ℕ) (r : Control)
    → fold (moved d) r (moves_of_last c (e ∷ h))
    ≡ fold (moved d) (fold (moved d) (fold (moved d) r (hits_at (event_mark c (detection_of (e ∷ h))) (last_sending c (declared c (e ∷ h))))) (persistent_congestions (is_persistent c (e ∷ h)))) (if is_app_limited e then [] else grows c (newly_acknowledged (e ∷ h)))
moves_are c e h d r =
    let ys = persistent_congestions (is_persistent c (e ∷ h)) in
    let zs : List Move = if is_app_limited e then [] else grows c (newly_acknowledged (e ∷ h)) in
    three d r (congestion_events c (event_mark c (detection_of (e ∷ h))) (declared c (e ∷ h))) ys zs
    ∙ ap (λ (xs : List Move). fold (moved d) (fold (moved d) (fold (moved d) r xs) ys) zs) (hits_is c (event_mark c (detection_of (e ∷ h))) (declared c (e ∷ h)))

-- the window after one more event, one kind of move after the other
pub reno_moved : (c : Settings) (e : Event) (h : List Event)
    → reno c (e ∷ h)
    ≡ fold (moved c.max_datagram_size) (fold (moved c.max_datagram_size) (fold (moved c.max_datagram_size) (reno c h) (hits_at (event_mark c (detection_of (e ∷ h))) (last_sending c (declared c (e ∷ h))))) (persistent_congestions (is_persistent c (e ∷ h)))) (if is_app_limited e then [] else grows c (newly_acknowledged (e ∷ h)))
reno_moved c e h = reno_after c e h ∙ moves_are c e h c.max_datagram_size (reno c h)

-- the window is in the range that its moves ask for
pub window_in_range : (c : Settings) (events : List Event) (r : Control) → AreInRange c → All Fits events → length events < 2 ^ 32 → r ≡ reno c (history_of events)
    → (minimum_window c.max_datagram_size ≤ r.window) × (r.window ≤ 2 ^ 60)
window_in_range c events r range fit few is =
    rw is (window_bound c (history_of events) range (fits_history events fit) (omega (arith, length-history_of events, few)))
