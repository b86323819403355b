-- What quiet events leave as it was.
use Rattle.std.proofs.Common.{◌≡◌, ◌∙◌, ◌+◌, ◌≤◌, ℕ, List, [], ◌∷◌, ◌++◌, length, Bool, true, false, ◌&&◌, not, Option, Some, None, cond, refl, sym, ap, arith, add_comm}
use Rattle.std.proofs.lemmas.List.{append-nil}
use Rattle.std.proofs.lemmas.List.Sums.{sum_by-cons}
use Rattle.std.proofs.lemmas.Bool.{le-ltb}
use Rattle.std.specs.List.{filter, sum_by, count_by, AllByRecursion}
use Rattle.std.specs.Prelude.{nat_lt, if◌then◌else◌}
use Rattle.qa_base.specs.declared.event.Event.{Event}
use Rattle.qa_base.specs.declared.event.SentPacket.{SentPacket}
use Rattle.qa_base.specs.declared.event.Event.TheVariants.{Sent, Ack, Lost, Timer, Discard, Confirmed, Keys, Metrics}
use Rattle.qa_base.specs.declared.space.Space.{Space}
use Rattle.qa_base.specs.values.Events.{is_quiet}
use Rattle.qa_base.specs.machine.Detection.{all_at, declared_by, is_at, is_found, is_persistent_by}
use Rattle.qa_base.specs.machine.Estimates.{rtt, sampled, with_sample_of}
use Rattle.qa_base.specs.machine.Loss.{is_owed, owed, declared, flight_size, bytes_in_flight, detection}
use Rattle.qa_base.specs.machine.Moments.{since}
use Rattle.qa_base.specs.machine.Packets.{Packet, packets, newly_acknowledged, is_followed_by, is_discarded, is_of, is_acknowledged, is_declared_lost, packet_at}
use Rattle.qa_base.specs.machine.Reno.{grows, is_app_limited, moves, moves_of_last}
use Rattle.qa_base.specs.machine.Rtt.{Estimate, after_congestion}
use Rattle.qa_base.specs.values.Settings.{Settings}
use Rattle.qa_base.specs.machine.Timer.{is_pto, resets_count, pto_count}

-- ---- quiet events

pub none_passes : (ps : List Packet) → filter (λ p. false) ps ≡ []
none_passes [] = refl
none_passes (p ∷ ps) = none_passes ps

-- only an acknowledgment newly acknowledges
pub newly-quiet : (e : Event) (h : List Event) → is_quiet e ≡ true → newly_acknowledged (e ∷ h) ≡ []
newly-quiet (Ack ack) h quiet = cc
newly-quiet (Timer time kind space) h quiet = cc
newly-quiet (Discard time space) h quiet = cc
newly-quiet _ h quiet = none_passes (packets h)

pub owed-quiet : (c : Settings) (e : Event) (h : List Event) → is_quiet e ≡ true → owed c (e ∷ h) ≡ []
owed-quiet c (Ack ack) h quiet = cc
owed-quiet c (Timer time kind space) h quiet = cc
owed-quiet c (Discard time space) h quiet = cc
owed-quiet c _ h quiet = refl

-- without persistent congestion the estimate stays
pub no_congestion : (c : Settings) (r : Estimate) (b : Bool) → b ≡ false → after_congestion c b r ≡ r
no_congestion c r b none = rw none refl

pub unsampled-quiet : (c : Settings) (e : Event) (h : List Event) (r : Estimate) → is_quiet e ≡ true → with_sample_of c (e ∷ h) r ≡ r
unsampled-quiet c (Ack ack) h r quiet = cc
unsampled-quiet c (Timer time kind space) h r quiet = cc
unsampled-quiet c (Discard time space) h r quiet = cc
unsampled-quiet c _ h r quiet = refl

-- where nothing is lost by the last event it establishes no persistent congestion
pub not_persistent : (r : Estimate) (c : Settings) (h : List Event) → declared_by c r h ≡ [] → is_persistent_by c r h ≡ false
not_persistent r c h none = rw none refl

-- then it leaves the estimate with its sample
pub rtt_stays : (c : Settings) (e : Event) (h : List Event) → declared c (e ∷ h) ≡ [] → rtt c (e ∷ h) ≡ with_sample_of c (e ∷ h) (rtt c h)
rtt_stays c e h none =
    no_congestion c (with_sample_of c (e ∷ h) (rtt c h)) (is_persistent_by c (sampled c (e ∷ h)) (e ∷ h)) (not_persistent (sampled c (e ∷ h)) c (e ∷ h) none)

-- a quiet event by which nothing is lost leaves the estimate as it was
pub rtt-quiet : (c : Settings) (e : Event) (h : List Event) → is_quiet e ≡ true → declared c (e ∷ h) ≡ [] → rtt c (e ∷ h) ≡ rtt c h
rtt-quiet c e h quiet none = rtt_stays c e h none ∙ unsampled-quiet c e h (rtt c h) quiet

none_or : (c : Settings) (limited : Bool) → (if limited then [] else grows c []) ≡ []
none_or c true = refl
none_or c false = refl

no_moves : (c : Settings) (e : Event) (h : List Event) → declared c (e ∷ h) ≡ [] → newly_acknowledged (e ∷ h) ≡ [] → moves_of_last c (e ∷ h) ≡ []
no_moves c e h none unacknowledged = rw (none, unacknowledged) (none_or c (is_app_limited e))

-- and the window
pub moves_of_last-quiet : (c : Settings) (e : Event) (h : List Event) → is_quiet e ≡ true → declared c (e ∷ h) ≡ [] → moves_of_last c (e ∷ h) ≡ []
moves_of_last-quiet c e h quiet none = no_moves c e h none (newly-quiet e h quiet)

pub moves-quiet : (c : Settings) (e : Event) (h : List Event) → is_quiet e ≡ true → declared c (e ∷ h) ≡ [] → moves c (e ∷ h) ≡ moves c h
moves-quiet c e h quiet none = ap (λ ms. moves c h ++ ms) (moves_of_last-quiet c e h quiet none) ∙ append-nil (moves c h)

pub is_pto-quiet : (e : Event) (h : List Event) → is_quiet e ≡ true → is_pto (e ∷ h) ≡ false
is_pto-quiet (Ack ack) h quiet = cc
is_pto-quiet (Timer time kind space) h quiet = cc
is_pto-quiet (Discard time space) h quiet = cc
is_pto-quiet _ h quiet = refl

pub resets_count-quiet : (c : Settings) (e : Event) (h : List Event) → is_quiet e ≡ true → resets_count c (e ∷ h) ≡ false
resets_count-quiet c (Ack ack) h quiet = cc
resets_count-quiet c (Timer time kind space) h quiet = cc
resets_count-quiet c (Discard time space) h quiet = cc
resets_count-quiet c (Sent packet) h quiet = rw none_passes refl
resets_count-quiet c (Lost time space ranges) h quiet = rw none_passes refl
resets_count-quiet c (Confirmed time) h quiet = rw none_passes refl
resets_count-quiet c (Keys time) h quiet = rw none_passes refl
resets_count-quiet c (Metrics time values) h quiet = rw none_passes refl

-- a moment that is not the last such one goes on the list
since-more : (test : List Event → Bool) (e : Event) (h : List Event) → test (e ∷ h) ≡ false → since test (e ∷ h) ≡ (e ∷ h) ∷ since test h
since-more test e h not_yet = rw not_yet refl

not_counted : (e : Event) (h : List Event) (rest : List (List Event)) → is_pto (e ∷ h) ≡ false → count_by is_pto ((e ∷ h) ∷ rest) ≡ count_by is_pto rest
not_counted e h rest none =
    let counted = sum_by-cons (λ m. cond (is_pto m) 1 0) (e ∷ h) rest in
    counted ∙ rw none (omega arith)

pub pto_count-quiet : (c : Settings) (e : Event) (h : List Event) → is_quiet e ≡ true → pto_count c (e ∷ h) ≡ pto_count c h
pto_count-quiet c e h quiet =
    let more : since (resets_count c) (e ∷ h) ≡ (e ∷ h) ∷ since (resets_count c) h = since-more (resets_count c) e h (resets_count-quiet c e h quiet) in
    ap (count_by is_pto) more ∙ not_counted e h (since (resets_count c) h) (is_pto-quiet e h quiet)

-- ---- a packet that is sent

and_false : (a : Bool) → (a && false) ≡ false
and_false true = refl
and_false false = refl

-- nothing that stands in the history follows a packet that is sent after it
pub not_followed : (test : Event → Bool) (h : List Event) (p : Packet) → length h ≤ p.place → is_followed_by test h p ≡ false
not_followed test [] p late = refl
not_followed test (e ∷ h) p late =
    let not_later : nat_lt p.place (length h) ≡ false = le-ltb p.place (length h) (omega arith) in
    rw (not_later, and_false (test e)) (not_followed test h p (omega arith))

-- where nothing was found in a list, each packet of it was not found
nothing_more : (found of_space : Packet → Bool) (p : Packet) (ps : List Packet) (a b : Bool) → of_space p ≡ a → found p ≡ b
    → filter found (if a then p ∷ filter of_space ps else filter of_space ps) ≡ []
    → (filter found (filter of_space ps) ≡ [] → AllByRecursion (λ q. (of_space q && found q) ≡ false) ps)
    → ((of_space p && found p) ≡ false) × AllByRecursion (λ q. (of_space q && found q) ≡ false) ps
nothing_more found of_space p ps false b is_a is_b none rest = (rw is_a refl, rest none)
nothing_more found of_space p ps true true is_a is_b none rest = let some = rw is_b at none in cc
nothing_more found of_space p ps true false is_a is_b none rest = let none_of_rest = rw is_b at none in (rw (is_a, is_b) refl, rest none_of_rest)

nothing_found : (found of_space : Packet → Bool) (ps : List Packet) → filter found (filter of_space ps) ≡ [] → AllByRecursion (λ p. (of_space p && found p) ≡ false) ps
nothing_found found of_space [] none = tt
nothing_found found of_space (p ∷ ps) none =
    nothing_more found of_space p ps (of_space p) (found p) refl refl none (nothing_found found of_space ps)

no_detection : (ps : List Packet) → AllByRecursion (λ p. false ≡ false) ps
no_detection [] = tt
no_detection (p ∷ ps) = (refl, no_detection ps)

not_found : (c : Settings) (r : Estimate) (h : List Event) (d : Option (Space × ℕ)) → all_at (is_found c r h) h d ≡ [] → AllByRecursion (λ p. is_at (is_found c r h) p d ≡ false) (packets h)
not_found c r h None none = no_detection (packets h)
not_found c r h (Some d) none = nothing_found (is_found c r h d.1 d.0) (is_of d.0) (packets h) none

pub not_owed : (c : Settings) (h : List Event) → owed c h ≡ [] → AllByRecursion (λ p. is_owed c h p ≡ false) (packets h)
not_owed c h none = not_found c (sampled c h) h (detection c h) none

pub same_sum : (f g : Packet → ℕ) (ps : List Packet) → AllByRecursion (λ p. f p ≡ g p) ps → sum_by f ps ≡ sum_by g ps
same_sum f g [] same = refl
same_sum f g (p ∷ ps) same =
    let rest = same_sum f g ps same.1 in
    let here = same.0 in
    let with_f = sum_by-cons f p ps in
    let with_g = sum_by-cons g p ps in
    with_f ∙ (rw (here, rest) (sym with_g))

-- where nothing is owed, another packet leaves each packet as open as it was
still_open : (c : Settings) (h : List Event) (e : Event) (ps : List Packet) → AllByRecursion (λ p. is_owed c h p ≡ false) ps
    → ((p : Packet) → is_owed c h p ≡ false → flight_size c (e ∷ h) p ≡ flight_size c h p) → AllByRecursion (λ p. flight_size c (e ∷ h) p ≡ flight_size c h p) ps
still_open c h e [] free same = tt
still_open c h e (p ∷ ps) free same = (same p free.0, still_open c h e ps free.1 same)

sent_leaves : (c : Settings) (h : List Event) (packet : SentPacket) (p : Packet)
    → is_owed c h p ≡ false → flight_size c (Sent packet ∷ h) p ≡ flight_size c h p
sent_leaves c h packet p free = rw free refl

-- the packet that was just sent is open, unless its space was discarded
just_sent : (c : Settings) (h : List Event) (packet : SentPacket) (p : Packet)
    → p.place ≡ length h → p.space ≡ packet.space → p.size ≡ packet.size → p.in_flight ≡ packet.in_flight
    → flight_size c (Sent packet ∷ h) p ≡ (if packet.in_flight && not (is_discarded h packet.space) then packet.size else 0)
just_sent c h packet p place in_space of_size flies =
    let not_covered : is_acknowledged h p ≡ false = not_followed _ h p (omega (arith, place)) in
    let not_lost : is_declared_lost h p ≡ false = not_followed _ h p (omega (arith, place)) in
    rw (not_covered, not_lost, flies)
    (ap (λ s. if packet.in_flight && not (is_discarded h s) then p.size else 0) in_space
    ∙ ap (λ n. if packet.in_flight && not (is_discarded h packet.space) then n else 0) of_size)

-- a packet that is sent while nothing is owed adds its size to the bytes in flight, or nothing
pub bytes_in_flight-sent : (c : Settings) (h : List Event) (packet : SentPacket) → owed c h ≡ []
    → bytes_in_flight c (Sent packet ∷ h) ≡ bytes_in_flight c h + (if packet.in_flight && not (is_discarded h packet.space) then packet.size else 0)
bytes_in_flight-sent c h packet none =
    let e = Sent packet in
    let p = packet_at (length h) packet in
    let all = sum_by-cons (flight_size c (e ∷ h)) p (packets h) in
    let rest = same_sum (flight_size c (e ∷ h)) (flight_size c h) (packets h) (still_open c h e (packets h) (not_owed c h none) (sent_leaves c h packet)) in
    let new = just_sent c h packet p refl refl refl refl in
    all ∙ (ap (λ n. n + sum_by (flight_size c (e ∷ h)) (packets h)) new ∙ (ap (λ n. (if packet.in_flight && not (is_discarded h packet.space) then packet.size else 0) + n) rest ∙ add_comm _ _))
