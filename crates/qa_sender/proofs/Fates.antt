-- What became of one packet: what is asked of its fate is what the definitions say, and what one more event makes of it.
use Rattle.std.proofs.Common.{◌≡◌, ◌∙◌, ℕ, List, [], ◌∷◌, Bool, true, false, ◌&&◌, ◌||◌, not, Option, Some, None, refl, sym, ap, subst, Contains}
use Rattle.std.proofs.lemmas.Bool.{and_parts, or_from, or_right}
use Rattle.std.specs.Prelude.{nat_lt, if◌then◌else◌}
use Rattle.qa_base.specs.declared.event.Event.{Event}
use Rattle.qa_base.specs.declared.event.Ack.{Ack as Acknowledgment}
use Rattle.qa_base.specs.declared.event.Event.TheVariants.{Ack, Lost, Discard}
use Rattle.qa_base.specs.declared.space.Space.{Space}
use Rattle.qa_base.specs.declared.space.Space.TheVariants.{Initial, Handshake, App}
use Rattle.qa_base.specs.machine.Detection.{is_at, is_far_below, is_found, is_old, is_past_threshold}
use Rattle.qa_base.specs.machine.Estimates.{sampled}
use Rattle.qa_base.specs.machine.Loss.{is_free, is_open as opens, is_owed as owes, detection}
use Rattle.qa_base.specs.machine.Packets.{Packet, packets, is_acknowledged as covers, is_discarded, is_declared_lost, is_newly_acknowledged, is_of, is_below_largest, largest_acknowledged}
use Rattle.qa_base.specs.machine.Rtt.{Estimate}
use Rattle.qa_base.specs.machine.Violations.{IsToleratedRun}
use Rattle.qa_base.specs.values.Events.{is_space, is_named, acknowledges, declares_lost, discards}
use Rattle.qa_base.specs.values.Settings.{Settings, is_may}
use Rattle.qa_base.proofs.history.Changes.{covered_after, lost_is_taken, found_unsettled, free_is_flying}
use Rattle.qa_base.proofs.history.ToleratedRuns.{is_space_is, is_space_same}
use Rattle.qa_base.proofs.history.Detection.{space_of_detection}
use Rattle.qa_base.proofs.history.Settled.{nameable_space}
use Rattle.qa_sender.specs.Losing.{told}
use Rattle.qa_sender.specs.Thresholds.{AreThresholdsAt, far_end_below}
use Rattle.qa_sender.proofs.FarEnds.{is_far_packet}
use Rattle.qa_sent_packets.specs.Fates.{is_acknowledged, is_flying, is_new, is_open, is_owed, is_unacknowledged}
use Rattle.qa_sent_packets.specs.Free.{is_free_by, taken_by}
use Rattle.qa_sent_packets.specs.Steps.{Thresholds, covered_by, declared, discarded_in, found_by, is_past_threshold_by, with_fate}
use Rattle.qa_sent_packets.specs.Told.{fate, fate_by, sent_of}
use Rattle.qa_sent_packets.specs.declared.fate.Fate.{Fate}
use Rattle.qa_sent_packets.specs.declared.fate.Fate.TheVariants.{Open, Owed, Acknowledged, Discarded}
use Rattle.qa_sent_packets.specs.declared.free.FreePackets.{FreePackets}
use Rattle.qa_sent_packets.specs.declared.packet.SentPacket.{SentPacket}

pub space_turned : (a b : Space) → is_space a b ≡ is_space b a
space_turned Initial Initial = refl
space_turned Initial Handshake = refl
space_turned Initial App = refl
space_turned Handshake Initial = refl
space_turned Handshake Handshake = refl
space_turned Handshake App = refl
space_turned App Initial = refl
space_turned App Handshake = refl
space_turned App App = refl

-- ---- what is asked of a fate

open_by : (cov los own gone : Bool) → is_open (fate_by cov los own gone) ≡ (not cov && not los && not own && not gone)
open_by true los own gone = refl
open_by false true own true = refl
open_by false true own false = refl
open_by false false true true = refl
open_by false false true false = refl
open_by false false false true = refl
open_by false false false false = refl

-- the packet is kept as open where it is open
pub is_open_told : (c : Settings) (h : List Event) (p : Packet) → is_open (fate c h p) ≡ opens c h p
is_open_told c h p = open_by (covers h p) (is_declared_lost h p) (owes c h p) (is_discarded h p.space)

covered_of : (cov los own gone : Bool) → is_acknowledged (fate_by cov los own gone) ≡ cov
covered_of true los own gone = refl
covered_of false los own true = refl
covered_of false true own false = refl
covered_of false false true false = refl
covered_of false false false false = refl

-- as covered where it is covered
pub is_acknowledged_told : (c : Settings) (h : List Event) (p : Packet) → is_acknowledged (fate c h p) ≡ covers h p
is_acknowledged_told c h p = covered_of (covers h p) (is_declared_lost h p) (owes c h p) (is_discarded h p.space)

owed_by : (cov los own gone : Bool) → (own ≡ true → (not cov && not los) ≡ true) → (own ≡ true → gone ≡ false) → is_owed (fate_by cov los own gone) ≡ own
owed_by true los true gone free there = let not_so : false ≡ true = free refl in cc
owed_by true los false gone free there = refl
owed_by false true true gone free there = let not_so : false ≡ true = free refl in cc
owed_by false false true true free there = let not_so : true ≡ false = there refl in cc
owed_by false false true false free there = refl
owed_by false los false true free there = refl
owed_by false true false false free there = refl
owed_by false false false false free there = refl

found_there : (c : Settings) (e : Event) (h : List Event) → IsToleratedRun c (e ∷ h) → (p : Packet) (d : Option (Space × ℕ)) → detection c (e ∷ h) ≡ d → is_at (is_found c (sampled c (e ∷ h)) (e ∷ h)) p d ≡ true
    → is_discarded h p.space ≡ false
found_there c e h run p None at is = cc
found_there c e h run p (Some (s, now)) at is =
    let of_space = is_space_is s p.space (and_parts (is_of s p) (is_found c (sampled c (e ∷ h)) (e ∷ h) now s p) is).0 in
    subst (λ (t : Space). is_discarded h t ≡ false) of_space (space_of_detection c e h run s now at)

not_discarded : (c : Settings) (e : Event) (h : List Event) (p : Packet) → owes c (e ∷ h) p ≡ true → discards p.space e ≡ false
not_discarded c (Discard time space) h p is = cc
not_discarded c _ h p is = refl

-- in a tolerated run the space of a packet that is owed was not discarded
pub owed_there : (c : Settings) (h : List Event) → IsToleratedRun c h → (p : Packet) → owes c h p ≡ true → is_discarded h p.space ≡ false
owed_there c [] run p is = cc
owed_there c (e ∷ h) run p is = or_from (discards p.space e) (is_discarded h p.space) (not_discarded c e h p is) (found_there c e h run p (detection c (e ∷ h)) refl is)

-- in a tolerated run it is kept as owed where it is owed
pub is_owed_told : (c : Settings) (h : List Event) → IsToleratedRun c h → (p : Packet) → is_owed (fate c h p) ≡ owes c h p
is_owed_told c h run p = owed_by (covers h p) (is_declared_lost h p) (owes c h p) (is_discarded h p.space) (found_unsettled c h p (detection c h)) (owed_there c h run p)

-- ---- what one more event makes of it

and_none : (a : Bool) → (a && false) ≡ false
and_none true = refl
and_none false = refl

without : (a b d : Bool) → b ≡ false → (a || b || d) ≡ (a || d)
without true b d none = refl
without false b d none = rw none refl

-- in a tolerated run an event that does not name it as lost declares it lost where it was owed
lost_unnamed : (c : Settings) (e : Event) (h : List Event) → IsToleratedRun c (e ∷ h) → (p : Packet) → Contains (packets h) p → declares_lost p.space p.number e ≡ false
    → is_declared_lost (e ∷ h) p ≡ (owes c h p || is_declared_lost h p)
lost_unnamed c e h run p has unnamed =
    lost_is_taken c e h run p has
    ∙ without (owes c h p) (is_free c h p && declares_lost p.space p.number e) (is_declared_lost h p) (ap (λ b. is_free c h p && b) unnamed ∙ and_none (is_free c h p))

-- in a tolerated run it is covered by an acknowledgment that names it, declared lost where it was owed, and gone where its space is discarded, by
-- an event that does not name it as lost
pub fate_after : (c : Settings) (e : Event) (h : List Event) → IsToleratedRun c (e ∷ h) → (p : Packet) → Contains (packets h) p → declares_lost p.space p.number e ≡ false
    → fate c (e ∷ h) p
    ≡ fate_by (acknowledges p.space p.number e || covers h p) (owes c h p || is_declared_lost h p) (owes c (e ∷ h) p) (discards p.space e || is_discarded h p.space)
fate_after c e h run p has unnamed =
    ap (λ b. fate_by b (is_declared_lost (e ∷ h) p) (owes c (e ∷ h) p) (is_discarded (e ∷ h) p.space)) (covered_after e h p has)
    ∙ ap (λ b. fate_by (acknowledges p.space p.number e || covers h p) b (owes c (e ∷ h) p) (is_discarded (e ∷ h) p.space)) (lost_unnamed c e h run p has unnamed)

stays_by : (ack cov los was own disc gone : Bool) → ack ≡ false → was ≡ false → own ≡ false → disc ≡ false
    → fate_by (ack || cov) (was || los) own (disc || gone) ≡ fate_by cov los was gone
stays_by ack cov los was own disc gone no_ack not_was not_own no_disc = rw (no_ack, not_was, not_own, no_disc) refl

-- nothing, where nothing was owed, and the event does not acknowledge it, does not find it lost and does not discard its space
pub same_told : (c : Settings) (e : Event) (h : List Event) → IsToleratedRun c (e ∷ h) → (p : Packet) → Contains (packets h) p
    → acknowledges p.space p.number e ≡ false → owes c h p ≡ false → owes c (e ∷ h) p ≡ false → discards p.space e ≡ false → declares_lost p.space p.number e ≡ false
    → sent_of c h p ≡ sent_of c (e ∷ h) p
same_told c e h run p has no_ack not_was not_own no_disc unnamed =
    sym (ap (λ f. told f p) (fate_after c e h run p has unnamed
    ∙ stays_by (acknowledges p.space p.number e) (covers h p) (is_declared_lost h p) (owes c h p) (owes c (e ∷ h) p) (discards p.space e) (is_discarded h p.space) no_ack not_was not_own no_disc))

declared_if : (cov los own gone : Bool) (p : Packet) → declared (told (fate_by cov los own gone) p) ≡ told (fate_by cov (own || los) false gone) p
declared_if true los own gone p = refl
declared_if false los true true p = refl
declared_if false los false true p = refl
declared_if false true true false p = refl
declared_if false true false false p = refl
declared_if false false true false p = refl
declared_if false false false false p = refl

pub same_as_line : (p : Packet) (s : Space) → p.space ≡ s → is_space p.space s ≡ true
same_as_line p s is = ap (λ t. is_space t s) is ∙ is_space_same s

taken_if : (cov los own gone fr sp nm : Bool) (p : Packet) → (fr ≡ true → sp ≡ true) → (fr ≡ true → fate_by cov los own gone ≡ Open)
    → declared (if fr && nm then with_fate Owed (told (fate_by cov los own gone) p) else told (fate_by cov los own gone) p)
    ≡ told (fate_by cov (own || (fr && (sp && nm)) || los) false gone) p
taken_if cov los own gone false sp nm p here opened = declared_if cov los own gone p ∙ ap (λ b. told (fate_by cov b false gone) p) (sym (without own false los refl))
taken_if cov los own gone true sp false p here opened =
    declared_if cov los own gone p ∙ ap (λ b. told (fate_by cov b false gone) p) (sym (without own (sp && false) los (and_none sp)))
taken_if true los own gone true sp true p here opened = let not_so = opened refl in cc
taken_if false true own true true sp true p here opened = let not_so = opened refl in cc
taken_if false true own false true sp true p here opened = let not_so = opened refl in cc
taken_if false false true true true sp true p here opened = let not_so = opened refl in cc
taken_if false false true false true sp true p here opened = let not_so = opened refl in cc
taken_if false false false true true sp true p here opened = let not_so = opened refl in cc
taken_if false false false false true sp true p here opened = let same = here refl in rw same refl

opened_by : (cov los own gone : Bool) → is_open (fate_by cov los own gone) ≡ true → fate_by cov los own gone ≡ Open
opened_by true los own gone is = cc
opened_by false true own true is = cc
opened_by false true own false is = cc
opened_by false false true true is = cc
opened_by false false true false is = cc
opened_by false false false true is = cc
opened_by false false false false is = refl

-- in a tolerated run one that is free is kept as open
pub free_opened : (c : Settings) (h : List Event) → IsToleratedRun c h → (p : Packet) → is_free c h p ≡ true → fate c h p ≡ Open
free_opened c h run p is =
    opened_by (covers h p) (is_declared_lost h p) (owes c h p) (is_discarded h p.space)
    (is_open_told c h p ∙ (and_parts p.in_flight (opens c h p) (free_is_flying c h run p is)).1)

-- a Lost line declares it where it was owed, or was free and is named
pub declared_told : (c : Settings) (h : List Event) (time : ℕ) (space : Space) (ranges : List (ℕ × ℕ)) → IsToleratedRun c (Lost time space ranges ∷ h)
    → (free : FreePackets) → ((q : Packet) → is_free_by free (sent_of c h q) ≡ is_free c h q)
    → (p : Packet) → Contains (packets h) p → declared (taken_by free ranges (sent_of c h p)) ≡ sent_of c (Lost time space ranges ∷ h) p
declared_told c h time space ranges run free are p has =
    let e = Lost time space ranges in
    ap (λ b. declared (if b && is_named ranges p.number then with_fate Owed (sent_of c h p) else sent_of c h p)) (are p)
    ∙ (taken_if (covers h p) (is_declared_lost h p) (owes c h p) (is_discarded h p.space) (is_free c h p) (is_space p.space space) (is_named ranges p.number) p
    (λ left. same_as_line p space (nameable_space c h time space ranges run p (or_right (owes c h p) (is_free c h p) left)))
    (free_opened c h run.0 p)
    ∙ sym (ap (λ b. told (fate_by (covers h p) b false (is_discarded h p.space)) p) (lost_is_taken c e h run p has)))

discarded_if : (of cov los gone : Bool) (p : Packet)
    → (if of && is_unacknowledged (fate_by cov los false gone) then with_fate Discarded (told (fate_by cov los false gone) p) else told (fate_by cov los false gone) p)
    ≡ told (fate_by cov los false (of || gone)) p
discarded_if true true los gone p = refl
discarded_if true false los true p = refl
discarded_if true false true false p = refl
discarded_if true false false false p = refl
discarded_if false cov los gone p = refl

discarded_by : (of back cov los own gone : Bool) (p : Packet) → of ≡ back → own ≡ false
    → (if of && is_unacknowledged (fate_by cov los own gone) then with_fate Discarded (told (fate_by cov los own gone) p) else told (fate_by cov los own gone) p)
    ≡ told (fate_by cov (own || los) false (back || gone)) p
discarded_by of back cov los own gone p same not_own = rw (same, not_own) (discarded_if back cov los gone p)

-- a discard closes it, where it is of the space and uncovered
pub discarded_told : (c : Settings) (h : List Event) (time : ℕ) (space : Space) → IsToleratedRun c (Discard time space ∷ h)
    → (p : Packet) → Contains (packets h) p → owes c h p ≡ false → discarded_in space (sent_of c h p) ≡ sent_of c (Discard time space ∷ h) p
discarded_told c h time space run p has not_was =
    discarded_by (is_space space p.space) (is_space p.space space) (covers h p) (is_declared_lost h p) (owes c h p) (is_discarded h p.space) p (space_turned space p.space) not_was
    ∙ sym (ap (λ f. told f p) (fate_after c (Discard time space) h run p has refl))

-- ---- acknowledgments and detections

-- its fate once the event has covered what it acknowledges, and found nothing yet
abbrev pub between : Settings → Event → List Event → Packet → Fate
between c e h p = fate_by (acknowledges p.space p.number e || covers h p) (is_declared_lost h p) false (is_discarded h p.space)

covered_if : (of named cov los gone : Bool) (p : Packet) → (of ≡ true → gone ≡ false)
    → (if of && is_unacknowledged (fate_by cov los false gone) && named then with_fate Acknowledged (told (fate_by cov los false gone) p) else told (fate_by cov los false gone) p)
    ≡ told (fate_by ((of && named) || cov) los false gone) p
covered_if true named cov los true p there = let not_so : true ≡ false = there refl in cc
covered_if true true true los false p there = refl
covered_if true true false true false p there = refl
covered_if true true false false false p there = refl
covered_if true false true los false p there = refl
covered_if true false false true false p there = refl
covered_if true false false false false p there = refl
covered_if false named cov los gone p there = refl

covered_by_tests : (of back named cov los own gone : Bool) (p : Packet) → of ≡ back → own ≡ false → (back ≡ true → gone ≡ false)
    → (if of && is_unacknowledged (fate_by cov los own gone) && named then with_fate Acknowledged (told (fate_by cov los own gone) p) else told (fate_by cov los own gone) p)
    ≡ told (fate_by ((back && named) || cov) los false gone) p
covered_by_tests of back named cov los own gone p same not_own there = rw (same, not_own) (covered_if back named cov los gone p there)

there_of : (h : List Event) (s t : Space) → is_discarded h s ≡ false → is_space t s ≡ true → is_discarded h t ≡ false
there_of h s t there same = subst (λ (u : Space). is_discarded h u ≡ false) (sym (is_space_is t s same)) there

-- an acknowledgment of a space that is there covers it, where it names it
pub covered_told : (c : Settings) (h : List Event) (ack : Acknowledgment)
    → is_discarded h ack.space ≡ false → (p : Packet) → owes c h p ≡ false
    → covered_by ack.space ack.ranges (sent_of c h p) ≡ told (between c (Ack ack) h p) p
covered_told c h ack there p not_was =
    covered_by_tests (is_space ack.space p.space) (is_space p.space ack.space) (is_named ack.ranges p.number) (covers h p) (is_declared_lost h p) (owes c h p) (is_discarded h p.space) p
    (space_turned ack.space p.space) not_was (there_of h ack.space p.space there)

found_if : (of flies cov los late gone : Bool) (p : Packet) → (of ≡ true → gone ≡ false)
    → (if of && (flies && is_open (fate_by cov los false gone)) && late then with_fate Owed (told (fate_by cov los false gone) p) else told (fate_by cov los false gone) p)
    ≡ told (fate_by cov los (of && (flies && (not cov && not los) && late)) gone) p
found_if true flies cov los late true p there = let not_so : true ≡ false = there refl in cc
found_if true true true los late false p there = refl
found_if true false true los late false p there = refl
found_if true true false true late false p there = refl
found_if true false false true late false p there = refl
found_if true true false false true false p there = refl
found_if true true false false false false p there = refl
found_if true false false false late false p there = refl
found_if false flies cov los late gone p there = refl

late_if : (below must far old : Bool) → (below && ((must && (below && far)) || old)) ≡ (below && ((must && far) || old))
late_if true must far old = refl
late_if false must far old = refl

-- below the end are those packets of the space that lie below the largest acknowledged number by the threshold
late_by : (c : Settings) (r : Estimate) (g : List Event) (s : Space) (now : ℕ) (o : Option ℕ) (p : Packet) → s ≡ p.space
    → (is_below_largest p.number o && ((not (is_may c.options.loss_by_number) && nat_lt p.number (far_end_below c g s o)) || is_old c r now p)) ≡ is_past_threshold c r g now o p
late_by c r g s now None p same = refl
late_by c r g s now (Some largest) p same =
    ap (λ b. nat_lt p.number largest && ((not (is_may c.options.loss_by_number) && b) || is_old c r now p)) (is_far_packet c g s largest p same)
    ∙ late_if (nat_lt p.number largest) (not (is_may c.options.loss_by_number)) (is_far_below c g largest p) (is_old c r now p)

-- by what a detection tells it
abbrev past : Settings → Estimate → ℕ → Option ℕ → ℕ → Packet → Bool
past c r now o far p = is_below_largest p.number o && ((not (is_may c.options.loss_by_number) && nat_lt p.number far) || is_old c r now p)

-- a detection asks of it whether it is late, as it asks of the packet of the history
pub late_told : (c : Settings) (g : List Event) (s : Space) (now : ℕ) (l : Thresholds) → AreThresholdsAt c g s now l → (f : Fate) (p : Packet) → s ≡ p.space
    → is_past_threshold_by l (told f p) ≡ is_past_threshold c (sampled c g) g now (largest_acknowledged g s) p
late_told c g s now l is f p same =
    ap (λ k. past k l.rtt l.now l.largest l.far_end p) is.header_is
    ∙ (ap (λ r. past c r l.now l.largest l.far_end p) is.rtt_is
    ∙ (ap (λ n. past c (sampled c g) n l.largest l.far_end p) is.now_is
    ∙ (ap (λ o. past c (sampled c g) now o l.far_end p) is.largest_is
    ∙ (ap (λ n. past c (sampled c g) now (largest_acknowledged g s) n p) is.far_end_is
    ∙ late_by c (sampled c g) g s now (largest_acknowledged g s) p same))))

free_by : (was los : Bool) → was ≡ false → los ≡ (was || los)
free_by was los not_was = rw not_was refl

found_tests : (of flies cov los late gone cov_now los_now own_now : Bool) (p : Packet) → (of ≡ true → gone ≡ false) → cov_now ≡ cov → los_now ≡ los
    → own_now ≡ (of && (flies && (not cov_now && not los_now) && late))
    → (if of && (flies && is_open (fate_by cov los false gone)) && late then with_fate Owed (told (fate_by cov los false gone) p) else told (fate_by cov los false gone) p)
    ≡ told (fate_by cov_now los_now own_now gone) p
found_tests of flies cov los late gone cov_now los_now own_now p there covers_is loses_is owes_is =
    rw (owes_is, covers_is, loses_is) (found_if of flies cov los late gone p there)

late_here : (flies late_now late : Bool) (p : SentPacket) → (flies ≡ true → late_now ≡ late) → (if flies && late_now then with_fate Owed p else p) ≡ (if flies && late then with_fate Owed p else p)
late_here true late_now late p same = let is = same refl in rw is refl
late_here false late_now late p same = refl

-- in a tolerated run a detection finds it lost, where it is of the space, open, in flight and late
pub found_told : (c : Settings) (e : Event) (h : List Event) → IsToleratedRun c (e ∷ h) → (s : Space) (now : ℕ) → detection c (e ∷ h) ≡ Some (s, now) → discards s e ≡ false
    → (l : Thresholds) → AreThresholdsAt c (e ∷ h) s now l → (p : Packet) → Contains (packets h) p → owes c h p ≡ false → discards p.space e ≡ false → declares_lost p.space p.number e ≡ false
    → found_by s l (told (between c e h p) p) ≡ sent_of c (e ∷ h) p
found_told c e h run s now at none l thresholds p has not_was no_disc unnamed =
    let g = e ∷ h in
    let late = is_past_threshold c (sampled c g) g now (largest_acknowledged g s) p in
    let gone_is : is_discarded g p.space ≡ is_discarded h p.space = ap (λ b. b || is_discarded h p.space) no_disc in
    late_here (is_flying s (told (between c e h p) p)) (is_past_threshold_by l (told (between c e h p) p)) late (told (between c e h p) p)
    (λ flies. late_told c g s now l thresholds (between c e h p) p (is_space_is s p.space (and_parts (is_of s p) (p.in_flight && is_open (between c e h p)) flies).0))
    ∙ (found_tests (is_of s p) p.in_flight (acknowledges p.space p.number e || covers h p) (is_declared_lost h p) late (is_discarded h p.space) (covers g p) (is_declared_lost g p) (owes c g p) p
    (λ same. there_of h s p.space (space_of_detection c e h run s now at) (space_turned p.space s ∙ same))
    (covered_after e h p has)
    (lost_unnamed c e h run p has unnamed ∙ sym (free_by (owes c h p) (is_declared_lost h p) not_was))
    (ap (is_at (is_found c (sampled c g) g) p) at)
    ∙ ap (λ b. told (fate_by (covers g p) (is_declared_lost g p) (owes c g p) b) p) (sym gone_is))

-- ---- what is newly acknowledged

new_if : (of named cov los gone : Bool) → (of ≡ true → gone ≡ false) → (of && is_open (fate_by cov los false gone) && named) ≡ (of && named && not cov && not los)
new_if true named cov los true there = let not_so : true ≡ false = there refl in cc
new_if true true true los false there = refl
new_if true false true los false there = refl
new_if true true false true false there = refl
new_if true false false true false there = refl
new_if true true false false false there = refl
new_if true false false false false there = refl
new_if false named cov los gone there = refl

new_tests : (of back named cov los own gone : Bool) → of ≡ back → own ≡ false → (back ≡ true → gone ≡ false)
    → (of && is_open (fate_by cov los own gone) && named) ≡ (back && named && not cov && not los)
new_tests of back named cov los own gone same not_own there = rw (same, not_own) (new_if back named cov los gone there)

-- an acknowledgment of a space that is there newly acknowledges it, where it names it and it is open
pub new_told : (c : Settings) (h : List Event) (ack : Acknowledgment)
    → is_discarded h ack.space ≡ false → (p : Packet) → owes c h p ≡ false
    → is_new ack.space ack.ranges (sent_of c h p) ≡ is_newly_acknowledged (Ack ack) h p
new_told c h ack there p not_was =
    new_tests (is_space ack.space p.space) (is_space p.space ack.space) (is_named ack.ranges p.number) (covers h p) (is_declared_lost h p) (owes c h p) (is_discarded h p.space)
    (space_turned ack.space p.space) not_was (there_of h ack.space p.space there)
