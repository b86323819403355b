-- What the next Lost line may name, and what is lost by an event, as one filter by what is seen.
use Rattle.std.proofs.Common.{◌≡◌, ◌∙◌, ◌&&◌, ◌||◌, List, [], ◌∷◌, Bool, true, false, ℕ, Option, Some, None, refl, sym, ap, subst, filter}
use Rattle.std.specs.List.{list_any}
use Rattle.std.specs.Prelude.{if◌then◌else◌}
use Rattle.qa_base.specs.declared.event.Event.{Event}
use Rattle.qa_base.specs.declared.event.Event.TheVariants.{Sent, Ack, Lost, Timer, Discard, Confirmed, Keys, Metrics}
use Rattle.qa_base.specs.declared.space.Space.{Space}
use Rattle.qa_base.specs.machine.Estimates.{sampled}
use Rattle.qa_base.specs.machine.Detection.{are_ends, detection_by, is_at, is_completed_by, is_found, is_free_by, is_left, is_owed_by, is_taken_by as is_taken_at}
use Rattle.qa_base.specs.machine.Loss.{declared, is_nameable, is_owed, is_persistent, nameable, owed}
use Rattle.qa_base.specs.machine.Packets.{Packet, packets}
use Rattle.qa_base.specs.machine.Rtt.{Estimate}
use Rattle.qa_base.specs.values.Events.{declares_lost}
use Rattle.qa_base.specs.values.Settings.{Settings}
use Rattle.qa_base.proofs.machine.Declared.{any_of_part, free_by_is, owed_is, same_any, same_filter}
use Rattle.qa_reference.specs.Looks.{AreSeen, IsLook, IsSeen, Seen, SeenLosses, is_found_by, is_found_where, is_left_by, is_left_where, is_named_by, is_nameable_by, is_taken_by, largest_there, lost_in, nameable_in}

-- ---- by an estimate

found_where : (c : Settings) (r : Estimate) (h : List Event) (p : Packet) (d : Option (Space × ℕ)) → is_found_where c h r (largest_there h d) p d ≡ is_at (is_found c r h) p d
found_where c r h p None = refl
found_where c r h p (Some d) = refl

left_where : (c : Settings) (r : Estimate) (h : List Event) (p : Packet) (d : Option (Space × ℕ)) → is_left_where c h r (largest_there h d) p d ≡ is_at (is_left c r h) p d
left_where c r h p None = refl
left_where c r h p (Some d) = refl

pub found_seen : (c : Settings) (r : Estimate) (h : List Event) (look : Seen) (p : Packet) → IsSeen c r h look → is_found_by h look p ≡ is_owed_by c r h p
found_seen c r h look p is =
    ap (λ (header : Settings). is_found_where header h look.rtt look.largest p look.detection) is.3
    ∙ (ap (λ (r : Estimate). is_found_where c h r look.largest p look.detection) is.0
    ∙ (ap (λ (largest : Option ℕ). is_found_where c h r largest p look.detection) is.2
    ∙ (ap (λ (d : Option (Space × ℕ)). is_found_where c h r (largest_there h (detection_by c r h)) p d) is.1
    ∙ found_where c r h p (detection_by c r h))))

pub left_seen : (c : Settings) (r : Estimate) (h : List Event) (look : Seen) (p : Packet) → IsSeen c r h look → is_left_by h look p ≡ is_free_by c r h p
left_seen c r h look p is =
    ap (λ (header : Settings). is_left_where header h look.rtt look.largest p look.detection) is.3
    ∙ (ap (λ (r : Estimate). is_left_where c h r look.largest p look.detection) is.0
    ∙ (ap (λ (largest : Option ℕ). is_left_where c h r largest p look.detection) is.2
    ∙ (ap (λ (d : Option (Space × ℕ)). is_left_where c h r (largest_there h (detection_by c r h)) p d) is.1
    ∙ left_where c r h p (detection_by c r h))))

-- ---- what may be named

nameable_here : (c : Settings) (h : List Event) (look : Seen) (p : Packet) → IsLook c h look → is_nameable c h p ≡ is_nameable_by h look p
nameable_here c h look p is =
    sym (ap (λ (b : Bool). b || is_left_by h look p) (found_seen c (sampled c h) h look p is)
    ∙ ap (λ (b : Bool). is_owed c h p || b) (left_seen c (sampled c h) h look p is))

pub nameable_seen : (c : Settings) (h : List Event) (look : Seen) → IsLook c h look → nameable c h ≡ nameable_in h look h
nameable_seen c h look is = same_filter (is_nameable c h) (is_nameable_by h look) (packets h) (λ p. nameable_here c h look p is)

-- ---- what is lost by an event

-- at a Lost line
named_here : (c : Settings) (r : Estimate) (h : List Event) (look : Seen) (e : Event) (p : Packet) → IsSeen c r h look
    → is_named_by h look e p ≡ (is_free_by c r h p && declares_lost p.space p.number e)
named_here c r h look e p is = ap (λ (b : Bool). b && declares_lost p.space p.number e) (left_seen c r h look p is)

taken_here : (c : Settings) (r : Estimate) (h : List Event) (look : Seen) (e : Event) (p : Packet) → IsSeen c r h look → is_taken_by h look e p ≡ is_taken_at c r h e p
taken_here c r h look e p is =
    ap (λ (b : Bool). b || is_named_by h look e p) (found_seen c r h look p is)
    ∙ ap (λ (b : Bool). is_owed_by c r h p || b) (named_here c r h look e p is)

completes_here : (c : Settings) (r : Estimate) (h : List Event) (look : Seen) (e : Event) → IsSeen c r h look
    → list_any (is_named_by h look e) (packets h) ≡ is_completed_by c r h e
completes_here c r h look e is =
    let named : Packet → Bool = λ p. declares_lost p.space p.number e in
    same_any (is_named_by h look e) (λ p. is_free_by c r h p && named p) (packets h) (λ p. named_here c r h look e p is)
    ∙ sym (ap (list_any named) (free_by_is c r h) ∙ any_of_part named (is_free_by c r h) (packets h))

none_pass : (ps : List Packet) → [] ≡ filter (λ p. false) ps
none_pass [] = refl
none_pass (p ∷ ps) = none_pass ps

if_filter : (b : Bool) (test : Packet → Bool) (ps : List Packet) → (if b then filter test ps else []) ≡ filter (λ p. b && test p) ps
if_filter true test ps = refl
if_filter false test ps = none_pass ps

lost_line : (c : Settings) (r : Estimate) (h : List Event) (losses : SeenLosses) (e : Event) → IsSeen c r h losses.look → losses.completes ≡ list_any (is_named_by h losses.look e) (packets h)
    → (if is_completed_by c r h e then filter (is_taken_at c r h e) (packets h) else []) ≡ filter (λ p. losses.completes && is_taken_by h losses.look e p) (packets h)
lost_line c r h losses e seen completes =
    ap (λ (b : Bool). if b then filter (is_taken_at c r h e) (packets h) else []) (sym (completes ∙ completes_here c r h losses.look e seen))
    ∙ (if_filter losses.completes (is_taken_at c r h e) (packets h)
    ∙ same_filter (λ p. losses.completes && is_taken_at c r h e p) (λ p. losses.completes && is_taken_by h losses.look e p) (packets h)
    (λ p. ap (λ (b : Bool). losses.completes && b) (sym (taken_here c r h losses.look e p seen))))

-- at any other event
found_line : (c : Settings) (h : List Event) (look : Seen) → IsLook c h look → filter (is_owed c h) (packets h) ≡ filter (is_found_by h look) (packets h)
found_line c h look seen = same_filter (is_owed c h) (is_found_by h look) (packets h) (λ p. sym (found_seen c (sampled c h) h look p seen))

owed_line : (c : Settings) (h : List Event) (look : Seen) → IsLook c h look → owed c h ≡ filter (is_found_by h look) (packets h)
owed_line c h look seen = owed_is c h ∙ found_line c h look seen

-- what is lost by the last event, as one filter
pub lost_seen : (c : Settings) (h : List Event) (losses : SeenLosses) → AreSeen c h losses → declared c h ≡ lost_in h losses h
lost_seen c [] losses seen = owed_line c [] losses.look seen.0
lost_seen c (Lost time space ranges ∷ h) losses seen = lost_line c (sampled c (Lost time space ranges ∷ h)) h losses (Lost time space ranges) seen.0 seen.1
lost_seen c (Sent packet ∷ h) losses seen = owed_line c (Sent packet ∷ h) losses.look seen.0
lost_seen c (Ack ack ∷ h) losses seen = owed_line c (Ack ack ∷ h) losses.look seen.0
lost_seen c (Timer time kind space ∷ h) losses seen = owed_line c (Timer time kind space ∷ h) losses.look seen.0
lost_seen c (Discard time space ∷ h) losses seen = owed_line c (Discard time space ∷ h) losses.look seen.0
lost_seen c (Confirmed time ∷ h) losses seen = owed_line c (Confirmed time ∷ h) losses.look seen.0
lost_seen c (Keys time ∷ h) losses seen = owed_line c (Keys time ∷ h) losses.look seen.0
lost_seen c (Metrics time values ∷ h) losses seen = owed_line c (Metrics time values ∷ h) losses.look seen.0

-- and by which estimate
pub rtt_seen : (c : Settings) (h : List Event) (losses : SeenLosses) → AreSeen c h losses → losses.look.rtt ≡ sampled c h
rtt_seen c [] losses seen = seen.0.0
rtt_seen c (Lost time space ranges ∷ h) losses seen = seen.0.0
rtt_seen c (Sent packet ∷ h) losses seen = seen.0.0
rtt_seen c (Ack ack ∷ h) losses seen = seen.0.0
rtt_seen c (Timer time kind space ∷ h) losses seen = seen.0.0
rtt_seen c (Discard time space ∷ h) losses seen = seen.0.0
rtt_seen c (Confirmed time ∷ h) losses seen = seen.0.0
rtt_seen c (Keys time ∷ h) losses seen = seen.0.0
rtt_seen c (Metrics time values ∷ h) losses seen = seen.0.0

-- they establish persistent congestion
pub persistent_seen : (c : Settings) (h : List Event) (losses : SeenLosses) → AreSeen c h losses
    → list_any (λ p. list_any (are_ends c losses.look.rtt h p) (lost_in h losses h)) (lost_in h losses h) ≡ is_persistent c h
persistent_seen c h losses seen =
    ap (λ (r : Estimate). list_any (λ p. list_any (are_ends c r h p) (lost_in h losses h)) (lost_in h losses h)) (rtt_seen c h losses seen)
    ∙ sym (ap (λ (ps : List Packet). list_any (λ p. list_any (are_ends c (sampled c h) h p) ps) ps) (lost_seen c h losses seen))

-- ---- what is seen of one more event

-- a Lost line is seen by the history before it
pub seen_lost : (c : Settings) (time : ℕ) (space : Space) (ranges : List (ℕ × ℕ)) (h : List Event) (r : Estimate) (losses : SeenLosses) → r ≡ sampled c (Lost time space ranges ∷ h) → IsSeen c r h losses.look
    → losses.completes ≡ list_any (is_named_by h losses.look (Lost time space ranges)) (packets h) → AreSeen c (Lost time space ranges ∷ h) losses
seen_lost c time space ranges h r losses is seen completes = (subst (λ (x : Estimate). IsSeen c x h losses.look) is seen, completes)
