-- What is kept of the detection of an event, as its steps tell it.
use Rattle.std.proofs.Common.{◌≡◌, ◌∙◌, ◌<◌, ◌^◌, ℕ, List, ◌∷◌, length, Bool, true, false, Option, Some, None, option_map, refl, sym, ap, arith, fold}
use Rattle.std.specs.List.{AllByRecursion}
use Rattle.std.specs.Prelude.{min, if◌then◌else◌}
use Rattle.qa_base.specs.declared.event.Event.{Event}
use Rattle.qa_base.specs.declared.event.Ack.{Ack as Acknowledgment}
use Rattle.qa_base.specs.declared.event.Event.TheVariants.{Ack, Timer}
use Rattle.qa_base.specs.declared.space.Space.{Space}
use Rattle.qa_base.specs.declared.space.TimerKind.TheVariants.{Loss}
use Rattle.qa_base.specs.machine.Detection.{looks_at, old_at}
use Rattle.qa_base.specs.machine.Estimates.{sampled}
use Rattle.qa_base.specs.machine.Packets.{acknowledges_new, packets}
use Rattle.qa_base.specs.machine.Reno.{Control, event_mark, reno}
use Rattle.qa_base.specs.machine.Rtt.{Estimate}
use Rattle.qa_base.specs.machine.Widths.{Fits}
use Rattle.qa_base.specs.values.Events.{time_of}
use Rattle.qa_base.specs.values.Limits.{max_lines}
use Rattle.qa_base.specs.values.Settings.{Settings, early, is_may}
use Rattle.qa_base.proofs.machine.Quiet.{none_passes}
use Rattle.qa_sender.specs.connection.Changes.{marked}
use Rattle.qa_sender.specs.declared.connection.connection.Connection.{Connection}
use Rattle.qa_sender.specs.connection.Detecting.{detected_in, detection_after, kept_of}
use Rattle.qa_sender.specs.connection.Known.{acknowledged_by}
use Rattle.qa_sender.specs.connection.Reporting.{with_bytes}
use Rattle.qa_sender.specs.Thresholds.{far_end}
use Rattle.qa_sender.specs.declared.connection.detection.Detection.{Detection}
use Rattle.qa_sender.proofs.connection_lemmas.Reports.{new_bytes_are, no_bytes}
use Rattle.qa_sent_packets.specs.declared.packet.SentPacket.{SentPacket}

-- the mark of an event is the one by which recovery is told
mark_by : (by_order : Bool) (events time : ℕ) (h : List Event) → events ≡ length h → length h < max_lines
    → (if by_order then min events max_lines else time) ≡ (if by_order then length h else time)
mark_by true events time h counted few = omega (arith, counted, few)
mark_by false events time h counted few = refl

pub mark_is : (c : Settings) (e : Event) (h : List Event) (k : Connection) → k.header ≡ c → k.events ≡ length h → length h < max_lines → marked k (time_of e) ≡ event_mark c (e ∷ h)
mark_is c e h k header counted few =
    ap (λ (x : Settings). if x.options.recovery_by_order then min k.events max_lines else time_of e) header ∙ mark_by c.options.recovery_by_order k.events (time_of e) h counted few

-- in a space, as of a time
abbrev of : Space → ℕ → ℕ → Estimate → Control → ℕ → ℕ → Option Detection
of space looked mark rtt before far acknowledged =
    Some (record { space = space; looked = looked; mark = mark; rtt = rtt; before = before; acknowledged = acknowledged; far_end = far })

-- as of the same time, and by the same packets
pub detected_as : (space : Space) (looked now mark : ℕ) (rtt : Estimate) (before : Control) (far : ℕ) (qs ps : List SentPacket) → looked ≡ now → qs ≡ ps
    → of space looked mark rtt before far (fold with_bytes 0 qs) ≡ of space now mark rtt before far (fold with_bytes 0 ps)
detected_as space looked now mark rtt before far qs ps is are = rw (is, are) refl

if_new : (c : Settings) (h : List Event) (d : Space × ℕ) (new : Bool) → new ≡ true → option_map (detected_in c h) (if new then Some d else None) ≡ Some (detected_in c h d)
if_new c h d new is = rw is refl

-- an acknowledgment of something new
pub acked_detected : (c : Settings) (h : List Event) (ack : Acknowledgment) (mark : ℕ) (rtt : Estimate) (before : Control) (ps : List SentPacket) (far : ℕ)
    → mark ≡ event_mark c (Ack ack ∷ h) → rtt ≡ sampled c (Ack ack ∷ h) → before ≡ reno c h → far ≡ far_end c (Ack ack ∷ h) ack.space → ps ≡ acknowledged_by c (Ack ack) h → acknowledges_new (Ack ack ∷ h) ≡ true
    → AllByRecursion Fits h → length h < 2 ^ 32
    → Some (record { space = ack.space; looked = ack.time; mark = mark; rtt = rtt; before = before; acknowledged = fold with_bytes 0 ps; far_end = far }) ≡ detection_after c (Ack ack ∷ h)
acked_detected c h ack mark rtt before ps far is_mark is_rtt is_before is_far are some fit few =
    let e = Ack ack in
    rw (is_mark, is_rtt, is_before, is_far, are) (ap (of ack.space ack.time (event_mark c (e ∷ h)) (sampled c (e ∷ h)) (reno c h) (far_end c (e ∷ h) ack.space)) (new_bytes_are c e h fit few) ∙ sym (if_new c (e ∷ h) (ack.space, ack.time) (acknowledges_new (e ∷ h)) some))

-- an acknowledgment of nothing new is no detection
pub acked_undetected : (c : Settings) (h : List Event) (ack : Acknowledgment)
    → acknowledges_new (Ack ack ∷ h) ≡ false → None ≡ detection_after c (Ack ack ∷ h)
acked_undetected c h ack none =
    let e = Ack ack in
    sym (ap (λ b. option_map (detected_in c (e ∷ h)) (if b then Some (ack.space, ack.time) else None)) none)

-- a loss timer
pub timed_detected : (c : Settings) (h : List Event) (time : ℕ) (space : Space) (looked mark : ℕ) (rtt : Estimate) (before : Control) (far : ℕ)
    → mark ≡ event_mark c (Timer time Loss space ∷ h) → looked ≡ looks_at (early c) time (old_at c (sampled c (Timer time Loss space ∷ h)) h space) → rtt ≡ sampled c (Timer time Loss space ∷ h) → before ≡ reno c h
    → far ≡ far_end c (Timer time Loss space ∷ h) space
    → Some (record { space = space; looked = looked; mark = mark; rtt = rtt; before = before; acknowledged = 0; far_end = far }) ≡ detection_after c (Timer time Loss space ∷ h)
timed_detected c h time space looked mark rtt before far is_mark is_looked is_rtt is_before is_far =
    let e = Timer time Loss space in
    rw (is_mark, is_looked, is_rtt, is_before, is_far) (ap (of space (looks_at (early c) time (old_at c (sampled c (e ∷ h)) h space)) (event_mark c (e ∷ h)) (sampled c (e ∷ h)) (reno c h) (far_end c (e ∷ h) space)) (sym (no_bytes e h (none_passes (packets h)))))

-- up to the same number
pub detected_to : (space : Space) (looked mark : ℕ) (rtt : Estimate) (before : Control) (far end bytes : ℕ) → far ≡ end → of space looked mark rtt before far bytes ≡ of space looked mark rtt before end bytes
detected_to space looked mark rtt before far end bytes is = ap (λ n. of space looked mark rtt before n bytes) is

-- all of it is kept where packets may be spared, by the header
pub kept_none : (c header : Settings) (d : Detection) → header ≡ c → is_may header.options.loss_by_number ≡ false → None ≡ kept_of c d
kept_none c header d is must = sym (ap (λ b. if◌then◌else◌ {A = Option Detection} b (Some d) None) (ap (λ (x : Settings). is_may x.options.loss_by_number) (sym is) ∙ must))

pub kept_some : (c header : Settings) (d : Detection) → header ≡ c → is_may header.options.loss_by_number ≡ true → Some d ≡ kept_of c d
kept_some c header d is may = sym (ap (λ b. if◌then◌else◌ {A = Option Detection} b (Some d) None) (ap (λ (x : Settings). is_may x.options.loss_by_number) (sym is) ∙ may))
