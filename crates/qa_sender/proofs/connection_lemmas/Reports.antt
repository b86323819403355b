-- What an event makes of the window that is reported, and of the bytes acknowledged since persistent congestion. These stay small, so that
-- 64 bits hold them.
use Rattle.std.proofs.Common.{◌≡◌, ◌∙◌, ◌≤◌, ◌+◌, ◌*◌, ◌^◌, ◌<◌, ◌==◌, ℕ, List, [], ◌∷◌, ◌++◌, length, Bool, true, false, Option, Some, None, option_map, is_some, unwrap_or, refl, sym, ap, ap₂, arith, fold, map, reverse, sum_by}
use Rattle.std.proofs.lemmas.Bool.{eqb-true}
use Rattle.std.proofs.lemmas.List.{length-reverse, reverse-append}
use Rattle.std.proofs.lemmas.List.Sums.{sum_by-append, sum_by-cons}
use Rattle.std.specs.List.{AllByRecursion}
use Rattle.std.specs.Prelude.{if◌then◌else◌}
use Rattle.qa_base.specs.declared.event.Event.{Event}
use Rattle.qa_base.specs.declared.event.Ack.{Ack as Acknowledgment}
use Rattle.qa_base.specs.declared.event.Event.TheVariants.{Ack, Metrics}
use Rattle.qa_base.specs.declared.event.MetricValues.{MetricValues}
use Rattle.qa_base.specs.machine.Loss.{is_persistent}
use Rattle.qa_base.specs.machine.Moments.{detection_of}
use Rattle.qa_base.specs.machine.Packets.{Packet, packets, is_newly_acknowledged, newly_acknowledged}
use Rattle.qa_base.specs.machine.Widths.{Fits, acknowledged_count}
use Rattle.qa_base.specs.machine.Window.{acknowledged_bytes, acknowledged_since_collapse, changes_window, reported_window, unless_same, window_in}
use Rattle.qa_base.specs.values.Settings.{Settings}
use Rattle.qa_base.proofs.machine.Collapses.{IsAtMost, in_flight_size, size_if, since_collapse_after, since_collapse_small}
use Rattle.qa_base.proofs.machine.Quiet.{none_passes}
use Rattle.qa_base.proofs.machine.WindowBound.{IsSized, acknowledged_few, each_append, each_of_part, sized}
use Rattle.qa_sender.specs.connection.Known.{acknowledged_by}
use Rattle.qa_sender.specs.connection.Reporting.{acknowledging, collapsed_with, reported_after, reporting, with_bytes}
use Rattle.qa_sender.specs.connection.Steps.{capped}
use Rattle.qa_sender.specs.declared.connection.reported.ReportedWindow.{ReportedWindow}
use Rattle.qa_sender.proofs.connection_lemmas.Grown.{newly_few}
use Rattle.qa_sent_packets.specs.Told.{sent_of}
use Rattle.qa_sent_packets.specs.declared.packet.SentPacket.{SentPacket}

abbrev of : ℕ → Option ℕ → ReportedWindow
of window acknowledged = record { window = window; acknowledged = acknowledged }

nothing_more : (acknowledged : Option ℕ) → option_map (λ n. 0 + n) acknowledged ≡ acknowledged
nothing_more None = refl
nothing_more (Some n) = ap Some (omega arith)

-- ---- an event that newly acknowledges nothing, and reports no window

no_change : (c : Settings) (e : Event) (h : List Event) → window_in e ≡ None → changes_window c (e ∷ h) ≡ false
no_change c e h none = ap (λ o. is_some (unless_same (reported_window c h) o)) none

same_window : (c : Settings) (e : Event) (h : List Event) → window_in e ≡ None → reported_window c (e ∷ h) ≡ reported_window c h
same_window c e h none = ap (λ o. unwrap_or o (reported_window c h)) none

pub no_bytes : (e : Event) (h : List Event) → newly_acknowledged (e ∷ h) ≡ [] → acknowledged_bytes (e ∷ h) ≡ 0
no_bytes e h none = ap (sum_by in_flight_size) none

since_by : (first bytes : ℕ) (acknowledged : Option ℕ) (persistent changed : Bool) → bytes ≡ 0 → changed ≡ false
    → (if persistent then Some first else (if changed then None else option_map (λ n. bytes + n) acknowledged)) ≡ (if persistent then Some first else acknowledged)
since_by first bytes acknowledged true changed none same = refl
since_by first bytes acknowledged false changed none same = rw (same, none) (nothing_more acknowledged)

-- a loss timer, and a Lost line: the detection newly acknowledged so many bytes
pub reported_found : (c : Settings) (e : Event) (h : List Event) (first : ℕ) → first ≡ acknowledged_bytes (detection_of (e ∷ h)) → window_in e ≡ None → newly_acknowledged (e ∷ h) ≡ []
    → collapsed_with first (is_persistent c (e ∷ h)) (reported_after c h) ≡ reported_after c (e ∷ h)
reported_found c e h first is none nothing =
    rw is (ap₂ of (sym (same_window c e h none))
    (sym (since_collapse_after c e h
    ∙ since_by (acknowledged_bytes (detection_of (e ∷ h))) (acknowledged_bytes (e ∷ h)) (acknowledged_since_collapse c h) (is_persistent c (e ∷ h)) (changes_window c (e ∷ h))
    (no_bytes e h nothing) (no_change c e h none))))

-- any other
pub reported_stays : (c : Settings) (e : Event) (h : List Event) → window_in e ≡ None → newly_acknowledged (e ∷ h) ≡ [] → is_persistent c (e ∷ h) ≡ false
    → reported_after c (e ∷ h) ≡ reported_after c h
reported_stays c e h none nothing calm =
    sym (reported_found c e h (acknowledged_bytes (detection_of (e ∷ h))) refl none nothing) ∙ ap (λ b. collapsed_with (acknowledged_bytes (detection_of (e ∷ h))) b (reported_after c h)) calm

-- ---- a report

report_by : (window : ℕ) (acknowledged : Option ℕ) (reported : ℕ) (same : Bool) → (reported == window) ≡ same → (same ≡ true → reported ≡ window)
    → (if same then of window acknowledged else of reported None)
    ≡ of reported (if is_some (if same then None else Some reported) then None else option_map (λ n. 0 + n) acknowledged)
report_by window acknowledged reported true is equal = ap₂ of (sym (equal refl)) (sym (nothing_more acknowledged))
report_by window acknowledged reported false is equal = refl

equal_numbers : (n m : ℕ) → (n == m) ≡ true → n ≡ m
equal_numbers n m is = eqb-true n m is

pub reported_is : (c : Settings) (h : List Event) (time : ℕ) (values : MetricValues) (window : Option ℕ) → values.window ≡ window
    → reporting window (reported_after c h) ≡ reported_after c (Metrics time values ∷ h)
reported_is c h time values None is = sym (reported_stays c (Metrics time values) h is (none_passes (packets h)) refl)
reported_is c h time values (Some reported) is =
    let e = Metrics time values in
    let w = reported_window c h in
    let a = acknowledged_since_collapse c h in
    report_by w a reported (reported == w) refl (equal_numbers reported w)
    ∙ sym (ap₂ of (ap (λ o. unwrap_or o w) is)
    (since_collapse_after c e h
    ∙ ap₂ (λ o bytes. if is_some (unless_same w o) then None else option_map (λ n. bytes + n) a) is (no_bytes e h (none_passes (packets h)))))

-- ---- an acknowledgment

one_with : (n size : ℕ) (in_flight : Bool) → n + 65527 ≤ 18446744073709551615 → size ≤ 65527
    → (if in_flight then capped (n + size) else n) ≡ (if in_flight then size else 0) + n
one_with n size true room small = omega (arith, room, small)
one_with n size false room small = omega arith

all_with : (c : Settings) (h : List Event) (ps : List Packet) (n : ℕ) → AllByRecursion IsSized ps → n + 65527 * length ps ≤ 18446744073709551615
    → fold with_bytes n (map (sent_of c h) ps) ≡ sum_by in_flight_size ps + n
all_with c h [] n small room = omega arith
all_with c h (p ∷ ps) n small room =
    let here = small.0 in
    let one : with_bytes n (sent_of c h p) ≡ in_flight_size p + n = one_with n p.size p.in_flight (omega (arith, room)) here in
    let least : in_flight_size p ≤ 65527 = size_if p.in_flight p.size here in
    let sum : sum_by in_flight_size (p ∷ ps) ≡ in_flight_size p + sum_by in_flight_size ps = sum_by-cons in_flight_size p ps in
    let rest = all_with c h ps (in_flight_size p + n) small.1 (omega (arith, room, least)) in
    ap (λ m. fold with_bytes m (map (sent_of c h) ps)) one ∙ omega (arith, rest, sum)

sum_turned : (f : Packet → ℕ) (ps : List Packet) → sum_by f (reverse ps) ≡ sum_by f ps
sum_turned f [] = refl
sum_turned f (p ∷ ps) =
    let turned : reverse (p ∷ ps) ≡ reverse ps ++ p ∷ [] = reverse-append (p ∷ []) ps in
    let parts : sum_by f (reverse ps ++ p ∷ []) ≡ sum_by f (reverse ps) + sum_by f (p ∷ []) = sum_by-append f (reverse ps) (p ∷ []) in
    let one : sum_by f (p ∷ []) ≡ f p + sum_by f [] = sum_by-cons f p [] in
    let all : sum_by f (p ∷ ps) ≡ f p + sum_by f ps = sum_by-cons f p ps in
    let rest = sum_turned f ps in
    ap (sum_by f) turned ∙ omega (arith, parts, one, all, rest)

small_turned : (ps : List Packet) → AllByRecursion IsSized ps → AllByRecursion IsSized (reverse ps)
small_turned [] all = tt
small_turned (p ∷ ps) all =
    let turned : reverse (p ∷ ps) ≡ reverse ps ++ p ∷ [] = reverse-append (p ∷ []) ps in
    rw turned (each_append IsSized (reverse ps) (p ∷ []) (small_turned ps all.1) (all.0, tt))

-- the bytes that the packets have, as they are told
with_all_is : (c : Settings) (e : Event) (h : List Event) (n : ℕ) → AllByRecursion Fits h → length h < 2 ^ 32 → n ≤ 65527 * acknowledged_count h
    → fold with_bytes n (acknowledged_by c e h) ≡ acknowledged_bytes (e ∷ h) + n
with_all_is c e h n fit few small =
    let new = newly_acknowledged (e ∷ h) in
    let fewer = newly_few e h in
    let many = length-reverse new in
    let counted = acknowledged_few h in
    let sizes = small_turned new (each_of_part IsSized (is_newly_acknowledged e h) (packets h) (sized h fit)) in
    all_with c h (reverse new) n sizes (omega (arith, fewer, many, counted, few, small)) ∙ ap (λ m. m + n) (sum_turned in_flight_size new)

acked_by : (c : Settings) (e : Event) (h : List Event) (persistent : Bool) (acknowledged : Option ℕ) → AllByRecursion Fits h → length h < 2 ^ 32 → IsAtMost (65527 * acknowledged_count h) acknowledged
    → option_map (λ n. fold with_bytes n (acknowledged_by c e h)) (if persistent then Some 0 else acknowledged)
    ≡ (if persistent then Some (acknowledged_bytes (e ∷ h)) else option_map (λ n. acknowledged_bytes (e ∷ h) + n) acknowledged)
acked_by c e h true acknowledged fit few small = ap Some (with_all_is c e h 0 fit few (omega arith) ∙ omega arith)
acked_by c e h false None fit few small = refl
acked_by c e h false (Some n) fit few small = ap Some (with_all_is c e h n fit few small)

pub reported_acked : (c : Settings) (h : List Event) (ack : Acknowledgment) (ps : List SentPacket)
    → ps ≡ acknowledged_by c (Ack ack) h → AllByRecursion Fits h → length h < 2 ^ 32
    → acknowledging ps (collapsed_with 0 (is_persistent c (Ack ack ∷ h)) (reported_after c h)) ≡ reported_after c (Ack ack ∷ h)
reported_acked c h ack ps are fit few =
    let e = Ack ack in
    rw are (ap (of (reported_window c h)) (
    acked_by c e h (is_persistent c (e ∷ h)) (acknowledged_since_collapse c h) fit few (since_collapse_small c h fit)
    ∙ sym (since_collapse_after c e h)
    ))

-- the bytes of what an acknowledgment newly acknowledges, as they are told
pub new_bytes_are : (c : Settings) (e : Event) (h : List Event) → AllByRecursion Fits h → length h < 2 ^ 32 → fold with_bytes 0 (acknowledged_by c e h) ≡ acknowledged_bytes (e ∷ h)
new_bytes_are c e h fit few = with_all_is c e h 0 fit few (omega arith) ∙ omega arith
