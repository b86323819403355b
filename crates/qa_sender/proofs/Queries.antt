-- What is asked of the packets that are held is what the definitions ask of the history.
use Rattle.std.proofs.Common.{◌≡◌, ◌∙◌, ◌++◌, ℕ, List, [], ◌∷◌, Bool, true, false, ◌&&◌, ◌||◌, Option, Some, None, option_map, refl, sym, ap, arith, find, sum_by}
use Rattle.std.proofs.lemmas.Bool.{and_right}
use Rattle.std.proofs.lemmas.List.Folds.{list_any-append}
use Rattle.std.proofs.lemmas.List.Sums.{sum_by-cons}
use Rattle.std.specs.List.{AllByRecursion, list_any}
use Rattle.std.specs.Prelude.{if◌then◌else◌}
use Rattle.qa_base.specs.declared.event.Event.{Event}
use Rattle.qa_base.specs.declared.space.Space.{Space}
use Rattle.qa_base.specs.machine.Estimates.{rtt}
use Rattle.qa_base.specs.machine.Loss.{bytes_in_flight, is_open as opens}
use Rattle.qa_base.specs.machine.Packets.{Packet, packets, packets_of, is_of, largest_acknowledged}
use Rattle.qa_base.specs.machine.Violations.{IsToleratedRun}
use Rattle.qa_base.specs.machine.Timer.{awaits_acknowledgment, loss_due}
use Rattle.qa_base.specs.values.Settings.{Settings}
use Rattle.qa_sender.specs.connection.Deadlines as deadlines
use Rattle.qa_base.proofs.history.Closing.{bytes_in_flight_is}
use Rattle.qa_base.proofs.history.Deadline.{loss_due_by_next}
use Rattle.qa_base.proofs.history.Forgotten.{none_of}
use Rattle.qa_base.proofs.history.Pairs.{each_weaker}
use Rattle.qa_base.proofs.history.Sending.{sum_turned}
use Rattle.qa_base.specs.history.Oldest.{NoneFlies, due_of, is_flying as flies}
use Rattle.qa_base.specs.history.Sums.{bytes, counted}
use Rattle.qa_sender.proofs.Carrying.{shed_grounded, shed_unasked}
use Rattle.qa_sender.proofs.Fates.{is_open_told}
use Rattle.qa_sender.proofs.connection_lemmas.Lists.{any_in_filter, any_of_map, any_turned, each_value, find_of_map, sum_of_map}
use Rattle.qa_sender.specs.Standing.{StandsFor}
use Rattle.qa_sent_packets.specs.Fates.{flight_bytes, is_awaiting, is_flying, is_open}
use Rattle.qa_sent_packets.specs.Held.{Held}
use Rattle.qa_sent_packets.specs.Told.{sent_of}

-- ---- bytes in flight

flight_by : (in_flight kept_open is_opened : Bool) (size : ℕ) → kept_open ≡ is_opened → (if in_flight && kept_open then size else 0) ≡ (if is_opened then (if in_flight then size else 0) else 0)
flight_by true true is_opened size is = rw (← is) refl
flight_by true false is_opened size is = rw (← is) refl
flight_by false kept_open true size is = refl
flight_by false kept_open false size is = refl

weightless : (opened in_flight : Bool) (size : ℕ) → (in_flight && opened) ≡ false → (if opened then (if in_flight then size else 0) else 0) ≡ 0
weightless true true size out = cc
weightless true false size out = refl
weightless false in_flight size out = refl

sum_past : (weight : Packet → ℕ) (gone kept : List Packet) → AllByRecursion (λ p. weight p ≡ 0) gone → sum_by weight (gone ++ kept) ≡ sum_by weight kept
sum_past weight [] kept none = refl
sum_past weight (p ∷ gone) kept none =
    let sum = sum_by-cons weight p (gone ++ kept) in
    let rest = sum_past weight gone kept none.1 in
    let here = none.0 in
    omega (arith, sum, rest, here)

-- those that left the queue have none
bytes_of_kept : (c : Settings) (h : List Event) (held : Held) (stands : StandsFor held c h) → sum_by (counted (opens c h) bytes) (packets h) ≡ sum_by (counted (opens c h) bytes) stands.kept
bytes_of_kept c h held stands =
    let weight : Packet → ℕ = counted (opens c h) bytes in
    sym (sum_turned weight (packets h))
    ∙ (ap (sum_by weight) stands.parts
    ∙ sum_past weight stands.gone stands.kept
    (each_weaker (λ p. flies c h p ≡ false) (λ p. weight p ≡ 0) (λ p out. weightless (opens c h p) p.in_flight p.size out) stands.gone (shed_grounded c h stands.gone stands.shed)))

-- the bytes in flight are those of the packets held
pub bytes_are_held : (c : Settings) (h : List Event) (held : Held) → StandsFor held c h → bytes_in_flight c h ≡ sum_by flight_bytes held.packets
bytes_are_held c h held stands =
    bytes_in_flight_is c h
    ∙ (bytes_of_kept c h held stands
    ∙ sym (ap (sum_by flight_bytes) stands.packets_are
    ∙ sum_of_map flight_bytes (sent_of c h) (counted (opens c h) bytes) stands.kept
    (each_value (λ p. flight_bytes (sent_of c h p) ≡ counted (opens c h) bytes p)
    (λ p. flight_by p.in_flight (is_open (sent_of c h p).fate) (opens c h p) p.size (is_open_told c h p)) stands.kept)))

-- ---- packets that await an acknowledgment

or_none : (a b : Bool) → a ≡ false → (a || b) ≡ b
or_none a b none = ap (λ t. t || b) none

-- what no packet passes that left the queue, some packet of the history passes exactly where one does that is held
pub any_of_kept : (test : Packet → Bool) (held : Held) (c : Settings) (h : List Event) (stands : StandsFor held c h) → AllByRecursion (λ p. test p ≡ false) stands.gone
    → list_any test (packets h) ≡ list_any test stands.kept
any_of_kept test held c h stands none =
    sym (any_turned test (packets h))
    ∙ (ap (list_any test) stands.parts
    ∙ (list_any-append test stands.gone stands.kept ∙ or_none (list_any test stands.gone) (list_any test stands.kept) (none_of test stands.gone none)))

-- some packet of the space awaits an acknowledgment exactly where one does that is held
pub awaiting_are_held : (c : Settings) (h : List Event) (s : Space) (held : Held) → StandsFor held c h
    → list_any (awaits_acknowledgment c h) (packets_of h s) ≡ list_any (is_awaiting s) held.packets
awaiting_are_held c h s held stands =
    let test : Packet → Bool = λ p. is_of s p && awaits_acknowledgment c h p in
    any_in_filter (is_of s) (awaits_acknowledgment c h) (packets h)
    ∙ (any_of_kept test held c h stands
    (each_weaker (λ p. (p.eliciting && opens c h p) ≡ false) (λ p. test p ≡ false) (λ p out. and_right (is_of s p) (p.eliciting && opens c h p) out)
    stands.gone (shed_unasked c h stands.gone stands.shed))
    ∙ sym (ap (list_any (is_awaiting s)) stands.packets_are
    ∙ any_of_map (is_awaiting s) (sent_of c h) test stands.kept
    (each_value (λ p. is_awaiting s (sent_of c h p) ≡ test p) (λ p. ap (λ b. is_of s p && (p.eliciting && b)) (is_open_told c h p)) stands.kept)))

-- ---- the loss time

due_by : (c : Settings) (h : List Event) (s : Space) (o : Option Packet) → due_of c h s o ≡ deadlines.loss_due c (rtt c h) (largest_acknowledged h s) s (option_map (sent_of c h) o)
due_by c h s None = refl
due_by c h s (Some p) = refl

-- in a tolerated run the first packet held that is of the space, open and in flight decides its loss time
pub loss_due_is_held : (c : Settings) (h : List Event) → IsToleratedRun c h → (s : Space) (held : Held) → StandsFor held c h
    → loss_due c h s ≡ deadlines.loss_due c (rtt c h) (largest_acknowledged h s) s (find (is_flying s) held.packets)
loss_due_is_held c h run s held stands =
    let test : Packet → Bool = λ p. is_of s p && flies c h p in
    let none : NoneFlies c h s stands.gone =
    each_weaker (λ p. flies c h p ≡ false) (λ p. test p ≡ false) (λ p out. and_right (is_of s p) (flies c h p) out)
    stands.gone (shed_grounded c h stands.gone stands.shed) in
    loss_due_by_next c h run s stands.gone stands.kept stands.parts none
    ∙ (due_by c h s (find test stands.kept)
    ∙ ap (deadlines.loss_due c (rtt c h) (largest_acknowledged h s) s)
    (sym (ap (find (is_flying s)) stands.packets_are
    ∙ find_of_map (is_flying s) (sent_of c h) test stands.kept
    (each_value (λ p. is_flying s (sent_of c h p) ≡ test p) (λ p. ap (λ b. is_of s p && (p.in_flight && b)) (is_open_told c h p)) stands.kept))))
