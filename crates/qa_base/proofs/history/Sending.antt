-- The same in the order of sending: what is asked of the packets that are kept, which stand behind closed ones.
use Rattle.qa_base.proofs.history.LostNow.{closed_not_lost, dropped_not_lost}
use Rattle.qa_base.specs.machine.Kept.{is_kept}
use Rattle.qa_base.specs.history.Declared.{is_lost_now}
use Rattle.std.proofs.Common.{◌≡◌, ◌∙◌, ℕ, List, [], ◌∷◌, ◌++◌, Bool, true, false, None, refl, sym, ap, subst, Contains, filter, reverse, sum_by, add_comm, ◌+◌, length, append_assoc}
use Rattle.std.proofs.lemmas.Bool.{and_left}
use Rattle.std.proofs.lemmas.List.{reverse-reverse, reverse-append, append-nil}
use Rattle.std.proofs.lemmas.List.Elements.{Contains-append_left}
use Rattle.std.specs.List.{AllByRecursion}
use Rattle.qa_base.specs.declared.event.Event.{Event}
use Rattle.qa_base.specs.declared.event.Event.TheVariants.{Sent}
use Rattle.qa_base.specs.history.Among.{finds_apart, counts_as_end}
use Rattle.qa_base.specs.machine.Estimates.{sampled}
use Rattle.qa_base.specs.machine.Detection.{is_end}
use Rattle.qa_base.specs.machine.Loss.{owed, is_owed, is_open, is_persistent}
use Rattle.qa_base.specs.machine.Packets.{Packet, packets, packet_of, is_acknowledged, is_newly_acknowledged, newly_acknowledged}
use Rattle.qa_base.specs.machine.Rtt.{persistent_after}
use Rattle.qa_base.specs.machine.Violations.{IsToleratedRun}
use Rattle.qa_base.specs.values.Settings.{Settings, granularity, is_may}
use Rattle.qa_base.specs.history.Sums.{counted, open_sum}
use Rattle.qa_base.proofs.history.Forgotten.{newly_of_kept, owed_of_kept, open_sum_of_kept}
use Rattle.qa_base.proofs.history.Forward.{persistent_is_forward}
use Rattle.qa_base.proofs.history.Pairs.{at_one, of_each, each_turned, part_turned, turned}
use Rattle.std.proofs.lemmas.List.Sums.{sum_by-cons, sum_by_push}
use Rattle.qa_base.proofs.history.Settled.{closed_stays}
use Rattle.qa_base.proofs.history.Walks.{turned_has}
use Rattle.qa_base.specs.history.Parts.{AreClosed, AreDropped}

-- ---- the parts of a list that is turned

parts_turned : (ps gone kept : List Packet) → reverse ps ≡ gone ++ kept → ps ≡ reverse kept ++ reverse gone
parts_turned ps gone kept parts = sym (reverse-reverse ps) ∙ (ap reverse parts ∙ reverse-append gone kept)

kept_turned : (test : Packet → Bool) (kept : List Packet) → reverse (filter test (reverse kept)) ≡ filter test kept
kept_turned test kept = ap reverse (part_turned test kept) ∙ reverse-reverse (filter test kept)

-- in a tolerated run the packets that an event newly acknowledges are among those kept
pub newly_of_kept_in_order : (c : Settings) (e : Event) (h : List Event) → IsToleratedRun c (e ∷ h) → (gone kept : List Packet) → reverse (packets h) ≡ gone ++ kept → AreClosed c h gone
    → reverse (newly_acknowledged (e ∷ h)) ≡ filter (is_newly_acknowledged e h) kept
newly_of_kept_in_order c e h run gone kept parts closed =
    ap reverse (newly_of_kept c e h run (reverse kept) (reverse gone) (parts_turned (packets h) gone kept parts) (each_turned (λ p. is_open c h p ≡ false) gone closed))
    ∙ kept_turned (is_newly_acknowledged e h) kept

-- and so are those that it finds lost
pub owed_of_kept_in_order : (c : Settings) (e : Event) (h : List Event) → IsToleratedRun c (e ∷ h) → (gone kept : List Packet) → reverse (packets h) ≡ gone ++ kept → AreClosed c h gone
    → reverse (owed c (e ∷ h)) ≡ filter (is_owed c (e ∷ h)) kept
owed_of_kept_in_order c e h run gone kept parts closed =
    ap reverse (owed_of_kept c e h run (reverse kept) (reverse gone) (parts_turned (packets h) gone kept parts) (each_turned (λ p. is_open c h p ≡ false) gone closed))
    ∙ kept_turned (is_owed c (e ∷ h)) kept

-- ---- persistent congestion

front_step : (covered counts : Packet → Bool) (limit : ℕ) (p : Packet) (ps : List Packet) (shut : Bool) → covered p ≡ shut → counts p ≡ false
    → finds_apart covered counts limit None (p ∷ ps) ≡ finds_apart covered counts limit None ps
front_step covered counts limit p ps true is other = rw is refl
front_step covered counts limit p ps false is other = rw (is, other) refl

-- a front of packets that do not count needs no walk
front_dropped : (covered counts : Packet → Bool) (limit : ℕ) (gone kept : List Packet) → AllByRecursion (λ p. counts p ≡ false) gone
    → finds_apart covered counts limit None (gone ++ kept) ≡ finds_apart covered counts limit None kept
front_dropped covered counts limit [] kept none = refl
front_dropped covered counts limit (p ∷ gone) kept none =
    front_step covered counts limit p (gone ++ kept) (covered p) refl none.0 ∙ front_dropped covered counts limit gone kept none.1

none_found : (covered counts : Packet → Bool) (limit : ℕ) (ps : List Packet) → AllByRecursion (λ p. counts p ≡ false) ps → finds_apart covered counts limit None ps ≡ false
none_found covered counts limit [] none = refl
none_found covered counts limit (p ∷ ps) none = front_step covered counts limit p ps (covered p) refl none.0 ∙ none_found covered counts limit ps none.1

gone_counts_not : (c : Settings) (e : Event) (h : List Event) (gone : List Packet) → AllByRecursion (λ p. is_lost_now c (e ∷ h) p ≡ false) gone
    → AllByRecursion (λ p. counts_as_end c (e ∷ h) p ≡ false) gone
gone_counts_not c e h gone none = of_each (λ p. counts_as_end c (e ∷ h) p ≡ false) gone (λ p has.
    and_left (is_lost_now c (e ∷ h) p) (is_end (sampled c (e ∷ h)) p) (at_one (λ q. is_lost_now c (e ∷ h) q ≡ false) gone p none has))

walk_if : (c : Settings) (e : Event) (h : List Event) → IsToleratedRun c (e ∷ h) → (gone kept : List Packet) → packets (e ∷ h) ≡ packets h → reverse (packets h) ≡ gone ++ kept
    → AllByRecursion (λ p. is_lost_now c (e ∷ h) p ≡ false) gone
    → is_persistent c (e ∷ h) ≡ finds_apart (is_acknowledged (e ∷ h)) (counts_as_end c (e ∷ h)) (persistent_after (granularity c) (sampled c (e ∷ h)) c.max_ack_delay) None kept
walk_if c e h run gone kept same parts none =
    let limit = persistent_after (granularity c) (sampled c (e ∷ h)) c.max_ack_delay in
    persistent_is_forward c (e ∷ h) run
    ∙ (ap (finds_apart (is_acknowledged (e ∷ h)) (counts_as_end c (e ∷ h)) limit None) (ap reverse same ∙ parts)
    ∙ front_dropped (is_acknowledged (e ∷ h)) (counts_as_end c (e ∷ h)) limit gone kept (gone_counts_not c e h gone none))

walk_of_kept : (c : Settings) (e : Event) (h : List Event) → IsToleratedRun c (e ∷ h) → (gone kept : List Packet) → reverse (packets h) ≡ gone ++ kept
    → AllByRecursion (λ p. is_lost_now c (e ∷ h) p ≡ false) gone
    → is_persistent c (e ∷ h) ≡ finds_apart (is_acknowledged (e ∷ h)) (counts_as_end c (e ∷ h)) (persistent_after (granularity c) (sampled c (e ∷ h)) c.max_ack_delay) None kept
walk_of_kept c (Sent packet) h run gone kept parts none =
    let e = Sent packet in
    sym (none_found (is_acknowledged (e ∷ h)) (counts_as_end c (e ∷ h)) (persistent_after (granularity c) (sampled c (e ∷ h)) c.max_ack_delay) kept (of_each (λ p. counts_as_end c (e ∷ h) p ≡ false) kept (λ p has. refl)))
walk_of_kept c e h run gone kept parts none = walk_if c e h run gone kept refl parts none

gone_has : (h : List Event) (gone kept : List Packet) (p : Packet) → reverse (packets h) ≡ gone ++ kept → Contains gone p → Contains (packets h) p
gone_has h gone kept p parts has = turned_has (packets h) p (subst (λ (ps : List Packet). Contains ps p) (sym parts) (Contains-append_left gone kept p has))

-- in a tolerated run an event establishes persistent congestion exactly where a walk over the packets kept finds it, in the order of sending
pub persistent_is_walk_of_kept : (c : Settings) (e : Event) (h : List Event) → IsToleratedRun c (e ∷ h) → (gone kept : List Packet) → reverse (packets h) ≡ gone ++ kept → AreDropped c h gone
    → is_persistent c (e ∷ h) ≡ finds_apart (is_acknowledged (e ∷ h)) (counts_as_end c (e ∷ h)) (persistent_after (granularity c) (sampled c (e ∷ h)) c.max_ack_delay) None kept
persistent_is_walk_of_kept c e h run gone kept parts dropped =
    walk_of_kept c e h run gone kept parts (of_each (λ p. is_lost_now c (e ∷ h) p ≡ false) gone
    (λ p has. dropped_not_lost c e h run p (gone_has h gone kept p parts has) (at_one (λ q. is_kept c h q ≡ false) gone p dropped has)))

-- and so it does where closed packets are left out, where losses by number must be declared
pub must_persistent_is_walk_of_kept : (c : Settings) (e : Event) (h : List Event) → IsToleratedRun c (e ∷ h) → (gone kept : List Packet) → reverse (packets h) ≡ gone ++ kept → is_may c.options.loss_by_number ≡ false
    → AreClosed c h gone
    → is_persistent c (e ∷ h) ≡ finds_apart (is_acknowledged (e ∷ h)) (counts_as_end c (e ∷ h)) (persistent_after (granularity c) (sampled c (e ∷ h)) c.max_ack_delay) None kept
must_persistent_is_walk_of_kept c e h run gone kept parts must closed =
    walk_of_kept c e h run gone kept parts (of_each (λ p. is_lost_now c (e ∷ h) p ≡ false) gone
    (λ p has. closed_not_lost c e h run p (gone_has h gone kept p parts has) must (at_one (λ q. is_open c h q ≡ false) gone p closed has)))

-- ---- sums

pub sum_turned : (weight : Packet → ℕ) (ps : List Packet) → sum_by weight (reverse ps) ≡ sum_by weight ps
sum_turned weight [] = refl
sum_turned weight (p ∷ ps) =
    ap (sum_by weight) (turned p ps) ∙ (sum_by_push weight (reverse ps) p ∙ (ap (λ n. n + weight p) (sum_turned weight ps) ∙ (add_comm (sum_by weight ps) (weight p) ∙ sym (sum_by-cons weight p ps))))

pub open_sum_of_kept_in_order : (weight : Packet → ℕ) (c : Settings) (h : List Event) → (gone kept : List Packet) → reverse (packets h) ≡ gone ++ kept → AreClosed c h gone
    → open_sum weight c h ≡ sum_by (counted (is_open c h) weight) kept
open_sum_of_kept_in_order weight c h gone kept parts closed =
    open_sum_of_kept weight c h (reverse kept) (reverse gone) (parts_turned (packets h) gone kept parts) (each_turned (λ p. is_open c h p ≡ false) gone closed)
    ∙ sum_turned (counted (is_open c h) weight) kept

-- ---- after one more event

-- in a tolerated run the closed stay closed
pub stay_closed_in_order : (c : Settings) (e : Event) (h : List Event) → IsToleratedRun c (e ∷ h) → (gone kept : List Packet) → reverse (packets h) ≡ gone ++ kept → AreClosed c h gone → AreClosed c (e ∷ h) gone
stay_closed_in_order c e h run gone kept parts closed = of_each (λ p. is_open c (e ∷ h) p ≡ false) gone (λ p has.
    let inside : Contains (packets h) p = turned_has (packets h) p (subst (λ (ps : List Packet). Contains ps p) (sym parts) (Contains-append_left gone kept p has)) in
    closed_stays c e h run p inside (at_one (λ q. is_open c h q ≡ false) gone p closed has))

turned_after : (e : Event) (h : List Event) → reverse (packets (e ∷ h)) ≡ reverse (packets h) ++ packet_of (length h) e
turned_after (Sent packet) h = reverse-append (packet_of (length h) (Sent packet)) (packets h)
turned_after _ h = sym (append-nil (reverse (packets h)))

-- the packet that the event sends stands last
pub parts_after : (e : Event) (h : List Event) (gone kept : List Packet) → reverse (packets h) ≡ gone ++ kept → reverse (packets (e ∷ h)) ≡ gone ++ (kept ++ packet_of (length h) e)
parts_after e h gone kept parts =
    turned_after e h ∙ (ap (λ ps. ps ++ packet_of (length h) e) parts ∙ append_assoc gone kept (packet_of (length h) e))
