-- What each kind of event makes of the packets that are held, so that they stand for the history with that event.
use Rattle.std.proofs.Common.{◌≡◌, ◌∙◌, ◌<◌, ℕ, List, [], ◌∷◌, ◌++◌, length, map, map-id, Bool, true, false, ◌&&◌, ◌||◌, Option, Some, None, refl, sym, ap, ap₂, subst, arith, filter, reverse}
use Rattle.std.proofs.lemmas.Bool.{and_parts, lt-ltb}
use Rattle.std.proofs.lemmas.List.{map-append, map_push}
use Rattle.std.proofs.lemmas.List.Elements.{filter-append}
use Rattle.std.specs.List.{AllByRecursion}
use Rattle.std.specs.Prelude.{if◌then◌else◌, nat_lt}
use Rattle.qa_base.specs.declared.event.Event.{Event}
use Rattle.qa_base.specs.declared.event.Ack.{Ack as Acknowledgment}
use Rattle.qa_base.specs.declared.event.Event.TheVariants.{Sent, Ack, Lost, Timer, Discard}
use Rattle.qa_base.specs.declared.space.TimerKind.TheVariants.{Loss}
use Rattle.qa_base.specs.declared.space.Permission.{Permission}
use Rattle.qa_base.specs.declared.space.Space.{Space}
use Rattle.qa_base.specs.machine.Breaches.{is_loss_owed}
use Rattle.qa_base.specs.machine.Detection.{all_at, is_at, is_found, looks_at, old_at}
use Rattle.qa_base.specs.machine.Estimates.{sampled, rtt}
use Rattle.qa_base.specs.machine.Loss.{is_free, is_open as opens, is_owed as owes, owed, detection}
use Rattle.qa_base.specs.machine.Packets.{Packet, packets, acknowledges_new, is_acknowledged as covers, is_discarded, is_declared_lost, is_newly_acknowledged, is_of, is_some_packet, newly_acknowledged, packet_at}
use Rattle.qa_base.specs.machine.Violations.{IsToleratedRun}
use Rattle.qa_base.specs.values.Events.{acknowledges, declares_lost, discards, is_named}
use Rattle.qa_base.specs.values.PerSpace.{of_space}
use Rattle.qa_base.specs.values.Settings.{Settings, early}
use Rattle.qa_base.proofs.machine.Quiet.{not_followed}
use Rattle.qa_base.proofs.machine.RunLaws.{form_holds}
use Rattle.qa_base.proofs.history.ToleratedRuns.{in_order}
use Rattle.qa_base.proofs.history.Pairs.{at_one, of_each, part_is, part_of_part, part_turned, same_part}
use Rattle.qa_base.proofs.history.Sending.{parts_after}
use Rattle.qa_base.specs.history.Sequence.{WasSentBefore}
use Rattle.qa_sender.proofs.Aside.{all_stay, covered_unfound, found_not, lost_not, same_open, strays_covered, strays_discarded}
use Rattle.qa_sender.proofs.Carrying.{are_strays, each_kept, gone_has, none_held_owed, none_owes, shed_stay, stands_after, strays_after}
use Rattle.qa_sender.proofs.Fates.{covered_told, declared_told, discarded_told, fate_after, found_told, is_open_told, new_told, same_told}
use Rattle.qa_sender.proofs.connection_lemmas.Lists.{each_of_map, each_value, filter_of_map, map_fused, map_same}
use Rattle.qa_sender.specs.Following.{as_sent}
use Rattle.qa_sender.specs.Losing.{told}
use Rattle.qa_sender.specs.Thresholds.{AreThresholdsAt}
use Rattle.qa_sender.specs.Standing.{StandsFor, is_open_of, replaced}
use Rattle.qa_sent_packets.specs.Fates.{is_new, is_owed}
use Rattle.qa_sent_packets.specs.Free.{is_free_by, taken_by}
use Rattle.qa_sent_packets.specs.Held.{Held, IsBefore}
use Rattle.qa_sent_packets.specs.declared.free.FreePackets.{FreePackets}
use Rattle.qa_sent_packets.specs.Steps.{Thresholds, acknowledged, covered_by, declared, discarded, discarded_in, found_by, newly_found, with_fate}
use Rattle.qa_sent_packets.specs.Told.{fate, fate_by, sent_of}
use Rattle.qa_sent_packets.specs.declared.fate.Fate.TheVariants.{Acknowledged, Open}
use Rattle.qa_sent_packets.specs.declared.packet.SentPacket.{SentPacket}

-- ---- nothing is owed before an event that is no Lost line

-- in a tolerated run no packet is held as owed before an event of which the rule on owed losses asks; it asks of each that is no Lost line, where
-- the second premise is `refl`
pub settled_before : (c : Settings) (e : Event) (h : List Event) → IsToleratedRun c (e ∷ h) → is_loss_owed c h e ≡ is_some_packet (owed c h)
    → (held : Held) → StandsFor held c h → AllByRecursion (λ p. is_owed p.fate ≡ false) held.packets
settled_before c e h run asks held stands = none_held_owed c h run.0 held stands (sym asks ∙ (form_holds c h e run.1).loss_owed)

covered_or_not : (p : SentPacket) (b : Bool) → is_owed p.fate ≡ false → is_owed (if b then with_fate Acknowledged p else p).fate ≡ false
covered_or_not p true free = refl
covered_or_not p false free = free

-- covering makes none owed
pub settled_covered : (s : Space) (ranges : List (ℕ × ℕ)) (ps : List SentPacket) → AllByRecursion (λ p. is_owed p.fate ≡ false) ps
    → AllByRecursion (λ p. is_owed p.fate ≡ false) (map (covered_by s ranges) ps)
settled_covered s ranges [] free = tt
settled_covered s ranges (p ∷ ps) free = (covered_or_not p _ free.0, settled_covered s ranges ps free.1)

-- ---- a packet is sent

-- the packet of the history that is sent
abbrev packet_after : List Event → SentPacket → Permission → Packet
packet_after h p permission = packet_at (length h) (as_sent p permission)

fresh_by : (cov los own gone : Bool) → cov ≡ false → los ≡ false → own ≡ false → gone ≡ false → fate_by cov los own gone ≡ Open
fresh_by cov los own gone not_covered not_lost not_owed there = rw (not_covered, not_lost, not_owed, there) refl

-- in a tolerated run the packet that is sent stands behind all that are held
pub stands_sent : (c : Settings) (h : List Event) (packet : SentPacket) (permission : Permission) → packet.fate ≡ Open → packet.place ≡ length h
    → IsToleratedRun c (Sent (as_sent packet permission) ∷ h)
    → (old new : Held) → StandsFor old c h → new ≡ record { dropped = old.dropped; packets = old.packets ++ packet ∷ []; strays = old.strays }
    → StandsFor new c (Sent (as_sent packet permission) ∷ h)
stands_sent c h packet permission opened placed run old new stands is =
    let e = Sent (as_sent packet permission) in
    let holds = form_holds c h e run.1 in
    let p = packet_after h packet permission in
    let not_covered : covers (e ∷ h) p ≡ false = not_followed (acknowledges packet.space packet.number) h p (omega arith) in
    let not_lost : is_declared_lost (e ∷ h) p ≡ false = not_followed (declares_lost packet.space packet.number) h p (omega arith) in
    let fresh : fate c (e ∷ h) p ≡ Open = fresh_by (covers (e ∷ h) p) (is_declared_lost (e ∷ h) p) (owes c (e ∷ h) p) (is_discarded (e ∷ h) p.space) not_covered not_lost refl holds.space_gone in
    let here : packet ≡ sent_of c (e ∷ h) p = ap₂ (λ f n. record (with_fate f packet) { place = n }) (opened ∙ sym fresh) placed in
    let same : map (sent_of c h) stands.kept ≡ map (sent_of c (e ∷ h)) stands.kept =
    map_same (sent_of c h) (sent_of c (e ∷ h)) stands.kept (each_kept (λ q. sent_of c h q ≡ sent_of c (e ∷ h) q) old c h stands
    (λ q has. same_told c e h run q has refl (none_owes c h holds.loss_owed q has) refl refl refl)) in
    let step : SentPacket → SentPacket = λ q. q in
    record {
      gone = stands.gone;
      kept = stands.kept ++ p ∷ [];
      parts = parts_after e h stands.gone stands.kept stands.parts;
      place = ap (λ (k : Held). k.dropped) is ∙ stands.place;
      packets_are = ap (λ (k : Held). k.packets) is
          ∙ (ap (λ ps. ps ++ packet ∷ []) (stands.packets_are ∙ same)
          ∙ (ap (λ q. map (sent_of c (e ∷ h)) stands.kept ++ q ∷ []) here
          ∙ sym (map_push (sent_of c (e ∷ h)) stands.kept p)));
      shed = shed_stay c e h run old stands;
      strays_are = λ s. strays_after c e h run step (λ q has. same_told c e h run q has refl (none_owes c h holds.loss_owed q has) refl refl refl) old stands s (of_space s new.strays)
          (ap (λ (k : Held). of_space s k.strays) is ∙ all_stay step s (of_space s old.strays) (λ q stray. refl) (are_strays old c h stands s));
    }

-- in a tolerated run it was sent after all that are held, and its number is higher than theirs of its space
pub sent_last : (c : Settings) (h : List Event) (packet : SentPacket) (permission : Permission) → packet.place ≡ length h
    → IsToleratedRun c (Sent (as_sent packet permission) ∷ h)
    → (held : Held) → StandsFor held c h → AllByRecursion (λ q. IsBefore packet q) held.packets
sent_last c h packet permission placed run held stands =
    let e = Sent (as_sent packet permission) in
    let p = packet_after h packet permission in
    let order : AllByRecursion (WasSentBefore p) (packets h) = (in_order c (e ∷ h) run).0 in
    subst (λ (ps : List SentPacket). AllByRecursion (λ q. IsBefore packet q) ps) (sym stands.packets_are)
    (each_of_map (λ q. IsBefore packet q) (sent_of c h) stands.kept
    (each_kept (λ q. IsBefore packet (sent_of c h q)) held c h stands (λ q has.
    let before = at_one (WasSentBefore p) (packets h) q order has in record { place = rw placed before.place; time = before.time; number = before.number })))

-- in a tolerated run its number is higher than those of its space that were set aside
pub sent_above : (c : Settings) (h : List Event) (packet : SentPacket) (permission : Permission)
    → IsToleratedRun c (Sent (as_sent packet permission) ∷ h)
    → (held : Held) → StandsFor held c h → AllByRecursion (λ q. q.number < packet.number) (of_space packet.space held.strays)
sent_above c h packet permission run held stands =
    let e = Sent (as_sent packet permission) in
    let s = packet.space in
    let p = packet_after h packet permission in
    let part = filter (is_open_of c h s) stands.gone in
    let order : AllByRecursion (WasSentBefore p) (packets h) = (in_order c (e ∷ h) run).0 in
    subst (λ (ps : List SentPacket). AllByRecursion (λ q. q.number < packet.number) ps) (sym (stands.strays_are s))
    (each_of_map (λ q. q.number < packet.number) (sent_of c h) part
    (of_each (λ q. q.number < packet.number) part (λ q has.
    let inside = part_is (is_open_of c h s) stands.gone q has in
    let before : WasSentBefore p q = at_one (WasSentBefore p) (packets h) q order (gone_has held c h stands q inside.0) in
    before.number (and_parts (is_of s q) (opens c h q) inside.1).0)))

-- ---- an acknowledgment

-- in a tolerated run the packets held that an acknowledgment names and that are open are those that it newly acknowledges, in the order of sending
kept_newly : (c : Settings) (h : List Event) (ack : Acknowledgment)
    → IsToleratedRun c (Ack ack ∷ h) → (held : Held) (stands : StandsFor held c h)
    → filter (is_new ack.space ack.ranges) held.packets ≡ map (sent_of c h) (filter (is_newly_acknowledged (Ack ack) h) stands.kept)
kept_newly c h ack run held stands =
    let e = Ack ack in
    let holds = form_holds c h e run.1 in
    ap (filter (is_new ack.space ack.ranges)) stands.packets_are
    ∙ filter_of_map (is_new ack.space ack.ranges) (sent_of c h) (is_newly_acknowledged e h) stands.kept
    (each_kept (λ p. is_new ack.space ack.ranges (sent_of c h p) ≡ is_newly_acknowledged e h p) held c h stands
    (λ p has. new_told c h ack holds.space_gone p (none_owes c h holds.loss_owed p has)))

-- and so are those that were set aside and are named
aside_newly : (c : Settings) (h : List Event) (ack : Acknowledgment)
    → IsToleratedRun c (Ack ack ∷ h) → (held : Held) (stands : StandsFor held c h)
    → filter (λ q. is_named ack.ranges q.number) (of_space ack.space held.strays) ≡ map (sent_of c h) (filter (is_newly_acknowledged (Ack ack) h) stands.gone)
aside_newly c h ack run held stands =
    let e = Ack ack in
    let s = ack.space in
    let holds = form_holds c h e run.1 in
    let part = filter (is_open_of c h s) stands.gone in
    let named : Packet → Bool = λ p. is_named ack.ranges p.number in
    ap (filter (λ q. is_named ack.ranges q.number)) (stands.strays_are s)
    ∙ (filter_of_map (λ q. is_named ack.ranges q.number) (sent_of c h) named part (each_value (λ p. named p ≡ named p) (λ p. refl) part)
    ∙ ap (map (sent_of c h)) (sym (part_of_part (is_open_of c h s) named stands.gone)
    ∙ same_part (λ p. is_open_of c h s p && named p) (is_newly_acknowledged e h) stands.gone
    (of_each (λ p. (is_open_of c h s p && named p) ≡ is_newly_acknowledged e h p) stands.gone (λ p has.
    ap (λ b. is_of s p && b && named p) (sym (is_open_told c h p))
    ∙ new_told c h ack holds.space_gone p (none_owes c h holds.loss_owed p (gone_has held c h stands p has))))))

-- so an acknowledgment finds what it newly acknowledges, in the order of sending
pub newly_stand : (c : Settings) (h : List Event) (ack : Acknowledgment)
    → IsToleratedRun c (Ack ack ∷ h) → (held : Held) → StandsFor held c h
    → newly_found ack.space ack.ranges held ≡ map (sent_of c h) (reverse (newly_acknowledged (Ack ack ∷ h)))
newly_stand c h ack run held stands =
    let test : Packet → Bool = is_newly_acknowledged (Ack ack) h in
    let all : reverse (filter test (packets h)) ≡ filter test stands.gone ++ filter test stands.kept =
    sym (part_turned test (packets h)) ∙ (ap (filter test) stands.parts ∙ filter-append test stands.gone stands.kept) in
    ap₂ (λ xs ys. xs ++ ys) (aside_newly c h ack run held stands) (kept_newly c h ack run held stands)
    ∙ (sym (map-append (sent_of c h) (filter test stands.gone) (filter test stands.kept)) ∙ ap (map (sent_of c h)) (sym all))

pub some_by_length : (ps : List Packet) → is_some_packet ps ≡ nat_lt 0 (length ps)
some_by_length [] = refl
some_by_length (p ∷ ps) = sym (lt-ltb 0 (length (p ∷ ps)) (omega arith))

nothing_found : (c : Settings) (h : List Event) (ack : Acknowledgment)
    → acknowledges_new (Ack ack ∷ h) ≡ false → (p : Packet) → owes c (Ack ack ∷ h) p ≡ false
nothing_found c h ack none p =
    ap (λ b. is_at (is_found c (sampled c (Ack ack ∷ h)) (Ack ack ∷ h)) p (if◌then◌else◌ {A = Option (Space × ℕ)} b (Some (ack.space, ack.time)) None)) none

between_by : (cov los was own gone : Bool) → was ≡ false → own ≡ false → fate_by cov los false gone ≡ fate_by cov (was || los) own gone
between_by cov los was own gone not_was not_own = rw (not_was, not_own) refl

-- an acknowledgment of nothing new finds nothing lost
pub nothing_owed : (c : Settings) (h : List Event) (ack : Acknowledgment)
    → acknowledges_new (Ack ack ∷ h) ≡ false → owed c (Ack ack ∷ h) ≡ []
nothing_owed c h ack none =
    ap (λ b. all_at (is_found c (sampled c (Ack ack ∷ h)) (Ack ack ∷ h)) (Ack ack ∷ h) (if◌then◌else◌ {A = Option (Space × ℕ)} b (Some (ack.space, ack.time)) None)) none

-- in a tolerated run, after an acknowledgment of nothing new, the packets that it names are covered, and the packets held stand for the history
pub stands_covered : (c : Settings) (h : List Event) (ack : Acknowledgment)
    → IsToleratedRun c (Ack ack ∷ h) → acknowledges_new (Ack ack ∷ h) ≡ false
    → (old new : Held) → StandsFor old c h → new ≡ acknowledged ack.space ack.ranges old
    → StandsFor new c (Ack ack ∷ h)
stands_covered c h ack run none old new stands is =
    let e = Ack ack in
    let holds = form_holds c h e run.1 in
    stands_after c e h run refl (covered_by ack.space ack.ranges) (λ p has.
    let not_was = none_owes c h holds.loss_owed p has in
    covered_told c h ack holds.space_gone p not_was
    ∙ ap (λ f. told f p) (between_by (acknowledges p.space p.number e || covers h p) (is_declared_lost h p) (owes c h p) (owes c (e ∷ h) p) (is_discarded h p.space)
    not_was (nothing_found c h ack none p)
    ∙ sym (fate_after c e h run p has refl))) old new stands (ap (λ (k : Held). k.dropped) is) (ap (λ (k : Held). k.packets) is)
    (λ s. ap (λ (k : Held). of_space s k.strays) is ∙ strays_covered ack.space ack.ranges old.strays (are_strays old c h stands) s)

-- in a tolerated run, after an acknowledgment of something new, the packets that it names are covered and those that are late are owed
pub stands_acknowledged : (c : Settings) (h : List Event) (ack : Acknowledgment)
    → IsToleratedRun c (Ack ack ∷ h) → acknowledges_new (Ack ack ∷ h) ≡ true
    → (l : Thresholds) → AreThresholdsAt c (Ack ack ∷ h) ack.space ack.time l
    → (old middle new : Held) → StandsFor old c h → middle ≡ acknowledged ack.space ack.ranges old → new ≡ replaced (found_by ack.space l) middle
    → StandsFor new c (Ack ack ∷ h)
stands_acknowledged c h ack run some l thresholds old middle new stands covering finding =
    let e = Ack ack in
    let holds = form_holds c h e run.1 in
    let step : SentPacket → SentPacket = λ q. found_by ack.space l (covered_by ack.space ack.ranges q) in
    let at : detection c (e ∷ h) ≡ Some (ack.space, ack.time) = ap (λ b. if◌then◌else◌ {A = Option (Space × ℕ)} b (Some (ack.space, ack.time)) None) some in
    stands_after c e h run refl step (λ p has.
    let not_was = none_owes c h holds.loss_owed p has in
    ap (found_by ack.space l) (covered_told c h ack holds.space_gone p not_was)
    ∙ found_told c e h run ack.space ack.time at refl l thresholds p has not_was refl refl) old new stands
    (ap (λ (k : Held). k.dropped) finding ∙ ap (λ (k : Held). k.dropped) covering)
    (ap (λ (k : Held). k.packets) finding ∙ (ap (λ (k : Held). map (found_by ack.space l) k.packets) covering
    ∙ map_fused (found_by ack.space l) (covered_by ack.space ack.ranges) step old.packets (each_value (λ q. found_by ack.space l (covered_by ack.space ack.ranges q) ≡ step q) (λ q. refl) old.packets)))
    (λ s. ap (λ (k : Held). of_space s k.strays) finding ∙ (ap (λ (k : Held). of_space s k.strays) covering
    ∙ (strays_covered ack.space ack.ranges old.strays (are_strays old c h stands) s
    ∙ sym (same_open step (covered_by ack.space ack.ranges) s (of_space s old.strays) (covered_unfound ack.space ack.ranges l s) (are_strays old c h stands s)))))

-- ---- a timer

-- in a tolerated run, after a loss timer, the packets of its space that are late are owed
pub stands_loss_timer : (c : Settings) (h : List Event) (time : ℕ) (space : Space) → IsToleratedRun c (Timer time Loss space ∷ h)
    → (l : Thresholds) → AreThresholdsAt c (Timer time Loss space ∷ h) space (looks_at (early c) time (old_at c (rtt c h) h space)) l
    → (old new : Held) → StandsFor old c h → new ≡ replaced (found_by space l) old → StandsFor new c (Timer time Loss space ∷ h)
stands_loss_timer c h time space run l thresholds old new stands is =
    let e = Timer time Loss space in
    let holds = form_holds c h e run.1 in
    stands_after c e h run refl (found_by space l) (λ p has.
    let not_was = none_owes c h holds.loss_owed p has in
    ap (λ b. found_by space l (told (fate_by (covers h p) (is_declared_lost h p) b (is_discarded h p.space)) p)) not_was
    ∙ found_told c e h run space (looks_at (early c) time (old_at c (rtt c h) h space)) refl refl l thresholds p has not_was refl refl) old new stands (ap (λ (k : Held). k.dropped) is) (ap (λ (k : Held). k.packets) is)
    (λ s. ap (λ (k : Held). of_space s k.strays) is ∙ all_stay (found_by space l) s (of_space s old.strays) (λ q stray. found_not space l q stray.grounded) (are_strays old c h stands s))

-- ---- a Lost line, and a discard

-- in a tolerated run, after a Lost line, what was owed is declared lost, and what was free and is named
pub stands_lost : (c : Settings) (h : List Event) (time : ℕ) (space : Space) (ranges : List (ℕ × ℕ)) → IsToleratedRun c (Lost time space ranges ∷ h)
    → (free : FreePackets) → ((q : Packet) → is_free_by free (sent_of c h q) ≡ is_free c h q)
    → (old middle new : Held) → StandsFor old c h → middle ≡ replaced (taken_by free ranges) old → new ≡ replaced declared middle → StandsFor new c (Lost time space ranges ∷ h)
stands_lost c h time space ranges run free are old middle new stands taking declaring =
    let step : SentPacket → SentPacket = λ q. declared (taken_by free ranges q) in
    stands_after c (Lost time space ranges) h run refl step (declared_told c h time space ranges run free are) old new stands
    (ap (λ (k : Held). k.dropped) declaring ∙ ap (λ (k : Held). k.dropped) taking)
    (ap (λ (k : Held). k.packets) declaring ∙ (ap (λ (k : Held). map declared k.packets) taking
    ∙ map_fused declared (taken_by free ranges) step old.packets (each_value (λ q. declared (taken_by free ranges q) ≡ step q) (λ q. refl) old.packets)))
    (λ s. ap (λ (k : Held). of_space s k.strays) declaring ∙ (ap (λ (k : Held). of_space s k.strays) taking
    ∙ all_stay step s (of_space s old.strays) (lost_not free ranges s) (are_strays old c h stands s)))

-- in a tolerated run, after a discard, the uncovered packets of its space are discarded
pub stands_discarded : (c : Settings) (h : List Event) (time : ℕ) (space : Space) → IsToleratedRun c (Discard time space ∷ h)
    → (old new : Held) → StandsFor old c h → new ≡ discarded space old → StandsFor new c (Discard time space ∷ h)
stands_discarded c h time space run old new stands is =
    let holds = form_holds c h (Discard time space) run.1 in
    stands_after c (Discard time space) h run refl (discarded_in space)
    (λ p has. discarded_told c h time space run p has (none_owes c h holds.loss_owed p has)) old new stands
    (ap (λ (k : Held). k.dropped) is) (ap (λ (k : Held). k.packets) is)
    (λ s. ap (λ (k : Held). of_space s k.strays) is ∙ strays_discarded space old.strays (are_strays old c h stands) s)

-- ---- events that change no packet

-- in a tolerated run the packets held stand for the history also after an event that asks for nothing owed, and neither sends, acknowledges,
-- discards nor finds lost
pub stands_still : (c : Settings) (e : Event) (h : List Event) → IsToleratedRun c (e ∷ h) → packets (e ∷ h) ≡ packets h → is_loss_owed c h e ≡ is_some_packet (owed c h)
    → ((p : Packet) → acknowledges p.space p.number e ≡ false) → ((p : Packet) → owes c (e ∷ h) p ≡ false) → ((p : Packet) → discards p.space e ≡ false) → ((p : Packet) → declares_lost p.space p.number e ≡ false)
    → (held : Held) → StandsFor held c h → StandsFor held c (e ∷ h)
stands_still c e h run same asks no_ack not_own no_disc unnamed held stands =
    let none = sym asks ∙ (form_holds c h e run.1).loss_owed in
    stands_after c e h run same (λ q. q) (λ p has. same_told c e h run p has (no_ack p) (none_owes c h none p has) (not_own p) (no_disc p) (unnamed p))
    held held stands refl (sym (map-id held.packets)) (λ s. all_stay (λ q. q) s (of_space s held.strays) (λ q stray. refl) (are_strays held c h stands s))
