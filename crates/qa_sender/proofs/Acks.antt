-- What an event newly acknowledges, and whether what it found lost establishes persistent congestion.
use Rattle.std.proofs.Common.{◌≡◌, ◌∙◌, ◌+◌, ◌<◌, ◌==◌, ℕ, suc, Bool, true, false, List, [], ◌∷◌, ◌++◌, length, map, None, Some, refl, sym, ap, subst, arith}
use Rattle.std.proofs.lemmas.Bool.{both_ways, ne_eqb}
use Rattle.std.specs.List.{AllByRecursion, filter}
use Rattle.qa_base.specs.declared.event.Event.{Event}
use Rattle.qa_base.specs.machine.Estimates.{sampled}
use Rattle.qa_base.specs.machine.Loss.{is_persistent}
use Rattle.qa_base.specs.machine.Numbers.{AreRanges, Names}
use Rattle.qa_base.specs.machine.Packets.{Packet, is_of, packet_of, packets}
use Rattle.qa_base.specs.machine.Rtt.{Estimate, persistent_after}
use Rattle.qa_base.specs.machine.Violations.{IsToleratedRun}
use Rattle.qa_base.specs.values.Settings.{Settings, granularity}
use Rattle.qa_packet_numbers.specs.Runs as runs
use Rattle.qa_packet_numbers.specs.Sent.{AreSent, BySpace, runs_in}
use Rattle.qa_sender.proofs.Losses.{persistent_is_held, not_persistent_unsampled}
use Rattle.qa_sender.specs.Losing.{HoldsLosses}
use Rattle.qa_sent_packets.specs.Covering.{AreApart, BeginsAbove}
use Rattle.qa_sent_packets.specs.Held.{Held}
use Rattle.qa_sent_packets.specs.Walks.{are_apart}
use Rattle.qa_sent_packets.specs.declared.packet.SentPacket.{SentPacket}

-- ---- ranges in order

above_all : (hi : ℕ) (later : List (ℕ × ℕ)) → AllByRecursion (λ (r : ℕ × ℕ). hi + 1 < r.0) later → BeginsAbove hi later
above_all hi [] all = tt
above_all hi (r ∷ later) all = omega (arith, all.0)

-- runs that stand apart rise
pub apart_rise : (ranges : List (ℕ × ℕ)) → runs.AreApart ranges → AreApart ranges
apart_rise [] apart = tt
apart_rise (r ∷ later) apart = (above_all r.1 later apart.1, apart_rise later apart.2)

pub apart_ordered : (ranges : List (ℕ × ℕ)) → runs.AreApart ranges → AreRanges ranges
apart_ordered [] apart = tt
apart_ordered (r ∷ later) apart = (apart.0, apart_ordered later apart.2)

-- ---- persistent congestion

pub unsampled : (c : Settings) (h : List Event) → IsToleratedRun c h → (r : Estimate) → r ≡ sampled c h → r.first_rtt_sample ≡ None → false ≡ is_persistent c h
unsampled c h run r is none = sym (not_persistent_unsampled c h run (ap (λ (x : Estimate). x.first_rtt_sample) (sym is) ∙ none))

pub persists : (c : Settings) (h : List Event) → IsToleratedRun c h → (r : Estimate) → r ≡ sampled c h → (first : ℕ) → r.first_rtt_sample ≡ Some first
    → (held : Held) → HoldsLosses held c h → (limit delay : ℕ) → limit ≡ persistent_after (granularity c) r delay → delay ≡ c.max_ack_delay
    → (result : Bool) → result ≡ are_apart limit first None held.packets → result ≡ is_persistent c h
persists c h run r is first taken held holds limit delay limit_is delay_is result found =
    found
    ∙ (ap (λ n. are_apart n first None held.packets) (limit_is ∙ (ap (persistent_after (granularity c) r) delay_is ∙ ap (λ (x : Estimate). persistent_after (granularity c) x c.max_ack_delay) is))
    ∙ sym (persistent_is_held c h run first (ap (λ (x : Estimate). x.first_rtt_sample) (sym is) ∙ taken) held holds))

-- ---- what the steps of an acknowledgment ask

-- the numbers that were sent, where the event sends none
pub sent_still : (sets : BySpace) (e : Event) (h : List Event) → packet_of (length h) e ≡ [] → AreSent sets h → AreSent sets (e ∷ h)
sent_still sets e h none sent = record { each = λ s. subst (λ (ps : List Packet). Names (runs_in sets s) (map (λ (p : Packet). p.number) (filter (is_of s) (ps ++ packets h)))) (sym none) (sent.each s) }

pub none_by_length : (ps : List SentPacket) → (length ps == 0) ≡ true → ps ≡ []
none_by_length [] empty = refl
none_by_length (p ∷ ps) empty = let more : (suc (length ps) == 0) ≡ false = ne_eqb (suc (length ps)) 0 (λ same. omega (arith, same)) in absurd (both_ways _ more empty)
