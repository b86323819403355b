-- The numbers that are free by what is kept are those that are free after the history.
use Rattle.std.proofs.Common.{◌≡◌, ◌∙◌, ◌&&◌, ℕ, List, map, false, Option, Some, None, option_map, refl, sym, ap, filter, reverse}
use Rattle.std.proofs.lemmas.Bool.{both_ways, false_from_ne_true}
use Rattle.std.specs.List.{AllByRecursion}
use Rattle.qa_base.specs.declared.event.Event.{Event}
use Rattle.qa_base.specs.declared.space.Space.{Space}
use Rattle.qa_base.specs.machine.Breaches.{numbers}
use Rattle.qa_base.specs.machine.Detection.{all_at, is_at, is_left}
use Rattle.qa_base.specs.machine.Estimates.{sampled}
use Rattle.qa_base.specs.machine.Loss.{detection, free, is_free, is_open as opens}
use Rattle.qa_base.specs.machine.Packets.{Packet, is_of, packets}
use Rattle.qa_base.specs.machine.Violations.{IsToleratedRun}
use Rattle.qa_base.specs.values.Settings.{Settings}
use Rattle.qa_ledger.specs.causes.Causes.{searched}
use Rattle.qa_sender.proofs.connection_lemmas.Lists.{each_value, filter_of_map, map_fused, map_turned}
use Rattle.qa_sender.specs.connection.Detecting.{Search, detected_in, search_by, search_of}
use Rattle.qa_sender.specs.connection.Known.{IsOf}
use Rattle.qa_sender.specs.declared.connection.connection.Connection.{Connection}
use Rattle.qa_sender.specs.declared.connection.detection.Detection.{Detection}
use Rattle.qa_base.proofs.history.Changes.{free_is_flying}
use Rattle.qa_base.proofs.history.Pairs.{each_weaker, none_left, of_each, part_of_part}
use Rattle.qa_sender.proofs.Carrying.{shed_grounded}
use Rattle.qa_sender.proofs.Nameable.{free_told, part_of_kept}
use Rattle.qa_sender.specs.Freeing.{free_of}
use Rattle.qa_sender.specs.Standing.{StandsFor}
use Rattle.qa_sent_packets.specs.Free.{free_numbers, is_free_by}
use Rattle.qa_sent_packets.specs.Held.{Held}
use Rattle.qa_sent_packets.specs.Told.{sent_of}
use Rattle.qa_sent_packets.specs.declared.packet.SentPacket.{SentPacket}

-- ---- their numbers

left_part : (c : Settings) (h : List Event) (d : Option (Space × ℕ)) → filter (λ p. is_at (is_left c (sampled c h) h) p d) (packets h) ≡ all_at (is_left c (sampled c h) h) h d
left_part c h None = none_left (λ p. false) (packets h) (of_each (λ p. false ≡ false) (packets h) (λ p has. refl))
left_part c h (Some (s, now)) = part_of_part (is_of s) (is_left c (sampled c h) h now s) (packets h)

-- none of those that left the queue is free
dropped_unfree : (c : Settings) (h : List Event) → IsToleratedRun c h → (held : Held) (stands : StandsFor held c h) → AllByRecursion (λ p. is_free c h p ≡ false) stands.gone
dropped_unfree c h run held stands =
    each_weaker (λ p. (p.in_flight && opens c h p) ≡ false) (λ p. is_free c h p ≡ false)
    (λ p out. false_from_ne_true (is_free c h p) (λ left. both_ways (p.in_flight && opens c h p) out (free_is_flying c h run p left)))
    stands.gone (shed_grounded c h stands.gone stands.shed)

-- in a tolerated run they are those of the packets held that are free, in the order of sending
pub free_numbers_stand : (k : Connection) (c : Settings) (h : List Event) → IsToleratedRun c h → IsOf k c h → (held : Held) → StandsFor held c h
    → free_numbers (free_of k) held.packets ≡ reverse (numbers (free c h))
free_numbers_stand k c h run of held stands =
    ap (free_numbers (free_of k)) stands.packets_are
    ∙ (ap (map (λ (p : SentPacket). p.number)) (filter_of_map (is_free_by (free_of k)) (sent_of c h) (is_free c h) stands.kept
    (each_value (λ p. is_free_by (free_of k) (sent_of c h p) ≡ is_free c h p) (free_told k c h run of) stands.kept))
    ∙ (map_fused (λ (p : SentPacket). p.number) (sent_of c h) (λ (p : Packet). p.number) (filter (is_free c h) stands.kept)
    (each_value (λ (p : Packet). p.number ≡ p.number) (λ p. refl) (filter (is_free c h) stands.kept))
    ∙ (ap (map (λ (p : Packet). p.number)) (sym (part_of_kept (is_free c h) h stands.gone stands.kept stands.parts (dropped_unfree c h run held stands)) ∙ ap reverse (left_part c h (detection c h)))
    ∙ map_turned (λ (p : Packet). p.number) (free c h))))

-- ---- their space

space_told : (c : Settings) (h : List Event) (d : Option (Space × ℕ)) → option_map (λ (kept : Search). kept.space) (option_map (search_of c) (option_map (detected_in c h) d)) ≡ option_map (λ at. at.0) d
space_told c h None = refl
space_told c h (Some d) = refl

space_by : (searched : Option Space) (d : Option Detection) → searched ≡ option_map (λ (kept : Search). kept.space) (search_by searched d)
space_by None d = refl
space_by (Some space) d = refl

-- the space in which the last event looked for losses is kept
pub searched_is_held : (k : Connection) (c : Settings) (h : List Event) → IsOf k c h → k.searched ≡ searched c h
searched_is_held k c h of = space_by k.searched k.detection ∙ (ap (option_map (λ (kept : Search). kept.space)) of.search ∙ space_told c h (detection c h))
