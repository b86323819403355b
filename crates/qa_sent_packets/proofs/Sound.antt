-- All that is kept is sound where what is kept for one space was changed.
use Rattle.std.proofs.Common.{◌≡◌, ℕ, ◌+◌, ◌<◌, ◌≤◌, false, List, [], ◌∷◌, length, map, refl, sym, subst}
use Rattle.std.specs.List.{AllByRecursion}
use Rattle.qa_base.specs.declared.space.Space.{Space}
use Rattle.qa_base.specs.declared.space.Space.TheVariants.{Initial, Handshake, App}
use Rattle.qa_base.specs.values.Events.{is_space}
use Rattle.qa_base.specs.values.Limits.{max_packet_size}
use Rattle.qa_sent_packets.specs.Held.{AreAbove, AreLosses, AreOrdered, IsSpacePackets, IsSound}
use Rattle.qa_base.specs.values.PerSpace.{of_space, with_space}
use Rattle.qa_sent_packets.specs.declared.space_packets.SpacePackets.{SpacePackets}
use Rattle.qa_base.specs.declared.per_space.PerSpace.{PerSpace}
use Rattle.qa_sent_packets.specs.declared.packet.SentPacket.{SentPacket}
use Rattle.qa_sent_packets.specs.declared.packets.Losses.{Losses}
use Rattle.qa_sent_packets.proofs.Alike.{IsSame}
use Rattle.qa_sent_packets.proofs.Parts.{each_map}

-- ---- those that were set aside

-- packets that are changed, but not their numbers and spaces, are above those that were set aside
pub above_same : (strays : PerSpace (List SentPacket)) (f : SentPacket → SentPacket) → ((p : SentPacket) → IsSame p (f p)) → (ps : List SentPacket) → AreAbove strays ps → AreAbove strays (map f ps)
above_same strays f each ps above =
    each_map (λ p. AllByRecursion (λ q. q.number < p.number) (of_space p.space strays)) (λ p. AllByRecursion (λ q. q.number < p.number) (of_space p.space strays)) f
    (λ p all. subst (λ (n : ℕ). AllByRecursion (λ (q : SentPacket). q.number < n) (of_space (f p).space strays)) (sym (each p).number)
    (subst (λ (s : Space). AllByRecursion (λ (q : SentPacket). q.number < p.number) (of_space s strays)) (sym (each p).space) all)) ps above

-- and so they are where fewer were
pub above_fewer : (before after : PerSpace (List SentPacket)) → ((P : SentPacket → Type 0) (s : Space) → AllByRecursion P (of_space s before) → AllByRecursion P (of_space s after))
    → (ps : List SentPacket) → AreAbove before ps → AreAbove after ps
above_fewer before after fewer [] above = tt
above_fewer before after fewer (p ∷ ps) above = (fewer (λ q. q.number < p.number) p.space above.0, above_fewer before after fewer ps above.1)

-- ---- all

-- all but what is kept for the spaces
pub record IsSoundBeside (d : ℕ) (ps : List SentPacket) (losses : Losses) (strays : PerSpace (List SentPacket)) : Type 0 where
  pub owed : AreLosses d ps losses
  pub ordered : AreOrdered ps
  pub sizes : AllByRecursion (λ (p : SentPacket). p.size ≤ max_packet_size) ps
  pub few : d + length ps ≤ 4294967295
  pub above : AreAbove strays ps

pub beside : (d : ℕ) (ps : List SentPacket) (losses : Losses) (by_space : PerSpace SpacePackets) (strays : PerSpace (List SentPacket)) → IsSound d ps losses by_space strays → IsSoundBeside d ps losses strays
beside d ps losses by_space strays sound = record { owed = sound.owed; ordered = sound.ordered; sizes = sound.sizes; few = sound.few; above = sound.above }

-- what is kept for each space is of its space
pub space_packets_sound : {strays : PerSpace (List SentPacket)} (d : ℕ) (ps : List SentPacket) (losses : Losses) (by_space : PerSpace SpacePackets) → IsSound d ps losses by_space strays → (s : Space) → IsSpacePackets s d ps (of_space s by_space)
space_packets_sound d ps losses by_space sound Initial = sound.initial
space_packets_sound d ps losses by_space sound Handshake = sound.handshake
space_packets_sound d ps losses by_space sound App = sound.app

-- with this kept for a space, where the others are those of their spaces as they were
pub sound_with : {strays : PerSpace (List SentPacket)} (d : ℕ) (ps : List SentPacket) (losses : Losses) (by_space : PerSpace SpacePackets) (s : Space) (space_packets : SpacePackets) → IsSoundBeside d ps losses strays → IsSpacePackets s d ps space_packets
    → ((t : Space) → is_space t s ≡ false → IsSpacePackets t d ps (of_space t by_space)) → IsSound d ps losses (with_space s by_space space_packets) strays
sound_with d ps losses by_space Initial space_packets b own others = record {
  initial = own;
  handshake = others Handshake refl;
  app = others App refl;
  owed = b.owed;
  ordered = b.ordered;
  sizes = b.sizes;
  few = b.few;
  above = b.above;
}
sound_with d ps losses by_space Handshake space_packets b own others = record {
  initial = others Initial refl;
  handshake = own;
  app = others App refl;
  owed = b.owed;
  ordered = b.ordered;
  sizes = b.sizes;
  few = b.few;
  above = b.above;
}
sound_with d ps losses by_space App space_packets b own others = record {
  initial = others Initial refl;
  handshake = others Handshake refl;
  app = own;
  owed = b.owed;
  ordered = b.ordered;
  sizes = b.sizes;
  few = b.few;
  above = b.above;
}

-- where fewer were set aside
pub sound_fewer : (before after : PerSpace (List SentPacket)) (d : ℕ) (ps : List SentPacket) (losses : Losses) (by_space : PerSpace SpacePackets)
    → ((P : SentPacket → Type 0) (s : Space) → AllByRecursion P (of_space s before) → AllByRecursion P (of_space s after)) → IsSound d ps losses by_space before → IsSound d ps losses by_space after
sound_fewer before after d ps losses by_space fewer sound = record {
  initial = sound.initial;
  handshake = sound.handshake;
  app = sound.app;
  owed = sound.owed;
  ordered = sound.ordered;
  sizes = sound.sizes;
  few = sound.few;
  above = above_fewer before after fewer ps sound.above;
}
