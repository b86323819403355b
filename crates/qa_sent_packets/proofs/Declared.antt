-- What a Lost line makes of the packets.
use Rattle.std.proofs.Common.{◌≡◌, ◌∙◌, ℕ, Bool, true, false, List, [], ◌∷◌, ◌++◌, length, map, take, drop, refl, sym, ap, arith}
use Rattle.std.specs.Prelude.{if◌then◌else◌}
use Rattle.std.proofs.lemmas.List.{length-map, map-append, take-append-drop}
use Rattle.qa_base.specs.declared.space.Space.{Space}
use Rattle.qa_base.specs.declared.space.Space.TheVariants.{Initial, Handshake, App}
use Rattle.qa_base.specs.values.Limits.{max_packet_size}
use Rattle.qa_sent_packets.specs.Fates.{is_open, is_owed, is_unacknowledged}
use Rattle.qa_sent_packets.specs.Held.{IsSound}
use Rattle.qa_sent_packets.specs.Owing.{IsOwedPart, NoneOwed}
use Rattle.qa_sent_packets.specs.Steps.{declared}
use Rattle.qa_sent_packets.specs.declared.fate.Fate.{Fate}
use Rattle.qa_sent_packets.specs.declared.fate.Fate.TheVariants.{Open, Owed, DeclaredLost, Acknowledged, Discarded}
use Rattle.qa_base.specs.declared.per_space.PerSpace.{PerSpace}
use Rattle.qa_sent_packets.specs.declared.space_packets.SpacePackets.{SpacePackets}
use Rattle.qa_sent_packets.specs.declared.packet.SentPacket.{SentPacket}
use Rattle.qa_sent_packets.specs.declared.packets.Losses.{Losses}
use Rattle.qa_sent_packets.proofs.Alike.{IsAlike, IsSame, alike_if, alike_same, space_packets_alike, ordered_same, same_if, sizes_same}
use Rattle.qa_sent_packets.proofs.Parts.{each_weaker, map_same}
use Rattle.qa_sent_packets.proofs.Settled.{losses_none}
use Rattle.qa_sent_packets.proofs.Sound.{above_same}

-- ---- what becomes of one packet

waits_owed : (f : Fate) → is_owed f ≡ true → is_unacknowledged DeclaredLost ≡ is_unacknowledged f
waits_owed Owed e = refl
waits_owed Open e = cc
waits_owed DeclaredLost e = cc
waits_owed Acknowledged e = cc
waits_owed Discarded e = cc

opens_owed : (f : Fate) → is_owed f ≡ true → is_open DeclaredLost ≡ is_open f
opens_owed Owed e = refl
opens_owed Open e = cc
opens_owed DeclaredLost e = cc
opens_owed Acknowledged e = cc
opens_owed Discarded e = cc

declared_alike : (t : Space) (p : SentPacket) → IsAlike t p (declared p)
declared_alike t p = alike_if t (is_owed p.fate) DeclaredLost p (λ is. alike_same t DeclaredLost p (waits_owed p.fate is) (opens_owed p.fate is))

declared_same : (p : SentPacket) → IsSame p (declared p)
declared_same p = same_if (is_owed p.fate) DeclaredLost p

settled_if : (p : SentPacket) (b : Bool) → is_owed p.fate ≡ b → is_owed ((if b then record p { fate = DeclaredLost } else p).fate) ≡ false
settled_if p true is = refl
settled_if p false is = is

none_declared : (ps : List SentPacket) → NoneOwed (map declared ps)
none_declared [] = tt
none_declared (p ∷ ps) = (settled_if p (is_owed p.fate) refl, none_declared ps)

stays_if : (p : SentPacket) (b : Bool) → b ≡ false → (if b then record p { fate = DeclaredLost } else p) ≡ p
stays_if p true is = cc
stays_if p false is = refl

-- ---- what becomes of all

declared_none : (ps : List SentPacket) → NoneOwed ps → map declared ps ≡ ps
declared_none ps none = map_same declared ps (each_weaker (λ p. is_owed p.fate ≡ false) (λ p. declared p ≡ p) (λ p out. stays_if p (is_owed p.fate) out) ps none)

pub declared_start : (ps : List SentPacket) (from to : ℕ) → IsOwedPart from to ps → ps ≡ map declared (take from ps) ++ drop from ps
declared_start ps from to part = sym (ap (λ qs. qs ++ drop from ps) (declared_none (take from ps) part.before) ∙ take-append-drop from ps)

pub declared_all : (ps : List SentPacket) (from to : ℕ) → IsOwedPart from to ps → map declared (take to ps) ++ drop to ps ≡ map declared ps
declared_all ps from to part =
    ap (λ qs. map declared (take to ps) ++ qs) (sym (declared_none (drop to ps) part.behind))
    ∙ (sym (map-append declared (take to ps) (drop to ps)) ∙ ap (map declared) (take-append-drop to ps))

pub sound_declared : {strays : PerSpace (List SentPacket)} (d : ℕ) (ps : List SentPacket) (losses after : Losses) (by_space : PerSpace SpacePackets) → IsSound d ps losses by_space strays → after.count ≡ 0 → IsSound d (map declared ps) after by_space strays
sound_declared {strays} d ps losses after by_space sound zero =
    let long : length (map declared ps) ≡ length ps = length-map ps declared in
    let few = sound.few in
    record {
      initial = space_packets_alike Initial declared (declared_alike Initial) d ps by_space.initial sound.initial;
      handshake = space_packets_alike Handshake declared (declared_alike Handshake) d ps by_space.handshake sound.handshake;
      app = space_packets_alike App declared (declared_alike App) d ps by_space.app sound.app;
      owed = losses_none d (map declared ps) after zero (none_declared ps);
      ordered = ordered_same declared declared_same ps sound.ordered;
      sizes = sizes_same max_packet_size declared declared_same ps sound.sizes;
      few = omega (arith, few, long);
      above = above_same strays declared declared_same ps sound.above;
    }
