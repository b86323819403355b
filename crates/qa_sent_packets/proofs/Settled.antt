-- Where nothing is owed, and packets of one space get another fate, by which nothing is owed: all is sound with what is kept for that space.
use Rattle.std.proofs.Common.{◌≡◌, ◌∙◌, ℕ, ◌+◌, ◌-◌, true, false, List, [], ◌∷◌, length, map, cond, count_by, sum_by, refl, sym, arith, Result, Ok, Err, OnOk, OnErr}
use Rattle.std.proofs.lemmas.List.{length-map}
use Rattle.std.proofs.lemmas.List.Sums.{sum_by-cons}
use Rattle.qa_base.specs.declared.space.Space.{Space}
use Rattle.qa_base.specs.values.Events.{is_space}
use Rattle.qa_base.specs.values.Limits.{max_packet_size}
use Rattle.qa_sent_packets.specs.Fates.{is_owed}
use Rattle.qa_sent_packets.specs.Held.{AreLosses, IsSpacePackets, IsSound}
use Rattle.qa_base.specs.values.PerSpace.{of_space, with_space}
use Rattle.qa_sent_packets.specs.Owing.{NoneOwed}
use Rattle.qa_sent_packets.specs.Steps.{covered_by}
use Rattle.qa_sent_packets.specs.declared.space_packets.SpacePackets.{SpacePackets}
use Rattle.qa_base.specs.declared.per_space.PerSpace.{PerSpace}
use Rattle.qa_sent_packets.specs.declared.packet.SentPacket.{SentPacket}
use Rattle.qa_sent_packets.specs.declared.packets.Losses.{Losses}
use Rattle.qa_sent_packets.proofs.Acknowledged.{covered_alike, covered_not_owed, covered_same}
use Rattle.qa_sent_packets.proofs.Alike.{IsAlike, IsSame, space_packets_alike, ordered_same, sizes_same}
use Rattle.qa_sent_packets.proofs.Parts.{each_drop, each_map, each_take, each_weaker}
use Rattle.qa_sent_packets.proofs.Sound.{IsSoundBeside, above_same, beside, space_packets_sound, sound_with}

pub count_none : (ps : List SentPacket) → NoneOwed ps → count_by (λ p. is_owed p.fate) ps ≡ 0
count_none [] none = refl
count_none (p ∷ ps) none =
    let weight : SentPacket → ℕ = λ x. cond (is_owed x.fate) 1 0 in
    let sum : sum_by weight (p ∷ ps) ≡ weight p + sum_by weight ps = sum_by-cons weight p ps in
    let here : weight p ≡ 0 = rw none.0 refl in
    let rest : sum_by weight ps ≡ 0 = count_none ps none.1 in
    omega (arith, sum, here, rest)

not_owed : (losses : Losses) (p : SentPacket) → is_owed p.fate ≡ false → is_owed p.fate ≡ true → is_space losses.space p.space ≡ true
not_owed losses p none owed = cc

pub losses_none : (d : ℕ) (ps : List SentPacket) (losses : Losses) → losses.count ≡ 0 → NoneOwed ps → AreLosses d ps losses
losses_none d ps losses count none = record {
  count = count ∙ sym (count_none ps none);
  of_space = each_weaker (λ p. is_owed p.fate ≡ false) (λ p. is_owed p.fate ≡ true → is_space losses.space p.space ≡ true) (λ p out owed. not_owed losses p out owed) ps none;
  before = each_take (λ p. is_owed p.fate ≡ false) ps (losses.from - d) none;
  behind = each_drop (λ p. is_owed p.fate ≡ false) ps (losses.to - d) none;
}

beside_settled : (d : ℕ) (ps : List SentPacket) (losses : Losses) (strays : PerSpace (List SentPacket)) (f : SentPacket → SentPacket) → ((p : SentPacket) → IsSame p (f p)) → ((p : SentPacket) → is_owed p.fate ≡ false → is_owed (f p).fate ≡ false)
    → NoneOwed ps → IsSoundBeside d ps losses strays → IsSoundBeside d (map f ps) losses strays
beside_settled d ps losses strays f each closed none b =
    let long : length (map f ps) ≡ length ps = length-map ps f in
    let few = b.few in
    record {
      owed = losses_none d (map f ps) losses (b.owed.count ∙ count_none ps none) (each_map (λ p. is_owed p.fate ≡ false) (λ p. is_owed p.fate ≡ false) f closed ps none);
      ordered = ordered_same f each ps b.ordered;
      sizes = sizes_same max_packet_size f each ps b.sizes;
      few = omega (arith, long, few);
      above = above_same strays f each ps b.above;
    }

pub sound_settled : {strays : PerSpace (List SentPacket)} (d : ℕ) (ps : List SentPacket) (losses : Losses) (by_space : PerSpace SpacePackets) (s : Space) (space_packets : SpacePackets) (f : SentPacket → SentPacket)
    → ((p : SentPacket) → IsSame p (f p)) → ((p : SentPacket) → is_owed p.fate ≡ false → is_owed (f p).fate ≡ false)
    → ((t : Space) → is_space t s ≡ false → (p : SentPacket) → IsAlike t p (f p))
    → NoneOwed ps → IsSound d ps losses by_space strays → IsSpacePackets s d (map f ps) space_packets → IsSound d (map f ps) losses (with_space s by_space space_packets) strays
sound_settled {strays} d ps losses by_space s space_packets f each closed alike none sound own =
    sound_with d (map f ps) losses by_space s space_packets (beside_settled d ps losses strays f each closed none (beside d ps losses by_space strays sound)) own
    (λ t out. space_packets_alike t f (alike t out) d ps (of_space t by_space) (space_packets_sound d ps losses by_space sound t))

-- whether an acknowledgment was taken in or was out of memory
pub sound_acknowledged : {E : Type 0} {strays : PerSpace (List SentPacket)} (result : Result (Unit {0}) E) (d : ℕ) (ps after : List SentPacket) (losses : Losses) (by_space : PerSpace SpacePackets) (s : Space) (space_packets : SpacePackets) (ranges : List (ℕ × ℕ)) → NoneOwed ps
    → IsSound d ps losses by_space strays → OnOk result (after ≡ map (covered_by s ranges) ps) → OnErr result (after ≡ ps) → IsSpacePackets s d after space_packets → IsSound d after losses (with_space s by_space space_packets) strays
sound_acknowledged (Ok _) d ps after losses by_space s space_packets ranges none sound covered same own =
    rw covered (sound_settled d ps losses by_space s space_packets (covered_by s ranges) (covered_same s ranges) (covered_not_owed s ranges) (covered_alike s ranges) none sound (rw covered at own))
sound_acknowledged {strays = strays} (Err _) d ps after losses by_space s space_packets ranges none sound covered same own =
    rw same (sound_with d ps losses by_space s space_packets (beside d ps losses by_space strays sound) (rw same at own) (λ t out. space_packets_sound d ps losses by_space sound t))
