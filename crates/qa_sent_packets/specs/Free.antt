-- What the next Lost line may name beyond what is owed, and what it makes of the packets.
use Rattle.std.specs.Prelude.{◌≡◌, ◌+◌, ◌==◌, ◌&&◌, ◌||◌, ℕ, Bool, true, List, filter, map, max}
use Rattle.std.specs.Prelude.{min, nat_lt, if◌then◌else◌}
use Rattle.std.specs.List.{AllByRecursion}
use Rattle.qa_base.specs.declared.space.Space.{Space}
use Rattle.qa_base.specs.values.Events.{is_named, is_space}
use Rattle.qa_sent_packets.specs.Fates.{is_flying, is_owed}
use Rattle.qa_sent_packets.specs.Steps.{with_fate}
use Rattle.qa_sent_packets.specs.declared.fate.Fate.TheVariants.{Owed}
use Rattle.qa_sent_packets.specs.declared.free.FreePackets.{FreePackets}
use Rattle.qa_sent_packets.specs.declared.packet.SentPacket.{SentPacket}
use Rattle.qa_sent_packets.specs.declared.packets.Losses.{Losses}

-- open, in flight and of the space, with a number below the end
abbrev pub is_free_by : FreePackets → SentPacket → Bool
is_free_by free p = is_flying free.space p && nat_lt p.number free.end

-- the next Lost line may name it
abbrev pub is_nameable_by : FreePackets → SentPacket → Bool
is_nameable_by free p = is_owed p.fate || is_free_by free p

-- the numbers of those that pass a test
abbrev pub numbers_of : (SentPacket → Bool) → List SentPacket → List ℕ
numbers_of test ps = map (λ p. p.number) (filter test ps)

abbrev pub nameable_numbers : FreePackets → List SentPacket → List ℕ
nameable_numbers free ps = numbers_of (is_nameable_by free) ps

abbrev pub free_numbers : FreePackets → List SentPacket → List ℕ
free_numbers free ps = numbers_of (is_free_by free) ps

-- those that are owed are of the space
abbrev pub AreOwedIn : Space → List SentPacket → Type 0
AreOwedIn s ps = AllByRecursion (λ p. is_owed p.fate ≡ true → is_space s p.space ≡ true) ps

-- a Lost line of these ranges takes those that are free as owed
abbrev pub taken_by : FreePackets → List (ℕ × ℕ) → SentPacket → SentPacket
taken_by free ranges p =
    if is_free_by free p && is_named ranges p.number then with_fate Owed p else p

-- losses with one more, at a place
abbrev pub widened : ℕ → Losses → Losses
widened place l =
    if l.count == 0 then record { space = l.space; count = 1; from = place; to = place + 1 }
    else record {
      space = l.space;
      count = l.count + 1;
      from = min l.from place;
      to = max l.to (place + 1);
    }
