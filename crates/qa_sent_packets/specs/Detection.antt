-- Where a detection goes on, and where it ends.
use Rattle.std.specs.Prelude.{◌≡◌, ◌<◌, ℕ, true, false, List, [], ◌∷◌, length, slice_index_or}
use Rattle.std.specs.Prelude.{if◌then◌else◌}
use Rattle.qa_base.specs.declared.space.Space.{Space}
use Rattle.qa_sent_packets.specs.Fates.{is_flying}
use Rattle.qa_sent_packets.specs.Steps.{Thresholds, is_past_threshold_by, with_fate}
use Rattle.qa_sent_packets.specs.declared.fate.Fate.TheVariants.{Owed}
use Rattle.qa_sent_packets.specs.declared.packet.SentPacket.{SentPacket}

-- at this index stands a packet that it passes: it does not fly, or it is past a threshold
pub record IsPassed (s : Space) (l : Thresholds) (at : ℕ) (ps : List SentPacket) : Type 0 where
  pub within : at < length ps
  pub late : (p : SentPacket) → p ≡ slice_index_or ps at p → is_flying s p ≡ true
      → is_past_threshold_by l p ≡ true

-- it ends before these: the first of them flies and is past no threshold, or there is none
abbrev pub IsEnd : Space → Thresholds → List SentPacket → Type 0
IsEnd s l [] = Unit {0}
IsEnd s l (p ∷ ps) = (is_flying s p ≡ true) × (is_past_threshold_by l p ≡ false)

-- a packet that it passes, if it flies, is found lost
abbrev pub lost_in : Space → SentPacket → SentPacket
lost_in s p = if is_flying s p then with_fate Owed p else p
