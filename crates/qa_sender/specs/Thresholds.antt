-- By what a detection tells which packets are past a threshold, after a history.
use Rattle.std.specs.Prelude.{◌≡◌, ℕ, zero, suc, nat_le, Bool, List, Option, Some, None}
use Rattle.std.specs.Prelude.{if◌then◌else◌}
use Rattle.qa_base.specs.declared.event.Event.{Event}
use Rattle.qa_base.specs.declared.space.Space.{Space}
use Rattle.qa_base.specs.machine.Detection.{distance_below}
use Rattle.qa_base.specs.machine.Estimates.{sampled}
use Rattle.qa_base.specs.machine.Packets.{largest_acknowledged}
use Rattle.qa_base.specs.values.Settings.{Settings}
use Rattle.qa_sent_packets.specs.Steps.{Thresholds}

-- above the highest number below another that passes a test; 0 where none does
abbrev pub end_below : (ℕ → Bool) → ℕ → ℕ
end_below test zero = zero
end_below test (suc n) = if test n then suc n else end_below test n

-- a number of the space lies below another by the packet threshold (RFC 9002, section 6.1.1)
abbrev pub is_far_number : Settings → List Event → Space → ℕ → ℕ → Bool
is_far_number c h s largest n =
    nat_le c.options.packet_threshold (distance_below c.options.threshold_counts h s n largest)

-- above the numbers of the space that lie below this one by the packet threshold
abbrev pub far_end_below : Settings → List Event → Space → Option ℕ → ℕ
far_end_below c h s None = 0
far_end_below c h s (Some largest) = end_below (is_far_number c h s largest) largest

-- and below the largest acknowledged one
abbrev pub far_end : Settings → List Event → Space → ℕ
far_end c h s = far_end_below c h s (largest_acknowledged h s)

-- it is the header, the estimate after the history, this time, the largest number that was
-- acknowledged in the space, and the end of the numbers that lie below that by the packet threshold
pub record AreThresholdsAt (c : Settings) (h : List Event) (s : Space) (now : ℕ)
    (l : Thresholds) : Type 0 where
  pub header_is : l.header ≡ c
  pub rtt_is : l.rtt ≡ sampled c h
  pub now_is : l.now ≡ now
  pub largest_is : l.largest ≡ largest_acknowledged h s
  pub far_end_is : l.far_end ≡ far_end c h s
