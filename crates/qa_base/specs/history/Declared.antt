-- What a Lost line names beyond what is owed, and which packets are lost by the last event (RFC
-- 9002, section 6.1).
use Rattle.std.specs.Prelude.{◌≡◌, ◌<◌, ◌≤◌, ℕ, ◌&&◌, ◌||◌, Bool, List, ◌∷◌, Some, filter}
use Rattle.std.specs.List.{list_any}
use Rattle.qa_base.specs.declared.event.Event.{Event}
use Rattle.qa_base.specs.declared.event.Event.TheVariants.{Lost}
use Rattle.qa_base.specs.machine.Detection.{distance_below}
use Rattle.qa_base.specs.machine.Loss.{is_free, is_owed}
use Rattle.qa_base.specs.machine.Packets.{Packet, largest_acknowledged, packets}
use Rattle.qa_base.specs.values.Events.{declares_lost}
use Rattle.qa_base.specs.values.Settings.{Settings}

-- the packet is free before the event, which names it
abbrev pub is_named_free : Settings → Event → List Event → Packet → Bool
is_named_free c e before p = is_free c before p && declares_lost p.space p.number e

-- those that are
abbrev pub named_free : Settings → Event → List Event → List Packet
named_free c e before = filter (is_named_free c e before) (packets before)

-- the packet is lost by the last event: a detection finds it so; or a Lost line that names a packet
-- that is free, and so completes the detection in front of it, names this one, or this one was owed
abbrev pub is_lost_now : Settings → List Event → Packet → Bool
is_lost_now c (Lost time space ranges ∷ before) p =
    list_any (is_named_free c (Lost time space ranges) before) (packets before)
    && (is_owed c before p || is_named_free c (Lost time space ranges) before p)
is_lost_now c h p = is_owed c h p

-- the packet lies below the largest acknowledged number of its space by the packet threshold or
-- more (section 6.1.1)
pub record IsFarBelow (c : Settings) (h : List Event) (p : Packet) : Type 0 where
  pub largest : ℕ
  pub acknowledged : largest_acknowledged h p.space ≡ Some largest
  pub lower : p.number < largest
  pub below : c.options.packet_threshold
      ≤ distance_below c.options.threshold_counts h p.space p.number largest
