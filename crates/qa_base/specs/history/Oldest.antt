-- The packets of a space that are open and in flight, and those of which a detection asks whether
-- they are past a threshold (RFC 9002, section 6.1).
use Rattle.std.specs.List.{AllByRecursion}
use Rattle.std.specs.Prelude.{◌≡◌, false, ◌+◌, ◌&&◌, ◌||◌, not, Bool, List, Option, Some, None}
use Rattle.std.specs.Prelude.{if◌then◌else◌}
use Rattle.qa_base.specs.declared.event.Event.{Event}
use Rattle.qa_base.specs.declared.space.TimerKind.TheVariants.{Loss}
use Rattle.qa_base.specs.declared.space.Space.{Space}
use Rattle.qa_base.specs.machine.Estimates.{rtt}
use Rattle.qa_base.specs.machine.Detection.{is_unsettled}
use Rattle.qa_base.specs.machine.Loss.{is_open}
use Rattle.qa_base.specs.machine.Packets.{Packet, is_of, largest_acknowledged, is_below_largest}
use Rattle.qa_base.specs.values.Settings.{Settings}
use Rattle.qa_base.specs.machine.Rtt.{loss_delay}
use Rattle.qa_base.specs.machine.Timer.{Due}

-- open and in flight
abbrev pub is_flying : Settings → List Event → Packet → Bool
is_flying c h p = p.in_flight && is_open c h p

-- when such a packet of the space is old, where it is below the largest acknowledged number (RFC
-- 9002, section 6.1.2)
abbrev pub due_of : Settings → List Event → Space → Option Packet → Option Due
due_of c h s None = None
due_of c h s (Some p) =
    if is_below_largest p.number (largest_acknowledged h s)
    then Some (record {
      kind = Loss;
      space = s;
      time = p.time + loss_delay c (rtt c h);
    })
    else None

-- a detection in the space asks of the packet whether it is past a threshold
abbrev pub is_asked : List Event → Space → Packet → Bool
is_asked h s p = is_of s p && (p.in_flight && is_unsettled h p)

-- none of these is of the space, open and in flight
abbrev pub NoneFlies : Settings → List Event → Space → List Packet → Type 0
NoneFlies c h s ps = AllByRecursion (λ p. (is_of s p && is_flying c h p) ≡ false) ps

-- a detection goes on behind this packet: it is not asked of it, or it finds it past a threshold
abbrev pub is_passed : List Event → Space → (Packet → Bool) → Packet → Bool
is_passed h s late p = not (is_asked h s p) || late p
