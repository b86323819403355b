-- What became of a packet, in one word.
use Rattle.std.specs.Prelude.{Bool, true, false, List}
use Rattle.qa_base.specs.declared.event.Event.{Event}
use Rattle.qa_base.specs.machine.Loss.{is_owed}
use Rattle.qa_base.specs.machine.Packets.{Packet, is_acknowledged, is_declared_lost}
use Rattle.qa_base.specs.values.Settings.{Settings}

-- neither acknowledged nor found lost; found lost by the last event; declared lost; acknowledged,
-- also where it was lost before
pub data Fate : Type 0 where
  Unacknowledged : Fate
  Owed : Fate
  DeclaredLost : Fate
  Acknowledged : Fate

-- by whether it was acknowledged, declared lost and found lost
abbrev pub fate_by : (covered lost owed : Bool) → Fate
fate_by true lost owed = Acknowledged
fate_by false true owed = DeclaredLost
fate_by false false true = Owed
fate_by false false false = Unacknowledged

-- what became of the packet
abbrev pub fate : Settings → List Event → Packet → Fate
fate c h p = fate_by (is_acknowledged h p) (is_declared_lost h p) (is_owed c h p)

-- what was owed is declared lost by the next event
abbrev pub declared : Fate → Fate
declared Owed = DeclaredLost
declared f = f

-- what one more event makes of it that acknowledges the packet, or finds it lost, or names it where
-- it was free
abbrev pub fate_next : (acknowledged found named : Bool) → Fate → Fate
fate_next true found named f = Acknowledged
fate_next false true named f = Owed
fate_next false false true f = DeclaredLost
fate_next false false false f = declared f

-- neither acknowledged nor found lost
abbrev pub is_unacknowledged : Fate → Bool
is_unacknowledged Unacknowledged = true
is_unacknowledged f = false
