-- What is kept of the handshake, and what an event makes of it.
use Rattle.std.specs.Prelude.{◌||◌, Bool, List}
use Rattle.std.specs.List.{list_any}
use Rattle.qa_base.specs.declared.event.Event.{Event}
use Rattle.qa_base.specs.declared.space.Role.{Role}
use Rattle.qa_base.specs.declared.space.Space.{Space}
use Rattle.qa_base.specs.declared.space.Space.TheVariants.{Initial, Handshake}
use Rattle.qa_base.specs.machine.Handshake.{acknowledges_handshake, is_confirmed, is_server}
use Rattle.qa_base.specs.machine.Handshake as handshakes
use Rattle.qa_base.specs.values.Events.{is_space}
use Rattle.qa_sender.specs.declared.connection.handshake.HandshakeState.{HandshakeState}

-- what is kept of it after a history
abbrev pub handshake_after : List Event → HandshakeState
handshake_after h = record {
  confirmed = is_confirmed h;
  acknowledged = list_any acknowledges_handshake h;
  has_keys = handshakes.has_keys h;
}

-- the peer has validated the address of a sender of this role
abbrev pub is_validated : Role → HandshakeState → Bool
is_validated role x = is_server role || x.acknowledged || x.confirmed

-- a packet of the space was acknowledged
abbrev pub acknowledged_in : Space → HandshakeState → HandshakeState
acknowledged_in space x = record x { acknowledged = is_space Handshake space || x.acknowledged }

-- a packet of the space was sent
abbrev pub sent_in : Space → HandshakeState → HandshakeState
sent_in space x = record x { has_keys = is_space Handshake space || x.has_keys }

-- the keys of the space were discarded
abbrev pub discarded_in : Space → HandshakeState → HandshakeState
discarded_in space x = record x { has_keys = is_space Initial space || x.has_keys }
