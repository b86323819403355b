-- How far the handshake is.
--
-- `c` are the settings of the header, `h` is the history.
use Rattle.std.specs.Prelude.{◌||◌, Bool, true, false, List}
use Rattle.std.specs.List.{list_any}
use Rattle.qa_base.specs.declared.event.Event.{Event}
use Rattle.qa_base.specs.declared.event.Event.TheVariants.{Sent, Ack, Discard, Confirmed, Keys}
use Rattle.qa_base.specs.declared.space.Role.{Role}
use Rattle.qa_base.specs.declared.space.Role.TheVariants.{Client, Server}
use Rattle.qa_base.specs.declared.space.Space.TheVariants.{Initial, Handshake}
use Rattle.qa_base.specs.values.Events.{is_space}
use Rattle.qa_base.specs.values.Settings.{Settings}

abbrev pub confirms : Event → Bool
confirms (Confirmed time) = true
confirms _ = false

-- the handshake is confirmed
abbrev pub is_confirmed : List Event → Bool
is_confirmed h = list_any confirms h

abbrev pub acknowledges_handshake : Event → Bool
acknowledges_handshake (Ack ack) = is_space Handshake ack.space
acknowledges_handshake _ = false

abbrev pub is_server : Role → Bool
is_server Server = true
is_server Client = false

-- the peer has validated the sender's address: a server's always has, and a client's once it
-- acknowledged a Handshake packet or the handshake is confirmed (RFC 9002, A.8,
-- PeerCompletedAddressValidation)
abbrev pub is_validated : Settings → List Event → Bool
is_validated c h = is_server c.role || list_any acknowledges_handshake h || is_confirmed h

abbrev pub shows_keys : Event → Bool
shows_keys (Keys time) = true
shows_keys (Sent packet) = is_space Handshake packet.space
shows_keys (Discard time space) = is_space Initial space
shows_keys _ = false

-- the keys of the Handshake space are there
abbrev pub has_keys : List Event → Bool
has_keys h = list_any shows_keys h
