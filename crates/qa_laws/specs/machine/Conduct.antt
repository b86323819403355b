-- What a sender does in a run, in the words of the RFC.
use Rattle.std.specs.Prelude.{◌≡◌, ◌≢◌, ℕ, ◌+◌, ◌-◌, ◌*◌, ◌⊎◌, ◌<◌, ◌≤◌, Bool, true, false, List}
use Rattle.std.specs.Prelude.{[], ◌∷◌, ◌++◌, Option, Some, sum_by, Contains, if◌then◌else◌}
use Rattle.std.specs.List.{list_any}
use Rattle.qa_base.specs.declared.event.Event.{Event}
use Rattle.qa_base.specs.declared.event.Event.TheVariants.{Sent, Lost, Timer}
use Rattle.qa_base.specs.declared.event.SentPacket.{SentPacket}
use Rattle.qa_base.specs.declared.space.TimerKind.TheVariants.{Pto}
use Rattle.qa_base.specs.declared.space.Permission.{Permission}
use Rattle.qa_base.specs.declared.space.Permission.TheVariants.{Window, Probe, Recovery}
use Rattle.qa_base.specs.declared.space.Space.{Space}
use Rattle.qa_base.specs.values.Constants.{probe_datagrams}
use Rattle.qa_base.specs.values.Events.{is_named, is_in_flight_by}
use Rattle.qa_base.specs.machine.Detection.{distance_below}
use Rattle.qa_base.specs.machine.Estimates.{sampled}
use Rattle.qa_base.specs.machine.Loss.{declared, bytes_in_flight, is_persistent, detection}
use Rattle.qa_base.specs.machine.Moments.{detection_of}
use Rattle.qa_base.specs.machine.Packets.{Packet, packets, is_acknowledged}
use Rattle.qa_base.specs.machine.Reno.{event_mark, is_entry, is_outside_recovery, latest_sent}
use Rattle.qa_base.specs.machine.Reno.{sent_mark}
use Rattle.qa_base.specs.values.Settings.{Settings}
use Rattle.qa_base.specs.machine.Rtt.{loss_delay}
use Rattle.qa_base.specs.machine.Window.{window}

-- ---- losses (RFC 9002, section 6.1)

-- an in-flight packet of the space has this number, and a packet of the space that was sent later
-- is acknowledged: its number is higher by the packet threshold at least, or so many packets were
-- sent with numbers up to it (section 6.1.1), or the loss delay had passed since the first was sent
-- when it was looked for (section 6.1.2)
pub record IsLostRightly (c : Settings) (h : List Event) (s : Space) (n : ℕ) : Type 0 where
  pub packet : Packet
  pub sent : Contains (packets h) packet
  pub of_space : packet.space ≡ s
  pub numbered : packet.number ≡ n
  pub flying : packet.in_flight ≡ true
  pub other : Packet
  pub other_sent : Contains (packets h) other
  pub other_of_space : other.space ≡ s
  pub acknowledged : is_acknowledged h other ≡ true
  pub earlier : packet.place < other.place
  pub lower : packet.number < other.number
  pub now : ℕ
  pub detected : detection c h ≡ Some (s, now)
  pub late : (c.options.packet_threshold
      ≤ distance_below c.options.threshold_counts h packet.space packet.number other.number)
      ⊎ (loss_delay c (sampled c h) ≤ now - packet.time)

-- ---- probes (RFC 9002, section 6.2.4)

-- the event is a probe timeout
abbrev pub is_pto_event : Event → Bool
is_pto_event (Timer time Pto space) = true
is_pto_event _ = false

-- an in-flight packet that is marked as a probe
abbrev pub is_probe : Event → Bool
is_probe (Sent packet) = is_in_flight_by Probe packet
is_probe _ = false

-- its bytes
abbrev pub probe_bytes : Event → ℕ
probe_bytes (Sent packet) = if is_in_flight_by Probe packet then packet.size else 0
probe_bytes _ = 0

-- ---- recovery (RFC 9002, section 7.3.2)

-- an in-flight packet that is marked for recovery
abbrev pub is_recovery : Event → Bool
is_recovery (Sent packet) = is_in_flight_by Recovery packet
is_recovery _ = false

-- packets that are lost enter recovery: the last of them was sent after recovery began, or there is
-- no recovery
abbrev pub is_entered_by : Settings → Option ℕ → List Packet → Bool
is_entered_by c recovery [] = false
is_entered_by c recovery (p ∷ ps) = is_outside_recovery recovery (latest_sent c (p ∷ ps))

-- when the first of packets was sent, by which recovery is told
abbrev pub mark_of_first : Settings → List Packet → ℕ
mark_of_first c [] = 0
mark_of_first c (p ∷ ps) = sent_mark c p

-- some event of the history is the last of a moment that passes the test
pub record HasMoment (test : List Event → Bool) (h : List Event) : Type 0 where
  pub later : List Event
  pub event : Event
  pub before : List Event
  pub stands : h ≡ later ++ event ∷ before
  pub passes : test (event ∷ before) ≡ true

-- and so is some event among these, which come after the history
pub record IsAmong (test : List Event → Bool) (events h : List Event) : Type 0 where
  pub later : List Event
  pub event : Event
  pub earlier : List Event
  pub stands : events ≡ later ++ event ∷ earlier
  pub passes : test (event ∷ earlier ++ h) ≡ true

-- neither the last event of the history nor any of these, which come after it, establishes
-- persistent congestion (section 7.6.2)
abbrev pub NoCollapse : Settings → List Event → List Event → Type 0
NoCollapse c events h =
    (later earlier : List Event) → events ≡ later ++ earlier
    → is_persistent c (earlier ++ h) ≡ false

-- a packet that is lost was sent after the event of this mark
pub record IsSentAfter (c : Settings) (mark : ℕ) (lost : List Packet) : Type 0 where
  pub packet : Packet
  pub found : Contains lost packet
  pub after : mark < sent_mark c packet

-- ---- leave (RFC 9002, sections 6.2.4 and 7.3.2)

-- there was a probe timeout, and with so many bytes more the probes since the last have the bytes
-- of two datagrams at most
pub record HasProbeLeft (c : Settings) (h : List Event) (size : ℕ) : Type 0 where
  pub since : List Event
  pub timeout : Event
  pub before : List Event
  pub stands : h ≡ since ++ timeout ∷ before
  pub times_out : is_pto_event timeout ≡ true
  pub last : list_any is_pto_event since ≡ false
  pub within : sum_by probe_bytes since + size ≤ probe_datagrams * c.max_datagram_size

-- there was an entry into recovery, and no packet was sent for it since
pub record HasEntryLeft (c : Settings) (h : List Event) : Type 0 where
  pub since : List Event
  pub entry : Event
  pub before : List Event
  pub stands : h ≡ since ++ entry ∷ before
  pub enters : is_entry c (entry ∷ before) ≡ true
  pub unused : list_any is_recovery since ≡ false

-- the sender may overshoot the window, which the bytes in flight did not fill
pub record HasOvershoot (c : Settings) (h : List Event) : Type 0 where
  pub allowed : c.options.window_overshoot ≡ true
  pub room : bytes_in_flight c h < window c h

-- the leave of an in-flight packet of so many bytes that the window has no room for
abbrev pub HasPermission : Settings → List Event → ℕ → Permission → Type 0
HasPermission c h size Window = HasOvershoot c h
HasPermission c h size Probe = HasProbeLeft c h size
HasPermission c h size Recovery = HasEntryLeft c h

-- ---- the conduct of a run

-- what is declared lost was lost; what is sent past the window has its leave; and of two entries
-- into recovery by different detections, with no collapse of the window between, the second has a
-- loss that was sent after the detection of the first
pub record IsSenderRule (c : Settings) (h : List Event) : Type 0 where
  pub lost : (after before : List Event) (time : ℕ) (space : Space) (ranges : List (ℕ × ℕ))
      → h ≡ after ++ Lost time space ranges ∷ before
      → (n : ℕ) → is_named ranges n ≡ true → IsLostRightly c before space n
  pub sent : (after before : List Event) (packet : SentPacket)
      → h ≡ after ++ Sent packet ∷ before → packet.in_flight ≡ true
      → window c before < bytes_in_flight c before + packet.size
      → HasPermission c before packet.size packet.permission
  pub halved : (after between before : List Event) (second first : Event)
      → h ≡ after ++ (second ∷ between ++ first ∷ before)
      → is_entry c (first ∷ before) ≡ true → is_entry c (second ∷ between ++ first ∷ before) ≡ true
      → detection_of (second ∷ between ++ first ∷ before) ≢ first ∷ before
      → NoCollapse c between (first ∷ before)
      → IsSentAfter c (event_mark c (detection_of (first ∷ before)))
      (declared c (second ∷ between ++ first ∷ before))
