-- What changes of a connection, step by step.
use Rattle.std.specs.Prelude.{ℕ, ◌+◌, fold, min, Bool, true, List, [], Option, Some}
use Rattle.std.specs.Prelude.{if◌then◌else◌}
use Rattle.qa_base.specs.declared.space.Permission.{Permission}
use Rattle.qa_base.specs.declared.space.Space.{Space}
use Rattle.qa_base.specs.machine.Reno.{Control, persistent_congestions, moved}
use Rattle.qa_base.specs.machine.Rtt.{after_congestion, updated}
use Rattle.qa_base.specs.values.Limits.{max_lines}
use Rattle.qa_sender.specs.connection.Handshaking.{acknowledged_in, discarded_in, is_validated}
use Rattle.qa_sender.specs.connection.Handshaking.{sent_in}
use Rattle.qa_sender.specs.connection.Reporting.{acknowledging, collapsed_with, reporting}
use Rattle.qa_sender.specs.connection.Spaces.{changed_in, with_discarded, with_eliciting}
use Rattle.qa_sender.specs.connection.Spaces.{with_largest}
use Rattle.qa_sender.specs.connection.Spending.{on_congestion_event, spent}
use Rattle.qa_sender.specs.connection.Steps.{capped, enters_at, grown_by, hits_at, limited_delay}
use Rattle.qa_sender.specs.connection.Steps.{sample_by}
use Rattle.qa_sender.specs.connection.Timing.{answered_in}
use Rattle.qa_sender.specs.connection.Timing as timers
use Rattle.qa_sender.specs.declared.connection.connection.Connection.{Connection}
use Rattle.qa_sender.specs.declared.connection.detection.Detection.{Detection}
use Rattle.qa_sent_packets.specs.declared.packet.SentPacket.{SentPacket}

-- when an event happens at a time, by which recovery is told: then, or at the place of its line
-- where the order of the lines decides (RFC 9002, section 7.3.2)
abbrev pub marked : Connection → ℕ → ℕ
marked k time = if k.header.options.recovery_by_order then min k.events max_lines else time

-- ---- an acknowledgment

-- numbers of the space were acknowledged, of which this is the largest
abbrev pub acknowledged : Space → ℕ → Connection → Connection
acknowledged space largest k = record k {
  handshake = acknowledged_in space k.handshake;
  spaces = changed_in space (with_largest largest) k.spaces;
}

-- an acknowledgment came of these packets, the largest number that it acknowledges, and the delay
-- that it reports
abbrev pub with_sample : ℕ → ℕ → ℕ → List SentPacket → Connection → Connection
with_sample now delay largest ps k = record k {
  rtt =
      updated k.header.options.latest_rtt_less_delay k.rtt
      (sample_by k.header.options.sample_eliciting_only now
      (limited_delay k.header.max_ack_delay k.handshake.confirmed delay) largest ps);
}

-- packets are lost by a detection at a time before which NewReno was this, the last of them sent at
-- a time, where there are any
abbrev pub with_hit_since : Control → ℕ → Option ℕ → Connection → Connection
with_hit_since before now last k = record k {
  reno = fold (moved k.header.max_datagram_size) k.reno (hits_at now last);
  allowances = on_congestion_event (enters_at before.recovery_start_time last) k.allowances;
}

-- .. now
abbrev pub with_congestion_event : ℕ → Option ℕ → Connection → Connection
with_congestion_event now last k = with_hit_since k.reno now last k

-- they establish persistent congestion, or not, and the detection newly acknowledged so many bytes
abbrev pub with_collapse_of : ℕ → Bool → Connection → Connection
with_collapse_of bytes persistent k = record k {
  rtt = after_congestion k.header persistent k.rtt;
  reno = fold (moved k.header.max_datagram_size) k.reno (persistent_congestions persistent);
  reported = collapsed_with bytes persistent k.reported;
}

-- .. before what it newly acknowledged is taken in
abbrev pub with_persistent_congestion : Bool → Connection → Connection
with_persistent_congestion persistent k = with_collapse_of 0 persistent k

-- a Lost line completes the detection: by it these are lost, the last of them sent at a time
abbrev pub completed : Detection → Option ℕ → Bool → Connection → Connection
completed d last persistent k =
    with_collapse_of d.acknowledged persistent (with_hit_since d.before d.mark last k)

-- these packets were acknowledged, by a sender that was limited or not
abbrev pub grown : Bool → List SentPacket → Connection → Connection
grown app_limited ps k = record k {
  reno = fold (grown_by k.header) k.reno (if app_limited then [] else ps);
  reported = acknowledging ps k.reported;
}

-- something new was acknowledged now
abbrev pub restarted : ℕ → Connection → Connection
restarted now k =
    record k { timer = timers.restarted now (is_validated k.header.role k.handshake) k.timer }

-- ---- the others

-- the packet was sent, which is ack-eliciting or not
abbrev pub elicited : SentPacket → Connection → Connection
elicited p k = record k {
  timer =
      record k.timer {
        probe_due = if p.eliciting then answered_in p.space k.timer.probe_due
            else k.timer.probe_due;
      };
  spaces = if p.eliciting then changed_in p.space (with_eliciting p.time) k.spaces else k.spaces;
}

-- .. and in flight or not
abbrev pub launched : SentPacket → Permission → Connection → Connection
launched p permission k = record k {
  timer = record k.timer { last_set = if p.in_flight then Some p.time else k.timer.last_set };
  allowances = if p.in_flight then spent permission p.size k.allowances else k.allowances;
}

-- it was sent
abbrev pub sent : SentPacket → Permission → Connection → Connection
sent p permission k =
    record (launched p permission (elicited p k)) { handshake = sent_in p.space k.handshake }

-- a probe timeout of the space, now
abbrev pub probing : Space → ℕ → Connection → Connection
probing space now k = record k {
  timer = timers.probing space now k.timer;
  allowances = record k.allowances { probe_spent = Some 0 };
}

-- the keys of the space were discarded now
abbrev pub discarded : Space → ℕ → Connection → Connection
discarded space now k = record k {
  handshake = discarded_in space k.handshake;
  timer = timers.restarted now true k.timer;
  spaces = changed_in space with_discarded k.spaces;
}

-- a window was reported, or none
abbrev pub reported : Option ℕ → Connection → Connection
reported window k = record k { reported = reporting window k.reported }

-- one event more, at a time, which looked for losses in a space or did not
abbrev pub counted : ℕ → Option Space → Connection → Connection
counted time searched k =
    record k { events = capped (k.events + 1); last_time = Some time; searched = searched }
