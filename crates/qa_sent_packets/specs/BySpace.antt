-- What a packet adds to the sums of its space.
use Rattle.std.specs.Prelude.{ℕ, ◌&&◌, if◌then◌else◌}
use Rattle.qa_sent_packets.specs.Fates.{is_open}
use Rattle.qa_sent_packets.specs.declared.packet.SentPacket.{SentPacket}

-- what a packet adds to the count of the open packets that are ack-eliciting
abbrev pub awaiting_count : SentPacket → ℕ
awaiting_count p = if p.eliciting && is_open p.fate then 1 else 0
