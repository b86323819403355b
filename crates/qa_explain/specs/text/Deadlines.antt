-- Deadlines, and the sums that they are.
use Rattle.std.specs.Prelude.{ℕ, nat_le, nat_lt, max, ◌+◌, ◌-◌, ◌*◌, ◌/◌, codes, List, [], ◌++◌}
use Rattle.std.specs.Prelude.{Option, Some, None, unwrap_or, if◌then◌else◌}
use Rattle.qa_base.specs.declared.event.Event.{Event}
use Rattle.qa_base.specs.machine.Timer.{Due}
use Rattle.qa_base.specs.values.Events.{time_of}
use Rattle.qa_base.specs.values.Names.{kind_name, space_name}
use Rattle.qa_ledger.specs.declared.causes.cause.Basis.{Basis}
use Rattle.qa_ledger.specs.declared.causes.cause.Basis.TheVariants as basis
use Rattle.qa_explain.specs.text.Pieces.{named, numbered}

abbrev pub due_time : Option Due → ℕ
due_time None = 0
due_time (Some due) = due.time

-- ---- how long after a packet

-- the greater of the two RTTs, by its name
abbrev pub greater_rtt : ℕ → ℕ → List ℕ
greater_rtt latest smoothed =
    if nat_lt latest smoothed then numbered (codes "/8 of smoothed_rtt ") smoothed else numbered
    (codes "/8 of latest_rtt ") latest

-- so many eighths of it
abbrev pub part_of_rtt : ℕ → ℕ → ℕ → List ℕ
part_of_rtt eighths latest smoothed = numbered (codes " (") eighths ++ greater_rtt latest smoothed

-- a loss delay: the time threshold of the RTT, rounded up, or else the granularity of timers, which
-- is more (RFC 9002, section 6.1.2)
abbrev pub delay_words : ℕ → ℕ → ℕ → ℕ → List ℕ
delay_words delay eighths latest smoothed =
    if nat_le delay ((eighths * max latest smoothed + 7) / 8)
    then part_of_rtt eighths latest smoothed else codes " (kGranularity"

unfoldable pub delay_text : ℕ → ℕ → ℕ → ℕ → List ℕ
delay_text delay eighths latest smoothed =
    delay_words delay eighths latest smoothed ++ codes ")\n"

-- a probe timeout (section 6.2.1)
unfoldable pub timeout_text : ℕ → ℕ → ℕ → ℕ → List ℕ
timeout_text smoothed rttvar peer_delay count =
    numbered (codes " (2^") count ++ numbered (codes " * (smoothed_rtt ") smoothed
    ++ numbered (codes " + max(4 * rttvar ") rttvar
    ++ numbered (codes ", kGranularity) + max_ack_delay ") peer_delay ++ codes "))\n"

-- ---- sums

unfoldable pub packet_sum : ℕ → ℕ → List ℕ → ℕ → List ℕ
packet_sum sent number space delay =
    numbered (codes " = ") sent ++ numbered (codes " (packet ") number ++ named (codes " of ") space
    ++ numbered (codes " was sent) + ") delay

unfoldable pub eliciting_sum : ℕ → List ℕ → ℕ → List ℕ
eliciting_sum sent space delay =
    numbered (codes " = ") sent ++ named (codes " (the last ack-eliciting packet of ") space
    ++ numbered (codes " was sent) + ") delay

unfoldable pub kept_sum : ℕ → ℕ → List ℕ
kept_sum set delay = numbered (codes " = ") set ++ numbered (codes " (the timer was set) + ") delay

-- what a deadline in a space is the sum of: a time, and how long after it
abbrev pub sum_text : ℕ → List ℕ → Basis → List ℕ
sum_text time space (basis.Packet number sent latest smoothed eighths) =
    packet_sum sent number space (time - sent) ++ delay_text (time - sent) eighths latest smoothed
sum_text time space (basis.Eliciting sent smoothed rttvar peer_delay count) =
    eliciting_sum sent space (time - sent) ++ timeout_text smoothed rttvar peer_delay count
sum_text time space (basis.Kept set smoothed rttvar count) =
    kept_sum set (time - set) ++ timeout_text smoothed rttvar 0 count

abbrev pub known_sum_text : Due → Option Basis → List ℕ
known_sum_text due None = codes "\n"
known_sum_text due (Some b) = sum_text due.time (space_name due.space) b

-- ---- lines

-- V13: the deadline
unfoldable pub deadline_line : Due → Option Basis → List ℕ
deadline_line due b = numbered (codes "  deadline ") due.time ++ known_sum_text due b

abbrev pub early_text : Option Due → Option Basis → List ℕ
early_text None b = []
early_text (Some due) b = deadline_line due b

-- what the timer is set for
unfoldable pub due_text : List ℕ → Due → List ℕ
due_text words due =
    named words (kind_name due.kind) ++ named (codes " ") (space_name due.space)
    ++ numbered (codes " at ") due.time

-- V12
abbrev pub set_text : Option Due → List ℕ
set_text None = []
set_text (Some due) = due_text (codes "  set: ") due ++ codes "\n"

-- V18: the deadline, since when it is the timer's, how late the timer may be, and when the event
-- came
unfoldable pub late_line : Due → ℕ → ℕ → ℕ → List ℕ
late_line due since limit now =
    due_text (codes "  set: ") due ++ numbered (codes ", since ") since
    ++ numbered (codes "; limit ") limit ++ numbered (codes "; this event at ") now
    ++ codes "\n"

abbrev pub late_text : Event → Option Due → ℕ → Option ℕ → List ℕ
late_text e None since limit = []
late_text e (Some due) since limit = late_line due since (unwrap_or limit 0) (time_of e)
