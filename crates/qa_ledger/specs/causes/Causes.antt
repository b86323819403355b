-- Why an event breaks a rule: what the rule asked of the history, and what it was answered.
use Rattle.std.specs.Prelude.{ℕ, ◌*◌, ◌&&◌, Bool, true, false, List, [], ◌∷◌, find, reverse}
use Rattle.std.specs.Prelude.{is_some, Option, Some, None, option_map, if◌then◌else◌}
use Rattle.qa_base.specs.declared.event.Event.{Event}
use Rattle.qa_base.specs.declared.event.Event.TheVariants.{Sent, Ack, Lost}
use Rattle.qa_base.specs.declared.rule.Rule.{Rule}
use Rattle.qa_base.specs.declared.rule.Rule.TheVariants as rule
use Rattle.qa_base.specs.declared.space.TimerKind.{TimerKind}
use Rattle.qa_base.specs.declared.space.TimerKind.TheVariants.{Loss, Pto}
use Rattle.qa_base.specs.declared.space.Space.{Space}
use Rattle.qa_base.specs.declared.space.Space.TheVariants.{App}
use Rattle.qa_base.specs.machine.Breaches.{numbers}
use Rattle.qa_base.specs.machine.Detection.{count_between}
use Rattle.qa_base.specs.machine.Estimates.{rtt}
use Rattle.qa_base.specs.machine.Kept.{numbers_of}
use Rattle.qa_base.specs.machine.Permission.{probe_spent, recovery_spent}
use Rattle.qa_base.specs.machine.Loss.{bytes_in_flight, detection, free, is_open, nameable, owed}
use Rattle.qa_base.specs.machine.Packets.{Packet, greatest_of, largest_acknowledged, packets_of}
use Rattle.qa_base.specs.machine.Probes.{probe_due}
use Rattle.qa_base.specs.machine.State.{totals}
use Rattle.qa_base.specs.machine.Timer.{Due, deadline, last_eliciting, last_set, packet_deadline}
use Rattle.qa_base.specs.machine.Timer.{pto_count, set_since, time_of_moment}
use Rattle.qa_base.specs.machine.Window.{acknowledged_since_collapse, other_window, window}
use Rattle.qa_base.specs.values.Constants.{minimum_window, probe_datagrams}
use Rattle.qa_base.specs.values.Settings.{Settings, counts_packets, early, in_unit, is_may}
use Rattle.qa_ledger.specs.declared.causes.cause.Basis.{Basis}
use Rattle.qa_ledger.specs.declared.causes.cause.Basis.TheVariants as basis
use Rattle.qa_ledger.specs.declared.causes.cause.Cause.{Cause}
use Rattle.qa_ledger.specs.declared.causes.cause.Cause.TheVariants as cause
use Rattle.qa_ledger.specs.declared.causes.cause.Comparison.{Comparison}
use Rattle.qa_ledger.specs.declared.causes.cause.Counted.{Counted}
use Rattle.qa_ledger.specs.declared.causes.cause.Free.{Free}
use Rattle.qa_ledger.specs.declared.causes.cause.Oldest.{Oldest}
use Rattle.qa_ledger.specs.declared.causes.cause.Owed.{Owed}
use Rattle.qa_packet_numbers.specs.Missing.{first_outside, others, runs_of, unnamed}

-- ---- what is owed

abbrev pub first_space : List Packet → Option Space
first_space [] = None
first_space (p ∷ ps) = Some p.space

-- the space of the packets that are owed
abbrev pub owed_space : Settings → List Event → Option Space
owed_space c h = first_space (reverse (owed c h))

-- their numbers, which rise
abbrev pub owed_numbers : Settings → List Event → List ℕ
owed_numbers c h = reverse (numbers (owed c h))

-- the numbers of those that the next Lost line may name: what is owed, and what is free
abbrev pub nameable_numbers : Settings → List Event → List ℕ
nameable_numbers c h = reverse (numbers (nameable c h))

-- ---- how far a number lies below the largest acknowledged one, by the packets that were sent

-- where the packet threshold counts those
abbrev pub counted : Settings → List Event → Space → ℕ → Option Counted
counted c h s number =
    if counts_packets c.options.threshold_counts then option_map (λ largest. record {
      number = number;
      largest = largest;
      packets = count_between h s number largest;
      threshold = c.options.packet_threshold;
    }) (largest_acknowledged h s) else None

-- of a number, if there is one
abbrev pub counted_of : Settings → List Event → Option Space → Option ℕ → Option Counted
counted_of c h None number = None
counted_of c h (Some s) None = None
counted_of c h (Some s) (Some number) = counted c h s number

abbrev pub first_number : List ℕ → Option ℕ
first_number [] = None
first_number (n ∷ ns) = Some n

-- the first number of the ranges
abbrev pub first_of_ranges : List (ℕ × ℕ) → Option ℕ
first_of_ranges [] = None
first_of_ranges (range ∷ ranges) = Some range.0

-- what is owed, and how far the first of it lies below
abbrev pub owed_now : Settings → List Event → Owed
owed_now c h = record {
  space = owed_space c h;
  numbers = runs_of (owed_numbers c h);
  counted = counted_of c h (owed_space c h) (first_number (owed_numbers c h));
}

-- ---- what is free

-- the numbers of those that the next Lost line may name beyond what is owed
abbrev pub free_numbers : Settings → List Event → List ℕ
free_numbers c h = reverse (numbers (free c h))

-- the space in which the last event looked for losses
abbrev pub searched : Settings → List Event → Option Space
searched c h = option_map (λ d. d.0) (detection c h)

-- where the header lets a sender spare packets
abbrev pub free_now : Settings → List Event → Option Free
free_now c h =
    if is_may c.options.loss_by_number then Some
    (record { space = searched c h; numbers = runs_of (free_numbers c h) }) else None

-- ---- what a Lost line names

abbrev pub lost_space : Event → Option Space
lost_space (Lost time space ranges) = Some space
lost_space _ = None

abbrev pub lost_ranges : Event → List (ℕ × ℕ)
lost_ranges (Lost time space ranges) = ranges
lost_ranges _ = []

-- ---- what was sent

abbrev pub greatest_sent : List Event → Space → Option ℕ
greatest_sent h s = greatest_of (numbers_of h s)

abbrev pub greatest_before : List Event → Event → Option ℕ
greatest_before h (Sent packet) = greatest_sent h packet.space
greatest_before h _ = None

-- the least number of the ranges that was not sent in the space
abbrev pub first_unsent : List Event → Space → List (ℕ × ℕ) → Option ℕ
first_unsent h s ranges = first_outside ranges (numbers_of h s)

abbrev pub first_unsent_of : List Event → Event → Option ℕ
first_unsent_of h (Ack ack) = first_unsent h ack.space ack.ranges
first_unsent_of h _ = None

-- ---- why a deadline is what it is

-- the first packet of the space, in the order of sending, that is open and in flight
abbrev pub oldest_open : Settings → List Event → Space → Option Packet
oldest_open c h s = find (λ p. p.in_flight && is_open c h p) (reverse (packets_of h s))

-- it as it is told
abbrev pub oldest : Settings → List Event → Space → Option Oldest
oldest c h s = option_map (λ p. record { number = p.number; sent = p.time }) (oldest_open c h s)

-- the peer may delay its acknowledgments of application data
abbrev pub peer_delay : Settings → Space → ℕ
peer_delay c App = c.max_ack_delay
peer_delay c _ = 0

abbrev pub packet_basis : Settings → List Event → Space → Option Basis
packet_basis c h s =
    option_map (λ p. basis.Packet p.number p.sent (rtt c h).latest_rtt (rtt c h).smoothed_rtt
    c.options.time_threshold_eighths) (oldest c h s)

abbrev pub eliciting_basis : Settings → List Event → Space → Option Basis
eliciting_basis c h s =
    option_map (λ sent. basis.Eliciting sent (rtt c h).smoothed_rtt (rtt c h).rttvar
    (peer_delay c s) (pto_count c h)) (last_eliciting h s)

abbrev pub kept_basis : Settings → List Event → Option Basis
kept_basis c h =
    option_map (λ set. basis.Kept set (rtt c h).smoothed_rtt (rtt c h).rttvar (pto_count c h))
    (last_set h)

-- by what the timer is set for this: packets do it, or else the client's own timer
abbrev pub basis_by : Settings → List Event → Bool → TimerKind → Space → Option Basis
basis_by c h by_packets Loss s = packet_basis c h s
basis_by c h true Pto s = eliciting_basis c h s
basis_by c h false Pto s = kept_basis c h

abbrev pub basis_of : Settings → List Event → Option Due → Option Basis
basis_of c h None = None
basis_of c h (Some due) = basis_by c h (is_some (packet_deadline c h)) due.kind due.space

-- ---- since when the timer is set, where the header limits how late it may be

abbrev pub since_if_limited : Option ℕ → ℕ → ℕ
since_if_limited None since = 0
since_if_limited (Some limit) since = since

abbrev pub limited_since : Settings → List Event → ℕ
limited_since c h = since_if_limited c.options.timer_late (set_since c h)

-- ---- how a report is compared

-- by whose window, and with the slack that the header gives
abbrev pub comparison : Settings → Comparison
comparison c = record {
  controller = c.options.controller;
  slack_bytes = c.options.report_slack_bytes;
  slack_time = in_unit c.unit c.options.report_slack_us;
}

-- ---- the cause

-- the facts of the rule that the event breaks
abbrev pub cause_of : Settings → List Event → Event → Rule → Cause
cause_of c h e rule.TimeBack = cause.TimeBack (time_of_moment h)
cause_of c h e rule.LossOwed = cause.LossOwed (owed_now c h)
cause_of c h e rule.LossNotOwed =
    cause.LossNotOwed (owed_now c h) (free_now c h)
    (counted_of c h (lost_space e) (first_of_ranges (lost_ranges e)))
cause_of c h e rule.LossSet =
    cause.LossSet (owed_now c h) (free_now c h)
    (runs_of (unnamed (lost_ranges e) (owed_numbers c h)))
    (others (lost_ranges e) (nameable_numbers c h))
    (counted_of c h (lost_space e)
    (first_of_ranges (others (lost_ranges e) (nameable_numbers c h))))
cause_of c h e rule.SpaceGone = cause.SpaceGone
cause_of c h e rule.NumberNotHigher = cause.NumberNotHigher (greatest_before h e)
cause_of c h e rule.PastWindow =
    cause.PastWindow (bytes_in_flight c h) (window c h) c.options.window_overshoot
cause_of c h e rule.PastProbe =
    cause.PastProbe (probe_datagrams * c.max_datagram_size) (probe_spent h)
cause_of c h e rule.PastRecovery = cause.PastRecovery (recovery_spent c h)
cause_of c h e rule.AckUnsent = cause.AckUnsent (first_unsent_of h e)
cause_of c h e rule.TimerNotSet = cause.TimerNotSet
cause_of c h e rule.TimerOther = cause.TimerOther (deadline c h)
cause_of c h e rule.TimerEarly =
    cause.TimerEarly (deadline c h) (basis_of c h (deadline c h)) (early c)
cause_of c h e rule.ProbeOwed = cause.ProbeOwed (probe_due h)
cause_of c h e rule.NotConfirmed = cause.NotConfirmed
cause_of c h e (rule.Metric f) =
    cause.Metric (totals c h) (comparison c)
cause_of c h e rule.OwedAtEnd = cause.OwedAtEnd (owed_now c h)
cause_of c h e rule.TimerLate =
    cause.TimerLate (packet_deadline c h) (limited_since c h)
    (option_map (in_unit c.unit) c.options.timer_late)
cause_of c h e rule.CollapseMissing =
    cause.CollapseMissing (minimum_window c.max_datagram_size)
    (acknowledged_since_collapse c h) c.options.report_slack_bytes (other_window c h e)
