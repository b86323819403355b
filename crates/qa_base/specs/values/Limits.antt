-- The ranges of the format's numbers.
use Rattle.std.specs.Prelude.{ℕ, ◌&&◌, nat_le, Option, Some, None, if◌then◌else◌}

-- the greatest time, 10^15 in either unit: 31 years of microseconds, or 11 days and 13 hours of
-- nanoseconds
abbrev pub max_time : ℕ
max_time = 1000000000000000

-- the greatest packet number, 2^62 - 1 (RFC 9000, section 12.3)
abbrev pub max_packet_number : ℕ
max_packet_number = 4611686018427387903

-- the most bytes of a packet: those that a UDP datagram can carry (RFC 9000, section 18.2)
abbrev pub max_packet_size : ℕ
max_packet_size = 65527

-- the least maximum datagram size, in bytes (RFC 9000, section 14)
abbrev pub min_datagram_size : ℕ
min_datagram_size = 1200

-- the greatest max_ack_delay, 2^14 - 1 milliseconds, in microseconds and in nanoseconds (RFC 9000,
-- section 18.2)
abbrev pub max_max_ack_delay : ℕ
max_max_ack_delay = 16383000

abbrev pub max_max_ack_delay_ns : ℕ
max_max_ack_delay_ns = 16383000000

-- the greatest initial RTT, 1,000 seconds, in microseconds and in nanoseconds
abbrev pub max_initial_rtt : ℕ
max_initial_rtt = 1000000000

abbrev pub max_initial_rtt_ns : ℕ
max_initial_rtt_ns = 1000000000000

-- the least packet threshold (RFC 9002, section 6.1.1), and the greatest
abbrev pub min_packet_threshold : ℕ
min_packet_threshold = 3

abbrev pub max_packet_threshold : ℕ
max_packet_threshold = 65535

-- the least time threshold in eighths of the RTT, which section 6.1.2 recommends, and the greatest
abbrev pub min_time_threshold_eighths : ℕ
min_time_threshold_eighths = 9

abbrev pub max_time_threshold_eighths : ℕ
max_time_threshold_eighths = 32

-- the greatest initial window, 2^32 - 1 bytes
abbrev pub max_initial_window : ℕ
max_initial_window = 4294967295

-- the greatest limit for how late a timer is, 10^15 microseconds
abbrev pub max_timer_late : ℕ
max_timer_late = 1000000000000000

-- the greatest tolerance for how early a timer is, 1,000 seconds, in microseconds
abbrev pub max_timer_early_us : ℕ
max_timer_early_us = 1000000000

-- the greatest slack of reported times, 1,000 seconds
abbrev pub max_report_slack_us : ℕ
max_report_slack_us = 1000000000

-- the greatest slack of reported bytes, 2^32 - 1
abbrev pub max_report_slack_bytes : ℕ
max_report_slack_bytes = 4294967295

-- the most lines of a trace, 2^32 - 1
abbrev pub max_lines : ℕ
max_lines = 4294967295

-- the number, where it is from lo to hi
abbrev pub in_range : ℕ → ℕ → ℕ → Option ℕ
in_range lo hi n = if nat_le lo n && nat_le n hi then Some n else None
