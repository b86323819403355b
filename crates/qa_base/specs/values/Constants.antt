-- The constants of RFC 9002 (A.2 and B.1), each with the RFC's name for it. Times are in
-- microseconds.
use Rattle.std.specs.Prelude.{ℕ, ◌*◌}

-- ---- loss detection (A.2)

-- kPacketThreshold where a header names none: a packet this many numbers below an acknowledged one
-- is lost (section 6.1.1)
abbrev pub default_packet_threshold : ℕ
default_packet_threshold = 3

-- kTimeThreshold where a header names none is 9/8 of the RTT (section 6.1.2): so many parts, and
-- into how many the RTT is divided
abbrev pub default_time_threshold_eighths : ℕ
default_time_threshold_eighths = 9

abbrev pub time_threshold_divisor : ℕ
time_threshold_divisor = 8

-- kGranularity, a millisecond (section 6.1.2)
abbrev pub granularity_us : ℕ
granularity_us = 1000

-- kInitialRtt (section 6.2.2)
abbrev pub default_initial_rtt : ℕ
default_initial_rtt = 333000

-- ---- congestion control (B.1)

-- kInitialWindow is so many datagrams, but no more than these bytes, or two datagrams where they
-- are more (section 7.2)
abbrev pub initial_window_datagrams : ℕ
initial_window_datagrams = 10

abbrev pub initial_window_bytes : ℕ
initial_window_bytes = 14720

-- kMinimumWindow, two datagrams (section 7.2)
abbrev pub minimum_window : ℕ → ℕ
minimum_window max_datagram_size = 2 * max_datagram_size

-- kLossReductionFactor is 1/2 (section 7.3.2): what the window is divided by
abbrev pub loss_reduction_divisor : ℕ
loss_reduction_divisor = 2

-- kPersistentCongestionThreshold: of how many probe timeouts persistent congestion is made (section
-- 7.6.1)
abbrev pub persistent_congestion_threshold : ℕ
persistent_congestion_threshold = 3

-- ---- values that the RFCs give without a name

-- a probe timeout allows so many datagrams (section 6.2.4)
abbrev pub probe_datagrams : ℕ
probe_datagrams = 2

-- the peer's max_ack_delay where it sends none (RFC 9000, section 18.2)
abbrev pub default_max_ack_delay : ℕ
default_max_ack_delay = 25000
