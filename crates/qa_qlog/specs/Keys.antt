-- The keys at which the data of records is read, and which whole numbers each may have.
use Rattle.std.specs.Prelude.{ℕ, List, codes}
use Rattle.qa_base.specs.values.Limits.{max_packet_number, max_packet_size}
use Rattle.qa_qlog.specs.declared.keys.Key.{Key}
use Rattle.qa_qlog.specs.declared.keys.Key.TheVariants as key

abbrev pub name_of : Key → List ℕ
name_of key.PacketNumber = codes "packet_number"
name_of key.Length = codes "raw.length"
name_of key.PayloadLength = codes "payload_length"
name_of key.HeaderLength = codes "header.length"
name_of key.FrameLength = codes "length"
name_of key.Offset = codes "offset"
name_of key.Frames = codes "frames"
name_of key.AckedRanges = codes "acked_ranges"
name_of key.AckDelay = codes "ack_delay"
name_of key.Ce = codes "ce"
name_of key.Packets = codes "packets"
name_of key.Traces = codes "traces"
name_of key.Events = codes "events"
name_of key.LatestRtt = codes "latest_rtt"
name_of key.MinRtt = codes "min_rtt"
name_of key.SmoothedRtt = codes "smoothed_rtt"
name_of key.RttVariance = codes "rtt_variance"
name_of key.CongestionWindow = codes "congestion_window"
name_of key.Ssthresh = codes "ssthresh"
name_of key.BytesInFlight = codes "bytes_in_flight"
name_of key.PtoCount = codes "pto_count"
name_of key.Delta = codes "delta"
name_of key.MaxAckDelay = codes "max_ack_delay"
name_of key.AckDelayExponent = codes "ack_delay_exponent"
name_of key.InitialRtt = codes "initial_rtt"
name_of key.MaxDatagramSize = codes "max_datagram_size"
name_of key.InitialCongestionWindow = codes "initial_congestion_window"
name_of key.ReorderingThreshold = codes "reordering_threshold"
name_of key.TimeThreshold = codes "time_threshold"

-- a packet has a byte at least
abbrev pub least : Key → ℕ
least key.Length = 1
least _ = 0

-- the largest `ack_delay_exponent` (RFC 9000, section 18.2)
abbrev pub max_exponent : ℕ
max_exponent = 20

-- the most bytes of a window or in flight: those of 64 bits
abbrev pub max_bytes : ℕ
max_bytes = 18446744073709551615

-- an integer of QUIC has 62 bits (RFC 9000, section 16)
abbrev pub largest : Key → ℕ
largest key.Length = max_packet_size
largest key.PayloadLength = max_packet_size
largest key.HeaderLength = max_packet_size
largest key.FrameLength = max_packet_size
largest key.AckDelayExponent = max_exponent
largest key.CongestionWindow = max_bytes
largest key.Ssthresh = max_bytes
largest key.BytesInFlight = max_bytes
largest _ = max_packet_number
