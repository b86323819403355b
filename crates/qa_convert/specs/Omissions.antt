-- What a log says and the trace does not, and what it shows that no trace can say, in words.
use Rattle.std.specs.Prelude.{ℕ, List, ◌++◌, Bool, true, false, codes}
use Rattle.qa_convert.specs.declared.omission.Limit.{Limit}
use Rattle.qa_convert.specs.declared.omission.Limit.TheVariants as limit
use Rattle.qa_convert.specs.declared.omission.Omission.{Omission}
use Rattle.qa_convert.specs.declared.omission.Omission.TheVariants as omission

-- what is said of what was left out
abbrev pub omission_text : Omission → List ℕ
omission_text omission.AckOfGoneSpace = codes "an acknowledgment of a discarded space"
omission_text omission.AckOfNothing = codes "an acknowledgment frame without ranges"
omission_text omission.LeftFlight = codes "packets that left the bytes in flight with no event"
omission_text omission.FlightDiffers =
    codes "bytes in flight below those of the packets that are open"
omission_text omission.LossOfNothing =
    codes "a loss that neither an acknowledgment nor a timer shows"
omission_text omission.LossBeforeRetry =
    codes "a loss of a packet that was sent before a Retry, which resets recovery"
omission_text omission.LossNotInFlight = codes "a loss of a packet that is not in flight"
omission_text omission.LossOfProbe =
    codes "a packet_lost by pto_expired: what a probe repeats stays in flight"
omission_text omission.IdleTimer = codes "a timer that had been moved: it expired, and did nothing"
omission_text omission.BareTimer =
    codes "a loss timer that found only packets that are not in flight"
omission_text omission.OtherTimer = codes "a timer of another kind than loss and pto"
omission_text omission.Limit =
    codes "the limit for late timers: the server may not send before the client's address is "
    ++ codes "validated (RFC 9000, 8.1), and a trace does not show that"

-- a timer was left out
abbrev pub is_of_timer : Omission → Bool
is_of_timer omission.IdleTimer = true
is_of_timer omission.BareTimer = true
is_of_timer omission.OtherTimer = true
is_of_timer _ = false

-- what is said of what no trace can say
abbrev pub limit_text : Limit → List ℕ
limit_text limit.Marks =
    codes "acknowledgments report CE marks, of which traces say nothing: a window that falls by "
    ++ codes "them, or the packet of an entry into recovery, may be refused"
limit_text limit.CutClock =
    codes "each difference of its times is cut to a millisecond, so its clock falls behind, unless "
    ++ codes "the sender's has whole milliseconds too: what times decide may be refused"
limit_text limit.AckFrequency =
    codes "ACK_FREQUENCY frames change the peer's max_ack_delay, of which a trace has only one: "
    ++ codes "probe timeouts may be refused"
limit_text limit.TimeThreshold =
    codes "its loss timers fire later than at the time threshold of the header: losses by time may "
    ++ codes "be refused (--time-threshold-eighths)"
limit_text limit.SameTick =
    codes "a packet is lost that was sent in the same tick in which a loss was declared before: by "
    ++ codes "such times it does not enter recovery again, and what follows may be refused"
