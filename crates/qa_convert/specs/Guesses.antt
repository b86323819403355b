-- What lines say and the log does not, in words.
use Rattle.std.specs.Prelude.{ℕ, ◌==◌, List, [], ◌∷◌, Bool, true, false, codes}
use Rattle.serde_json.specs.Data.{Items, no_items, item, string}
use Rattle.qa_convert.specs.declared.guess.Guess.{Guess}
use Rattle.qa_convert.specs.declared.guess.Guess.TheVariants as guess

-- what is said of a guess
abbrev pub guess_text : Guess → List ℕ
guess_text guess.DatagramByWindow =
    codes "max_datagram_size: the first window by the datagrams that it has"
guess_text guess.DatagramByPacket = codes "max_datagram_size: the largest packet that was sent"
guess_text guess.DatagramLeast = codes "max_datagram_size: 1200, for no packet was larger"
guess_text guess.NoMaxAckDelay = codes "max_ack_delay: 25 ms, for the peer's is not logged"
guess_text guess.NoWindow = codes "window: newreno, for no window is logged"
guess_text guess.HiddenWindow =
    codes "initial_window: the greatest, for no window is logged, so none is judged"
guess_text guess.InitialRtt = codes "initial_rtt: that of the stack's sources or documentation"
guess_text guess.ProbeByCount = codes "a probe timeout and its space: pto_count rose"
guess_text guess.ProbeByPing = codes "a probe timeout and its space: a PING was sent"
guess_text guess.ProbeByRoom =
    codes "a probe timeout: a packet has kept room for a PING, and nothing had come"
guess_text guess.ProbeByTrigger = codes "a probe timeout and its space: a packet is its probe"
guess_text guess.Size = codes "size: by the header and the frames, for the log does not have it"
guess_text guess.SizeByGrowth =
    codes "size: that by which the bytes in flight grew, for the log's is another"
guess_text guess.TimerSpace = codes "the space of a timer: the log does not have it"
guess_text guess.LossTimer = codes "a loss timer: no acknowledgment shows the losses"
guess_text guess.Discard = codes "discard: the log tells of none"
guess_text guess.Confirmed = codes "confirmed: the log does not say when"
guess_text guess.Delay =
    codes "delay: within 2 ms of the log's, so that it counts as the report after it shows"
guess_text guess.Arrival =
    codes "time: that of the reported sample, since the log's time was read late"
guess_text guess.Moment =
    codes "time: part of a millisecond earlier, so that a packet is not lost yet"
guess_text guess.LimitedByWindow = codes "limited: the window stayed as it was"
guess_text guess.LeaveProbe = codes "leave probe: a probe timeout allowed it"
guess_text guess.LeaveRecovery =
    codes "leave recovery: the first packet past the window after it fell"
guess_text guess.TimeBack = codes "time: it went back, and is that of the line before"

-- their numbers, in the order in which they are declared
abbrev pub guess_number : Guess → ℕ
guess_number guess.DatagramByWindow = 0
guess_number guess.DatagramByPacket = 1
guess_number guess.DatagramLeast = 2
guess_number guess.NoMaxAckDelay = 3
guess_number guess.NoWindow = 4
guess_number guess.HiddenWindow = 5
guess_number guess.InitialRtt = 6
guess_number guess.ProbeByCount = 7
guess_number guess.ProbeByPing = 8
guess_number guess.ProbeByRoom = 9
guess_number guess.ProbeByTrigger = 10
guess_number guess.Size = 11
guess_number guess.SizeByGrowth = 12
guess_number guess.TimerSpace = 13
guess_number guess.LossTimer = 14
guess_number guess.Discard = 15
guess_number guess.Confirmed = 16
guess_number guess.Delay = 17
guess_number guess.Arrival = 18
guess_number guess.Moment = 19
guess_number guess.LimitedByWindow = 20
guess_number guess.LeaveProbe = 21
guess_number guess.LeaveRecovery = 22
guess_number guess.TimeBack = 23

-- both are one
abbrev pub is_guess : Guess → Guess → Bool
is_guess g h = guess_number g == guess_number h

-- the log has no record of the line
abbrev pub is_of_line : Guess → Bool
is_of_line guess.DatagramByWindow = false
is_of_line guess.DatagramByPacket = false
is_of_line guess.DatagramLeast = false
is_of_line guess.NoMaxAckDelay = false
is_of_line guess.NoWindow = false
is_of_line guess.HiddenWindow = false
is_of_line guess.InitialRtt = false
is_of_line guess.ProbeByCount = true
is_of_line guess.ProbeByPing = true
is_of_line guess.ProbeByRoom = true
is_of_line guess.ProbeByTrigger = true
is_of_line guess.Size = false
is_of_line guess.SizeByGrowth = false
is_of_line guess.TimerSpace = false
is_of_line guess.LossTimer = true
is_of_line guess.Discard = true
is_of_line guess.Confirmed = true
is_of_line guess.Delay = false
is_of_line guess.Arrival = false
is_of_line guess.Moment = false
is_of_line guess.LimitedByWindow = false
is_of_line guess.LeaveProbe = false
is_of_line guess.LeaveRecovery = false
is_of_line guess.TimeBack = false

-- the size of a header's datagrams
abbrev pub is_of_datagram : Guess → Bool
is_of_datagram guess.DatagramByWindow = true
is_of_datagram guess.DatagramByPacket = true
is_of_datagram guess.DatagramLeast = true
is_of_datagram _ = false

-- a timer expired
abbrev pub is_of_timer : Guess → Bool
is_of_timer guess.ProbeByCount = true
is_of_timer guess.ProbeByPing = true
is_of_timer guess.ProbeByRoom = true
is_of_timer guess.ProbeByTrigger = true
is_of_timer guess.LossTimer = true
is_of_timer _ = false

-- the list of what is said of each
abbrev pub texts_of : List Guess → Items
texts_of [] = no_items
texts_of (g ∷ gs) = item (string (guess_text g)) (texts_of gs)
