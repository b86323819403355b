-- What is wrong with a line that cannot be read.
use Rattle.std.specs.Prelude.{ℕ, ◌==◌, Bool, true, false, codes, List, ◌++◌, Option, Some, None}
use Rattle.std.specs.Prelude.{if◌then◌else◌}
use Rattle.qa_base.specs.declared.key.Key.{Key}
use Rattle.qa_base.specs.declared.key.Key.TheVariants as key
use Rattle.qa_base.specs.values.Names.{key_name}
use Rattle.qa_format.specs.declared.fault.Fault.{Fault}
use Rattle.qa_format.specs.declared.fault.Fault.TheVariants as fault
use Rattle.qa_explain.specs.text.Pieces.{named}

-- what the value of a key has to be
unfoldable pub wanted : Key → List ℕ
wanted key.Event =
    codes "the string header, sent, ack, lost, timer, discard, confirmed, keys or metrics"
wanted key.Version = codes "the integer 1, 2 or 3"
wanted key.Role = codes "the string client or server"
wanted key.Unit = codes "the string us or ns"
wanted key.Window = codes "the string newreno or reported"
wanted key.MaxDatagramSize = codes "an integer from 1200 to 65527"
wanted key.MaxAckDelay =
    codes "an integer from 0 to 16383000, or to 16383000000 where the unit is ns"
wanted key.InitialRtt =
    codes "an integer from 1 to 1000000000, or to 1000000000000 where the unit is ns"
wanted key.InitialWindow = codes "an integer from twice max_datagram_size to 4294967295"
wanted key.TimerLateUs = codes "an integer from 0 to 1000000000000000"
wanted key.RefreshMinRtt = codes "true or false"
wanted key.ReportSlackUs = codes "an integer from 0 to 1000000000"
wanted key.ReportSlackBytes = codes "an integer from 0 to 4294967295"
wanted key.WindowOvershoot = codes "true or false"
wanted key.SampleElicitingOnly = codes "true or false"
wanted key.PacketThreshold = codes "an integer from 3 to 65535"
wanted key.LossByNumber = codes "the string must, or may where window is reported"
wanted key.ThresholdCounts = codes "the string numbers or packets"
wanted key.ResetRtt = codes "true or false"
wanted key.LatestRttLessDelay = codes "true or false"
wanted key.TimeThresholdEighths = codes "an integer from 9 to 32"
wanted key.RecoveryByOrder = codes "true or false"
wanted key.TimerEarlyUs = codes "an integer from 0 to 1000000000"
wanted key.Time = codes "an integer from 0 to 1000000000000000"
wanted key.Space = codes "the string initial, handshake or app; to discard, initial or handshake"
wanted key.Number = codes "an integer from 0 to 4611686018427387903"
wanted key.Size = codes "an integer from 1 to 65527"
wanted key.Eliciting = codes "true or false"
wanted key.InFlight = codes "true or false"
wanted key.Leave = codes "the string window, probe or recovery"
wanted key.Ranges =
    codes "a list of ranges [lo,hi], lo not above hi and hi at most 4611686018427387903"
wanted key.Delay = codes "an integer from 0 to 18446744073709551615"
wanted key.Limited = codes "true or false"
wanted key.Kind = codes "the string loss or pto"
wanted (key.Metric f) = codes "an integer from 0 to 18446744073709551615"

-- words, a key, words again, and what the value of the key has to be
unfoldable pub key_sentence : List ℕ → Key → List ℕ → List ℕ
key_sentence before k between = named before (key_name k) ++ named between (wanted k)

-- where a header is out of place, or none is there: by whether one stands before, by the line and
-- its number
abbrev pub place_sentence : Bool → ℕ → Option (List ℕ) → List ℕ
place_sentence true n line =
    codes "a header stands before this one: are these two logs, one behind the other?"
place_sentence false n (Some l) = codes "the first line that is not blank has to be the header"
place_sentence false n None =
    if n == 1 then codes "the input is empty" else codes "the input has only blank lines"

-- what is wrong with line n
unfoldable pub fault_sentence : Fault → Bool → ℕ → Option (List ℕ) → List ℕ
fault_sentence fault.NotJson headed n line = codes "the line is not JSON"
fault_sentence fault.NotObject headed n line = codes "the line is JSON, but no object"
fault_sentence (fault.Missing k) headed n line =
    key_sentence (codes "the key ") k (codes " is missing, whose value is ")
fault_sentence (fault.WrongKind k) headed n line =
    key_sentence (codes "the value of ") k (codes " is of another kind than ")
fault_sentence (fault.OutOfRange k) headed n line =
    key_sentence (codes "the value of ") k (codes " is other than ")
fault_sentence fault.UnknownEvent headed n line =
    named (codes "the string at event names no event; it has to be ") (wanted key.Event)
fault_sentence fault.HeaderPlace headed n line = place_sentence headed n line
fault_sentence fault.LineTooLong headed n line = codes "the line has more than 65536 bytes"
fault_sentence fault.FlagsClash headed n line =
    codes "an ack-eliciting packet is in flight, and in_flight is false"
fault_sentence fault.Version headed n line =
    named (codes "the version has to be ") (wanted key.Version)
fault_sentence fault.TooManyLines headed n line = codes "a trace has at most 4294967295 lines"
