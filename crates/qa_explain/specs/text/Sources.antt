-- Where each rule comes from: how strong the RFC is there, its section, and what it says.
--
-- If some cases of a rule have another level, its sentence names them with theirs.
use Rattle.std.specs.Prelude.{ℕ, List, codes, ◌++◌}
use Rattle.qa_base.specs.declared.rule.Field.{Field}
use Rattle.qa_base.specs.declared.rule.Field.TheVariants as field
use Rattle.qa_base.specs.declared.rule.Rule.{Rule}
use Rattle.qa_base.specs.declared.rule.Rule.TheVariants as rule
use Rattle.qa_explain.specs.declared.text.levels.Level.{Level}
use Rattle.qa_explain.specs.declared.text.levels.Level.TheVariants as level

-- ---- levels

-- what programs call a level: a MUST NOT is a MUST
abbrev pub name_of : Level → List ℕ
name_of level.Must = codes "MUST"
name_of level.MustNot = codes "MUST"
name_of level.Should = codes "SHOULD"
name_of level.Described = codes "described"
name_of level.Example = codes "example"
name_of level.Format = codes "format"

-- what follows the section: this format itself has no level
abbrev pub words_of : Level → List ℕ
words_of level.Must = codes ", MUST: "
words_of level.MustNot = codes ", MUST NOT: "
words_of level.Should = codes ", SHOULD: "
words_of level.Described = codes ", described: "
words_of level.Example = codes ", example: "
words_of level.Format = codes ": "

-- ---- the table

pub record Source : Type 0 where
  pub level : Level
  pub section : List ℕ
  pub statement : List ℕ

abbrev pub row : Level → List ℕ → List ℕ → Source
row strength place sentence =
    record { level = strength; section = place; statement = sentence }

-- of the value of a report (V16)
abbrev pub value_source : Field → Source
value_source field.Window =
    row level.Described (codes "RFC 9002, 7.3, 7.6")
    (codes "slow start and congestion avoidance as in B.5; half after a loss (7.3.2, MUST), the minimum after persistent congestion (7.6.2, MUST).")
value_source field.Ssthresh =
    row level.Must (codes "RFC 9002, 7.3.2")
    (codes "set the slow start threshold to half of the window at the entry into recovery.")
value_source field.BytesInFlight =
    row level.Described (codes "RFC 9002, 2")
    (codes "packets are in flight until they are acknowledged, declared lost or discarded. Probes count (7.5, MUST), discarded packets do not (6.4, MUST).")
value_source field.LatestRtt =
    row level.Described (codes "RFC 9002, 5.1")
    (codes "the time from when the largest packet of the ACK was sent to the ACK, with no delay taken off, unless latest_rtt_less_delay says so.")
value_source field.MinRtt =
    row level.Must (codes "RFC 9002, 5.2")
    (codes "take the lesser of min_rtt and latest_rtt, with no delay taken off. It SHOULD begin again after persistent congestion, which it does here if refresh_min_rtt says so, and MAY at other times.")
value_source field.SmoothedRtt =
    row level.Described (codes "RFC 9002, 5.3")
    (codes "7/8 of smoothed_rtt, and 1/8 of adjusted_rtt.")
value_source field.Rttvar =
    row level.Described (codes "RFC 9002, 5.3")
    (codes "3/4 of rttvar, and 1/4 of how far adjusted_rtt is from smoothed_rtt before this sample (as in A.7).")

unfoldable pub source : Rule → Source
source rule.TimeBack =
    row level.Format (codes "This format") (codes "the times of a trace do not fall.")
source rule.LossOwed =
    row level.Format (codes "This format")
    (codes "a loss that was found (RFC 9002, 6.1) is declared before anything else happens.")
source rule.LossNotOwed =
    row level.Described (codes "RFC 9002, 6.1")
    (codes "a packet is declared lost if it meets the conditions there. At a probe timeout 6.2 forbids it (MUST NOT), and 6.2.4 permits it instead of a probe (MAY), which this model does not have.")
source rule.LossSet =
    row level.Described (codes "RFC 9002, 6.1")
    (codes "a packet is declared lost if it meets the conditions there. This format: one line names all of them.")
source rule.SpaceGone =
    row level.Described (codes "RFC 9002, 6.4")
    (codes "packets of discarded keys are neither sent nor acknowledged. Initial packets MUST NOT be sent then (RFC 9001, 4.9.1).")
source rule.NumberNotHigher =
    row level.Must (codes "RFC 9000, 12.3") (codes "increase the packet number within a space.")
source rule.PastWindow =
    row level.MustNot (codes "RFC 9002, 7")
    (codes "send past the congestion window: the reported one, or else the window of NewReno, as this model has it.")
source rule.PastProbe =
    row level.MustNot (codes "RFC 9002, 7")
    (codes "send past the congestion window, except for two full datagrams at a probe timeout (6.2.4, MAY). This format counts their bytes.")
source rule.PastRecovery =
    row level.MustNot (codes "RFC 9002, 7")
    (codes "send past the congestion window, except for one packet at an entry into recovery (7.3.2).")
source rule.AckUnsent =
    row level.Should (codes "RFC 9000, 13.1")
    (codes "close the connection if a packet is acknowledged that was not sent. The mistake is the peer's, or the log's.")
source rule.TimerNotSet =
    row level.Example (codes "RFC 9002, A.8")
    (codes "no timer is set if no ack-eliciting packet is in flight, except at a client until it is validated. One for application data MUST NOT be set before the handshake is confirmed (6.2.1).")
source rule.TimerOther =
    row level.Example (codes "RFC 9002, A.8")
    (codes "the timer is set for the earliest loss, or else for the earliest probe timeout. It MUST NOT be set for a probe timeout if it is for a loss, and MUST be for the earlier of Initial and Handshake (6.2.1).")
source rule.TimerEarly =
    row level.Described (codes "RFC 9002, 6.1.2, 6.2.1")
    (codes "the deadline is a loss delay, or the PTO that each expiration doubles (MUST), after a packet was sent. With none in flight it counts as in A.8 (example).")
source rule.ProbeOwed =
    row level.Must (codes "RFC 9002, 6.2.4")
    (codes "send an ack-eliciting packet in the space when a probe timeout expires. Instead a sender MAY mark packets as lost, which this model does not have.")
source rule.NotConfirmed =
    row level.Described (codes "RFC 9001, 4.9")
    (codes "keys cannot be discarded before both sides have all handshake messages of their level: the handshake keys not before the handshake is confirmed (4.9.2).")
source (rule.Metric f) = value_source f
source rule.OwedAtEnd =
    row level.Format (codes "This format")
    (codes "a loss that was found (RFC 9002, 6.1) is declared before the trace ends.")
source rule.TimerLate =
    row level.Described (codes "RFC 9002, 6.1.2, 6.2.1")
    (codes "a timer is set for that deadline. This format: it is late by no more than the header allows. A.8 expects timers that wake up late.")
source rule.CollapseMissing =
    row level.Must (codes "RFC 9002, 7.6.2")
    (codes "reduce the window to the minimum after persistent congestion: two datagrams here (7.2, RECOMMENDED). For controllers other than NewReno 7 refers to RFC 8085.")

-- ---- for programs

unfoldable pub requirement : Rule → List ℕ
requirement r = name_of (source r).level

unfoldable pub section : Rule → List ℕ
section r = (source r).section

-- ---- as a line

unfoldable pub source_line : Source → List ℕ
source_line s =
    codes "  " ++ s.section ++ words_of s.level ++ s.statement ++ codes "\n"

abbrev pub source_text : Rule → List ℕ
source_text r = source_line (source r)
