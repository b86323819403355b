-- The text of a row: a line by its number, its kind and its time, and the state of the machine
-- behind it.
use Rattle.std.specs.Prelude.{ℕ, codes, List, [], ◌∷◌, ◌++◌, Option, Some, None}
use Rattle.qa_violations.specs.declared.around.row.Row.{Row}
use Rattle.qa_base.specs.declared.line_kind.LineKind.{LineKind}
use Rattle.qa_base.specs.declared.totals.Totals.{Totals}
use Rattle.qa_base.specs.machine.Timer.{Due}
use Rattle.qa_base.specs.values.Names.{kind_name, line_kind_name, space_name}
use Rattle.qa_explain.specs.text.Pieces.{named, numbered}

-- ---- the line

-- the time of its event; a header has none
abbrev pub time_text : Option ℕ → List ℕ
time_text None = []
time_text (Some time) = numbered (codes " at ") time

unfoldable pub line_text : ℕ → LineKind → Option ℕ → List ℕ
line_text n kind time =
    numbered (codes "  line ") n ++ named (codes " ") (line_kind_name kind) ++ time_text time
    ++ codes ":"

-- ---- the state

abbrev pub threshold_text : Option ℕ → List ℕ
threshold_text None = codes " ssthresh none"
threshold_text (Some bytes) = numbered (codes " ssthresh ") bytes

-- the congestion controller (RFC 9002, section 7), in bytes
unfoldable pub congestion_text : Totals → List ℕ
congestion_text t =
    numbered (codes " window ") t.window ++ numbered (codes " bytes_in_flight ") t.bytes_in_flight
    ++ threshold_text t.ssthresh

-- the RTT (section 5), in the unit of the trace
unfoldable pub rtt_text : Totals → List ℕ
rtt_text t =
    numbered (codes " latest_rtt ") t.latest_rtt
    ++ numbered (codes " min_rtt ") t.min_rtt
    ++ numbered (codes " smoothed_rtt ") t.smoothed_rtt
    ++ numbered (codes " rttvar ") t.rttvar

-- how many probe timeouts there were (section 6.2.1), and how many packets are owed
unfoldable pub counts_text : Totals → List ℕ
counts_text t = numbered (codes " pto_count ") t.pto_count ++ numbered (codes " owed ") t.owed

unfoldable pub due_text : Due → List ℕ
due_text due =
    named (codes " timer ") (kind_name due.kind) ++ named (codes " ") (space_name due.space)
    ++ numbered (codes " ") due.time

-- what the loss detection timer is set for (section 6.2)
abbrev pub timer_text : Option Due → List ℕ
timer_text None = codes " no timer"
timer_text (Some due) = due_text due

-- ---- rows

unfoldable pub row_text : Row → List ℕ
row_text r =
    line_text r.line r.kind r.time ++ congestion_text r.totals ++ rtt_text r.totals
    ++ counts_text r.totals ++ timer_text r.due ++ codes "\n"

-- one after another
abbrev pub each_text : List Row → List ℕ
each_text [] = []
each_text (r ∷ rs) = row_text r ++ each_text rs

-- with a heading, where there are some
abbrev pub rows_text : List Row → List ℕ
rows_text [] = []
rows_text (r ∷ rs) = codes "  before it:\n" ++ each_text (r ∷ rs)
