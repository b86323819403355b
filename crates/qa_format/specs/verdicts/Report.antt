-- The text of a report.
use Rattle.std.specs.Prelude.{ℕ, List, [], ◌++◌, codes, decimal, Option, Some, None}
use Rattle.qa_format.specs.declared.fault.Fault.{Fault}
use Rattle.qa_base.specs.declared.key.Key.{Key}
use Rattle.qa_base.specs.declared.totals.Totals.{Totals}
use Rattle.qa_format.specs.declared.verdict.Verdict.{Verdict}
use Rattle.qa_format.specs.declared.verdict.Verdict.TheVariants.{Accepted, Refused, Unreadable}
use Rattle.qa_base.specs.values.Names.{key_name, rule_text}
use Rattle.qa_format.specs.format.Faults.{fault_name, fault_number, key_of}

-- ---- the first line

-- the key that a fault is about, behind a space
abbrev pub key_text : Option Key → List ℕ
key_text None = []
key_text (Some k) = codes " " ++ key_name k

unfoldable pub fault_text : Fault → List ℕ
fault_text f =
    codes "F" ++ decimal (fault_number f) ++ codes " " ++ fault_name f ++ key_text (key_of f)

-- a word, and the line that it is about
unfoldable pub place_text : List ℕ → ℕ → List ℕ
place_text word n = word ++ codes " line " ++ decimal n ++ codes " "

unfoldable pub verdict_text : Verdict → List ℕ
verdict_text (Accepted t) = codes "accepted\n"
verdict_text (Refused n r t) = place_text (codes "refused") n ++ rule_text r ++ codes "\n"
verdict_text (Unreadable n f t) = place_text (codes "unreadable") n ++ fault_text f ++ codes "\n"

-- ---- the totals

-- a line with a name and a number
unfoldable pub number_line : List ℕ → ℕ → List ℕ
number_line name n = name ++ codes " " ++ decimal n ++ codes "\n"

unfoldable pub ssthresh_line : Option ℕ → List ℕ
ssthresh_line None = codes "ssthresh none\n"
ssthresh_line (Some n) = number_line (codes "ssthresh") n

unfoldable pub bytes_text : Totals → List ℕ
bytes_text t =
    number_line (codes "events") t.events
    ++ number_line (codes "window") t.window
    ++ ssthresh_line t.ssthresh
    ++ number_line (codes "bytes_in_flight") t.bytes_in_flight

unfoldable pub times_text : Totals → List ℕ
times_text t =
    number_line (codes "latest_rtt") t.latest_rtt
    ++ number_line (codes "min_rtt") t.min_rtt
    ++ number_line (codes "smoothed_rtt") t.smoothed_rtt
    ++ number_line (codes "rttvar") t.rttvar
    ++ number_line (codes "pto_count") t.pto_count
    ++ number_line (codes "owed") t.owed

unfoldable pub totals_text : Totals → List ℕ
totals_text t = bytes_text t ++ times_text t

-- the totals of a verdict, which has none where no header was read
unfoldable pub known_totals_text : Verdict → List ℕ
known_totals_text (Accepted t) = totals_text t
known_totals_text (Refused n r t) = totals_text t
known_totals_text (Unreadable n f (Some t)) = totals_text t
known_totals_text (Unreadable n f None) = []

-- ---- the whole

unfoldable pub report : Verdict → List ℕ
report v = verdict_text v ++ known_totals_text v
