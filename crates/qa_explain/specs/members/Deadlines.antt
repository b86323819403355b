-- Deadlines, and the times and amounts that make them.
use Rattle.std.specs.Prelude.{ℕ, max, ◌-◌, codes, List, [], ◌++◌, Option, Some, None}
use Rattle.json.specs.Token.{Token}
use Rattle.qa_base.specs.declared.event.Event.{Event}
use Rattle.qa_base.specs.declared.space.TimeUnit.{TimeUnit}
use Rattle.qa_base.specs.machine.Timer.{Due}
use Rattle.qa_base.specs.values.Events.{time_of}
use Rattle.qa_base.specs.values.Names.{kind_name, space_name, unit_name}
use Rattle.qa_ledger.specs.declared.causes.cause.Basis.{Basis}
use Rattle.qa_ledger.specs.declared.causes.cause.Basis.TheVariants as basis
use Rattle.qa_explain.specs.members.Object.{amount_at, null_at, number_at, some_amount_at}
use Rattle.qa_explain.specs.members.Object.{string_at}
use Rattle.qa_explain.specs.text.Deadlines.{due_time}

-- ---- what the timer is set for

unfoldable pub some_due : TimeUnit → Due → List Token
some_due u due =
    string_at (codes "set_kind") (kind_name due.kind)
    ++ string_at (codes "set_space") (space_name due.space)
    ++ amount_at (codes "deadline") (unit_name u) due.time

unfoldable pub no_due : TimeUnit → List Token
no_due u =
    null_at (codes "set_kind") ++ null_at (codes "set_space")
    ++ some_amount_at (codes "deadline") (unit_name u) None

-- V12
abbrev pub due_facts : TimeUnit → Option Due → List Token
due_facts u None = no_due u
due_facts u (Some due) = some_due u due

-- ---- why then

-- from what it counts, and from when
unfoldable pub origin : TimeUnit → List ℕ → ℕ → List Token
origin u words time =
    string_at (codes "counts_from") words ++ amount_at (codes "counts_from") (unit_name u) time

-- a loss delay behind a packet (RFC 9002, section 6.1.2)
unfoldable pub packet_delay : TimeUnit → ℕ → ℕ → ℕ → ℕ → List Token
packet_delay u number latest smoothed eighths =
    number_at (codes "packet") number ++ amount_at (codes "latest_rtt") (unit_name u) latest
    ++ amount_at (codes "smoothed_rtt") (unit_name u) smoothed
    ++ number_at (codes "time_threshold_eighths") eighths

-- a probe timeout (section 6.2.1)
unfoldable pub timeout : TimeUnit → ℕ → ℕ → ℕ → ℕ → List Token
timeout u smoothed rttvar peer_delay count =
    amount_at (codes "smoothed_rtt") (unit_name u) smoothed
    ++ amount_at (codes "rttvar") (unit_name u) rttvar
    ++ amount_at (codes "max_ack_delay") (unit_name u) peer_delay
    ++ number_at (codes "pto_count") count

unfoldable pub some_basis : TimeUnit → Basis → List Token
some_basis u (basis.Packet number sent latest smoothed eighths) =
    origin u (codes "packet") sent ++ packet_delay u number latest smoothed eighths
some_basis u (basis.Eliciting sent smoothed rttvar peer_delay count) =
    origin u (codes "ack-eliciting packet") sent ++ timeout u smoothed rttvar peer_delay count
some_basis u (basis.Kept set smoothed rttvar count) =
    origin u (codes "timer set") set ++ timeout u smoothed rttvar 0 count

abbrev pub basis_facts : TimeUnit → Option Basis → List Token
basis_facts u None = []
basis_facts u (Some b) = some_basis u b

-- ---- early and late

-- by how much something is off, and by how much it may be
unfoldable pub off_by : TimeUnit → List ℕ → ℕ → Option ℕ → List Token
off_by u key by allowed =
    amount_at key (unit_name u) by ++ some_amount_at (codes "allowed") (unit_name u) allowed

-- V13
unfoldable pub early_facts : TimeUnit → Event → Option Due → Option Basis → ℕ → List Token
early_facts u e due b early =
    due_facts u due ++ off_by u (codes "early") (due_time due - time_of e) (Some early)
    ++ basis_facts u b

-- V18
unfoldable pub late_facts : TimeUnit → Event → Option Due → ℕ → Option ℕ → List Token
late_facts u e due since limit =
    due_facts u due ++ amount_at (codes "set_since") (unit_name u) since
    ++ off_by u (codes "late") (time_of e - max (due_time due) since) limit
