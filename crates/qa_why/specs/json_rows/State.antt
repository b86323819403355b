-- The state of the machine as a JSON object.
use Rattle.std.specs.Prelude.{ℕ, codes, List, ◌++◌, Option}
use Rattle.json.specs.Token.{Token}
use Rattle.qa_base.specs.declared.event.Event.{Event}
use Rattle.qa_base.specs.declared.space.TimeUnit.{TimeUnit}
use Rattle.qa_base.specs.declared.totals.Totals.{Totals}
use Rattle.qa_base.specs.machine.State.{totals}
use Rattle.qa_base.specs.machine.Timer.{Due, deadline}
use Rattle.qa_base.specs.values.Names.{unit_name}
use Rattle.qa_base.specs.values.Settings.{Settings}
use Rattle.qa_ledger.specs.causes.Causes.{owed_now}
use Rattle.qa_ledger.specs.declared.causes.cause.Owed.{Owed}
use Rattle.qa_explain.specs.members.Deadlines.{due_facts}
use Rattle.qa_explain.specs.members.Losses.{owed_runs}
use Rattle.qa_explain.specs.members.Object.{amount_at, number_at, opened, text_of}
use Rattle.qa_explain.specs.members.Sending.{bytes_at}

-- ---- the totals

-- the object, and how many events there are
unfoldable pub begun : ℕ → List Token
begun events = opened ++ number_at (codes "events") events

-- the congestion controller (RFC 9002, section 7)
unfoldable pub congestion : Totals → List Token
congestion t =
    amount_at (codes "window") (codes "bytes") t.window ++ bytes_at (codes "ssthresh") t.ssthresh
    ++ amount_at (codes "in_flight") (codes "bytes") t.bytes_in_flight

-- the latest and the least sample of the RTT (section 5)
unfoldable pub samples : List ℕ → Totals → List Token
samples unit t =
    amount_at (codes "latest_rtt") unit t.latest_rtt ++ amount_at (codes "min_rtt") unit t.min_rtt

-- the estimate of the RTT that they make, and how many probe timeouts there were (sections 5.3 and
-- 6.2.1)
unfoldable pub estimate : List ℕ → Totals → List Token
estimate unit t =
    amount_at (codes "smoothed_rtt") unit t.smoothed_rtt ++ amount_at (codes "rttvar") unit t.rttvar
    ++ number_at (codes "pto_count") t.pto_count

-- ---- the state

-- the object that has them, and what is owed and what the timer is set for, but for its end
unfoldable pub state_members : TimeUnit → Totals → Owed → Option Due → List Token
state_members u t o due =
    begun t.events ++ congestion t ++ samples (unit_name u) t ++ estimate (unit_name u) t
    ++ owed_runs o ++ due_facts u due

-- that of the state behind a history
abbrev pub state_tokens : Settings → List Event → List Token
state_tokens c h = state_members c.unit (totals c h) (owed_now c h) (deadline c h)

abbrev pub state_text : Settings → List Event → List ℕ
state_text c h = text_of (state_tokens c h)
