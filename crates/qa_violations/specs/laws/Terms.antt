-- The sum that a deadline is: a time, and how long after it (RFC 9002, sections 6.1.2 and 6.2.1).
use Rattle.std.specs.Prelude.{◌≡◌, ℕ, ◌+◌, ◌*◌, ◌^◌, List, Some}
use Rattle.qa_base.specs.declared.event.Event.{Event}
use Rattle.qa_base.specs.machine.Rtt.{Estimate, loss_delay, pto_base, start}
use Rattle.qa_base.specs.machine.Timer.{Due}
use Rattle.qa_base.specs.values.Settings.{Settings, granularity}
use Rattle.qa_ledger.specs.causes.Causes.{basis_of}
use Rattle.qa_ledger.specs.declared.causes.cause.Basis.{Basis}
use Rattle.qa_ledger.specs.declared.causes.cause.Basis.TheVariants.{Packet, Eliciting, Kept}

-- an estimate with these RTTs, of which a loss delay asks no more
abbrev pub with_rtts : (latest smoothed : ℕ) → Estimate
with_rtts latest smoothed = record (start 0) { latest_rtt = latest; smoothed_rtt = smoothed }

-- an estimate with these values, of which a probe timeout asks no more
abbrev pub with_variation : (smoothed rttvar : ℕ) → Estimate
with_variation smoothed rttvar = record (start 0) { smoothed_rtt = smoothed; rttvar = rttvar }

-- the first term: when the packet was sent, or the timer set
abbrev pub begins_at : Basis → ℕ
begins_at (Packet number sent latest smoothed eighths) = sent
begins_at (Eliciting sent smoothed rttvar peer_delay count) = sent
begins_at (Kept set smoothed rttvar count) = set

-- the second: a loss delay, or a probe timeout
abbrev pub delay_by : Settings → Basis → ℕ
delay_by c (Packet number sent latest smoothed eighths) = loss_delay c (with_rtts latest smoothed)
delay_by c (Eliciting sent smoothed rttvar peer_delay count) =
    (pto_base (granularity c) (with_variation smoothed rttvar) + peer_delay) * 2 ^ count
delay_by c (Kept set smoothed rttvar count) =
    pto_base (granularity c) (with_variation smoothed rttvar) * 2 ^ count

-- it is told why the deadline is what it is, and that is its sum
pub record HasTerms (c : Settings) (h : List Event) (due : Due) : Type 0 where
  pub basis : Basis
  pub told : basis_of c h (Some due) ≡ Some basis
  pub sum : due.time ≡ begins_at basis + delay_by c basis
