-- What the machine holds, by its parts.
use Rattle.std.proofs.Common.{◌≡◌, ℕ, List, length, Option, refl}
use Rattle.qa_base.specs.declared.event.Event.{Event}
use Rattle.qa_base.specs.machine.Estimates.{rtt}
use Rattle.qa_base.specs.machine.Loss.{bytes_in_flight, owed}
use Rattle.qa_base.specs.machine.Rtt.{Estimate}
use Rattle.qa_base.specs.values.Settings.{Settings}
use Rattle.qa_base.specs.machine.State.{totals}
use Rattle.qa_base.specs.machine.Timer.{pto_count}
use Rattle.qa_base.specs.machine.Window.{window, ssthresh}
use Rattle.qa_ledger.specs.Tests.{totals_of}

pub totals_are : (c : Settings) (h : List Event) (n w : ℕ) (t : Option ℕ) (e : Estimate) (b k o : ℕ) → n ≡ length h → w ≡ window c h → t ≡ ssthresh c h → e ≡ rtt c h → b ≡ bytes_in_flight c h → k ≡ pto_count c h → o ≡ length (owed c h)
    → totals_of n w t e b k o ≡ totals c h
totals_are c h n w t e b k o is_n is_w is_t is_e is_b is_k is_o = rw (is_n, is_w, is_t, is_e, is_b, is_k, is_o) refl
