-- What a sender's choices of version 3 change, and what they do not.
use Rattle.std.proofs.Common.{◌≡◌, ◌≤◌, ◌+◌, ◌-◌, ◌*◌, ◌/◌, ℕ, max, min, Bool, true, false, Option, Some, None, refl, ap, arith}
use Rattle.std.proofs.Math.Nat.{mul-le-mul_right}
use Rattle.std.specs.Prelude.{nat_le, if◌then◌else◌}
use Rattle.qa_base.specs.machine.Detection.{is_old}
use Rattle.qa_base.specs.machine.Packets.{Packet}
use Rattle.qa_base.specs.machine.Rtt.{Estimate, adjusted, distance, loss_delay, with_sample, with_sample_by}
use Rattle.qa_base.specs.values.Settings.{Settings}
use Rattle.qa_base.proofs.machine.RunLaws.{old_is_after_loss_delay}
use Rattle.qa_laws.specs.machine.Alike.{with_time_threshold}

-- ---- another time threshold

pub greater_threshold_makes_none_old : (c : Settings) (more : ℕ) (r : Estimate) (now : ℕ) (p : Packet) → c.options.time_threshold_eighths ≤ more
    → is_old (with_time_threshold c more) r now p ≡ true → is_old c r now p ≡ true
greater_threshold_makes_none_old c more r now p greater old =
    let waited : loss_delay (with_time_threshold c more) r ≤ now - p.time = (old_is_after_loss_delay (with_time_threshold c more) r now p).0 old in
    let parts : c.options.time_threshold_eighths * max r.latest_rtt r.smoothed_rtt ≤ more * max r.latest_rtt r.smoothed_rtt =
    mul-le-mul_right (max r.latest_rtt r.smoothed_rtt) greater in
    (old_is_after_loss_delay c r now p).1 (omega (arith, parts, waited))

-- ---- samples less the delay

nothing_off : (latest : ℕ) (b : Bool) → (if b then latest - 0 else latest) ≡ latest
nothing_off latest true = omega arith
nothing_off latest false = refl

either_is : (less_delay : Bool) (without latest : ℕ) → without ≡ latest → (if less_delay then without else latest) ≡ latest
either_is true without latest is = is
either_is false without latest is = refl

same_sample : (first : Option ℕ) (less_delay : Bool) (r : Estimate) (latest now : ℕ) → with_sample_by first less_delay r latest 0 now ≡ with_sample_by first false r latest 0 now
same_sample None less_delay r latest now = refl
same_sample (Some first) less_delay r latest now =
    let least = min r.min_rtt latest in
    let without = adjusted least latest 0 in
    ap (λ kept. record {
      latest_rtt = kept;
      min_rtt = least;
      smoothed_rtt = (7 * r.smoothed_rtt + without) / 8;
      rttvar = (3 * r.rttvar + distance r.smoothed_rtt without) / 4;
      first_rtt_sample = r.first_rtt_sample;
    }) (either_is less_delay without latest (nothing_off latest (nat_le (least + 0) latest)))

pub no_delay_takes_nothing_off : (less_delay : Bool) (r : Estimate) (latest now : ℕ) → with_sample less_delay r latest 0 now ≡ with_sample false r latest 0 now
no_delay_takes_nothing_off less_delay r latest now = same_sample r.first_rtt_sample less_delay r latest now
