-- What was sent past the congestion window, and what an event makes of it.
use Rattle.std.specs.Prelude.{ℕ, ◌+◌, Bool, List, Option, Some, None, option_map, if◌then◌else◌}
use Rattle.qa_base.specs.declared.event.Event.{Event}
use Rattle.qa_base.specs.declared.space.Permission.{Permission}
use Rattle.qa_base.specs.declared.space.Permission.TheVariants.{Probe, Recovery}
use Rattle.qa_base.specs.machine.Permission as leaves
use Rattle.qa_base.specs.values.Settings.{Settings}
use Rattle.qa_sender.specs.connection.Steps.{capped}
use Rattle.qa_sender.specs.declared.connection.allowances.Allowances.{Allowances}

-- what is kept of it after a history
abbrev pub allowances_after : Settings → List Event → Allowances
allowances_after c h = record {
  probe_spent = leaves.probe_spent h;
  recovery_spent = leaves.recovery_spent c h;
}

-- before any event
abbrev pub unspent : Allowances
unspent = record { probe_spent = None; recovery_spent = None }

-- the bytes of probes, with a packet of this size
abbrev pub probes_with : Permission → ℕ → Option ℕ → Option ℕ
probes_with Probe size spent = option_map (λ n. capped (size + n)) spent
probes_with _ size spent = spent

-- the recovery packets, with one more
abbrev pub recovery_with : Permission → Option ℕ → Option ℕ
recovery_with Recovery spent = option_map (λ n. capped (1 + n)) spent
recovery_with _ spent = spent

-- a packet of this size went out by this leave
abbrev pub spent : Permission → ℕ → Allowances → Allowances
spent permission size a = record {
  probe_spent = probes_with permission size a.probe_spent;
  recovery_spent = recovery_with permission a.recovery_spent;
}

-- packets were found lost, which enters recovery or does not
abbrev pub on_congestion_event : Bool → Allowances → Allowances
on_congestion_event entered a =
    record a { recovery_spent = if entered then Some 0 else a.recovery_spent }
