-- Short forms of what the timer is set for.
use Rattle.std.specs.Prelude.{ℕ, Option, Some}
use Rattle.qa_base.specs.declared.space.TimerKind.TheVariants as kind
use Rattle.qa_base.specs.declared.space.Space.{Space}
use Rattle.qa_base.specs.machine.Timer.{Due}

-- a loss timer of the space at a time
abbrev pub loss_at : Space → ℕ → Option Due
loss_at space time = Some (record { kind = kind.Loss; space = space; time = time })

-- a probe timeout of the space at a time
abbrev pub pto_at : Space → ℕ → Option Due
pto_at space time = Some (record { kind = kind.Pto; space = space; time = time })
