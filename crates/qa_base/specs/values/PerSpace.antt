-- The value of one packet number space, of a value for each.
use Rattle.qa_base.specs.declared.space.Space.{Space}
use Rattle.qa_base.specs.declared.space.Space.TheVariants.{Initial, Handshake, App}
use Rattle.qa_base.specs.declared.per_space.PerSpace.{PerSpace}

abbrev pub of_space : {T : Type 0} → Space → PerSpace T → T
of_space Initial values = values.initial
of_space Handshake values = values.handshake
of_space App values = values.app

-- with this one for the space
abbrev pub with_space : {T : Type 0} → Space → PerSpace T → T → PerSpace T
with_space Initial values t = record values { initial = t }
with_space Handshake values t = record values { handshake = t }
with_space App values t = record values { app = t }
