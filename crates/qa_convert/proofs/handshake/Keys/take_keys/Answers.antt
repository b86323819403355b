use Rattle.std.proofs.Common.{refl}
use Rattle.qa_convert.proofs.Keyed.{only_none}
use Rattle.qa_convert.proofs.handshake.Keys.take_keys.Goals as goal

pub returns-then-self-clause-keys : goal.returns-then-self-clause-keys
returns-then-self-clause-keys c = only_none _ _ _ refl

pub returns-else-self-2-clause-keys : goal.returns-else-self-2-clause-keys
returns-else-self-2-clause-keys c = only_none _ _ _ refl
