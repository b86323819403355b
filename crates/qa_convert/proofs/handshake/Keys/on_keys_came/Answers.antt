use Rattle.std.proofs.Common.{refl}
use Rattle.qa_convert.proofs.Keyed.{only_none}
use Rattle.qa_convert.proofs.handshake.Keys.on_keys_came.Goals as goal

pub returns-else-eq-clause-keys : goal.returns-else-eq-clause-keys
returns-else-eq-clause-keys c = only_none _ _ _ refl
