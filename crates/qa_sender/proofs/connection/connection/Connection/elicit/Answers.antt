use Rattle.std.proofs.Common.{refl}
use Rattle.qa_sender.proofs.connection.connection.Connection.elicit.Goals as goal

pub returns-then-not-packet : goal.returns-then-not-packet
returns-then-not-packet c = rw c.if-not-packet.true refl

pub returns : goal.returns
returns c = rw (c.elicit.ensures, c.of_mut.ensures.value, c.if-not-packet.false) refl
