use Rattle.std.proofs.Common.{◌≡◌, take}
use Rattle.qa_sender.specs.connection.Steps.{sent_at}
use Rattle.qa_sender.proofs.connection.sampling.sent_at.Given as goal

abbrev pub invariant-loop-packet : goal.invariant-loop-packet
invariant-loop-packet l = l.sent ≡ sent_at l.number (take l.packet-index l.packets)
