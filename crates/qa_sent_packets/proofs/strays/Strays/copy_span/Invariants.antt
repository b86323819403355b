use Rattle.std.proofs.Common.{◌≡◌, ◌++◌, filter}
use Rattle.qa_sent_packets.specs.Covering.{is_between}
use Rattle.qa_sent_packets.specs.Strays.{filed}
use Rattle.qa_sent_packets.proofs.strays.Strays.copy_span.Given as goal

abbrev pub invariant-loop-packet : goal.invariant-loop-packet
invariant-loop-packet l = l.found.items ++ filed l.packet-iterator ≡ l.fn.found.items ++ filter (λ p. is_between l.lo l.hi p.number) l.self
