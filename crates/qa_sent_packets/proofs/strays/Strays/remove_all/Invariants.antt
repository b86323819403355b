use Rattle.std.proofs.Common.{◌≡◌, drop}
use Rattle.qa_sent_packets.specs.Strays.{without}
use Rattle.qa_sent_packets.proofs.strays.Strays.remove_all.Given as goal

abbrev pub invariant-loop-packet : goal.invariant-loop-packet
invariant-loop-packet l = without (drop l.packet-index l.gone) l.self ≡ without l.gone l.fn.self
