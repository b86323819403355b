use Rattle.std.proofs.Common.{◌≡◌, take, fold}
use Rattle.qa_sender.specs.connection.Steps.{grown_by}
use Rattle.qa_sender.proofs.connection.congestion.grow.Given as goal

abbrev pub invariant-loop-packet : goal.invariant-loop-packet
invariant-loop-packet l = l.reno ≡ fold (grown_by l.fn.header) l.fn.reno (take l.packet-index l.packets)
