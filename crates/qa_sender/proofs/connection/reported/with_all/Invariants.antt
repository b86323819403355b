use Rattle.std.proofs.Common.{◌≡◌, take, fold}
use Rattle.qa_sender.specs.connection.Reporting.{with_bytes}
use Rattle.qa_sender.proofs.connection.reported.with_all.Given as goal

abbrev pub invariant-loop-packet : goal.invariant-loop-packet
invariant-loop-packet l = l.bytes ≡ fold with_bytes l.fn.before (take l.packet-index l.packets)
