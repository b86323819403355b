use Rattle.std.proofs.Common.{◌≡◌, take}
use Rattle.qa_convert.specs.Losing.{lost_in, packets_of}
use Rattle.qa_convert.proofs.receiving.losses_in.Given as goal

abbrev pub invariant-loop-event : goal.invariant-loop-event
invariant-loop-event l = packets_of l.losses.items ≡ lost_in (take l.event-index l.events)
