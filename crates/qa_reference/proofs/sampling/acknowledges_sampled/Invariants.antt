use Rattle.std.proofs.Common.{◌≡◌, take, filter}
use Rattle.std.specs.List.{list_any}
use Rattle.qa_base.specs.machine.Packets.{history_of, packets, is_newly_acknowledged}
use Rattle.qa_base.specs.machine.Rtt.{gives_sample}
use Rattle.qa_reference.proofs.sampling.acknowledges_sampled.Given as goal

abbrev pub invariant-loop-place : goal.invariant-loop-place
invariant-loop-place l = l.found ≡ list_any (gives_sample l.only l.largest) (filter (is_newly_acknowledged l.event (history_of l.before)) (packets (history_of (take l.place l.before))))
