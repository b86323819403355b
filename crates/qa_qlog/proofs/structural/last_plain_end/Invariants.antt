use Rattle.std.proofs.Common.{◌≡◌, ◌+◌, ◌-◌, ◌≤◌, drop, length}
use Rattle.std.specs.List.{prefix_len}
use Rattle.qa_qlog.specs.Outer.{is_plain}
use Rattle.qa_qlog.proofs.structural.last_plain_end.Given as goal

-- the run from the first place on ends where the run from this one on does
abbrev pub invariant-loop-place : goal.invariant-loop-place
invariant-loop-place l =
    (l.from + prefix_len is_plain (drop l.from l.bytes) ≡ l.place + prefix_len is_plain (drop l.place l.bytes)) × (l.place ≤ length l.bytes)

abbrev pub decreases-loop-place : goal.decreases-loop-place
decreases-loop-place l = length l.bytes - l.place
