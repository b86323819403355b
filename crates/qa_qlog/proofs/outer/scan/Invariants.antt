use Rattle.std.proofs.Common.{◌≡◌, ◌-◌, ◌≤◌, drop, length}
use Rattle.qa_qlog.specs.Outer.{further, scanned}
use Rattle.qa_qlog.proofs.outer.scan.Given as goal

abbrev pub invariant-loop-byte : goal.invariant-loop-byte
invariant-loop-byte l = (scanned l.fn.position l.bytes ≡ further l.len (scanned l.now (drop l.len l.bytes))) × (l.len ≤ length l.bytes)

abbrev pub decreases-loop-byte : goal.decreases-loop-byte
decreases-loop-byte l = length l.bytes - l.len
