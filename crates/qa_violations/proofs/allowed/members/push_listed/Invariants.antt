use Rattle.std.proofs.Common.{◌≡◌, ◌++◌, [], drop}
use Rattle.qa_violations.specs.allowed.Members.{listed}
use Rattle.qa_violations.proofs.allowed.members.push_listed.Given as goal

abbrev pub invariant-loop-key : goal.invariant-loop-key
invariant-loop-key l = l.out.items ++ listed l.separator (drop l.key-index l.keys) ≡ l.initial.out.items ++ listed [] l.keys
