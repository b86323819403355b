use Rattle.std.proofs.Common.{◌≡◌, ◌++◌, string_bytes}
use Rattle.std.specs.VecDeque.Iter.{deque_iter_rest}
use Rattle.qa_violations.specs.around.Texts.{each_text}
use Rattle.qa_violations.proofs.around.latest.push_each.Given as goal

abbrev pub invariant-loop-row : goal.invariant-loop-row
invariant-loop-row l = string_bytes l.out ++ each_text (deque_iter_rest l.row-iterator) ≡ string_bytes l.initial.out ++ each_text l.rows.items
