use Rattle.std.proofs.Common.{◌≡◌, ◌++◌, [], map}
use Rattle.std.specs.VecDeque.Iter.{deque_iter_rest}
use Rattle.qa_violations.specs.around.Members.{listed}
use Rattle.qa_violations.proofs.around.objects.push_objects.Given as goal

abbrev pub invariant-loop-object : goal.invariant-loop-object
invariant-loop-object l =
    l.out.items ++ listed l.separator (map (λ object. object.items) (deque_iter_rest l.object-iterator)) ≡ l.initial.out.items ++ listed [] (map (λ object. object.items) l.objects.items)
