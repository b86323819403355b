use Rattle.std.proofs.Common.{◌+◌, ◌*◌, ◌<◌, List, ℕ}
use Rattle.serde_json.specs.Data.{Data, Members}
use Rattle.qa_fast_reader.specs.Items.{FollowsItems, FollowsMembersWithin}
use Rattle.qa_fast_reader.proofs.unknown.+values.Given as goal

abbrev pub decreases-value : goal.decreases-value
decreases-value l = 4 * l.depth + 2

abbrev pub decreases-list : goal.decreases-list
decreases-list l = 4 * l.depth + 1

abbrev pub decreases-list_end : goal.decreases-list_end
decreases-list_end l = 4 * l.depth + 4

abbrev pub decreases-object : goal.decreases-object
decreases-object l = 4 * l.depth + 1

abbrev pub decreases-object_end : goal.decreases-object_end
decreases-object_end l = 4 * l.depth + 4

abbrev pub decreases-member : goal.decreases-member
decreases-member l = 4 * l.depth + 3

abbrev pub invariant-list_end-loop-i : goal.invariant-list_end-loop-i
invariant-list_end-loop-i l = (d : ℕ) (whole : List ℕ) (seen : List Data) → l.fn.depth < d → FollowsItems d seen whole l.fn.bytes → (now : List Data) × FollowsItems d now whole l.rest

abbrev pub invariant-object_end-loop-i : goal.invariant-object_end-loop-i
invariant-object_end-loop-i l =
    (d : ℕ) (whole : List ℕ) (seen : Members) → l.fn.depth < d → FollowsMembersWithin d seen whole l.fn.bytes → (now : Members) × FollowsMembersWithin d now whole l.rest
