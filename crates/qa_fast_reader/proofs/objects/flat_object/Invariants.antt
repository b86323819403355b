use Rattle.serde_json.specs.View.{members_view}
use Rattle.qa_fast_reader.specs.Found.{FollowsMembers}
use Rattle.qa_fast_reader.proofs.objects.flat_object.Given as goal

abbrev pub invariant-loop-i : goal.invariant-loop-i
invariant-loop-i l = FollowsMembers (members_view l.found.entries) l.bytes l.rest
