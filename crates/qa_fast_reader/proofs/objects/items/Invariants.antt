use Rattle.std.proofs.Common.{List, ℕ, [], map}
use Rattle.serde_json.specs.View.{view}
use Rattle.qa_scan.specs.Lexes.{deepest}
use Rattle.qa_fast_reader.specs.Items.{FollowsItems}
use Rattle.qa_fast_reader.proofs.objects.items.Given as goal

abbrev pub invariant-loop-i : goal.invariant-loop-i
invariant-loop-i l = (whole : List ℕ) → FollowsItems deepest [] whole l.fn.bytes → FollowsItems deepest (map view l.into.items) whole l.rest
