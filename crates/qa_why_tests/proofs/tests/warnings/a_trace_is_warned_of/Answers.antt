use Rattle.std.proofs.Common.{ℕ, [], ◌∷◌}
use Rattle.qa_why_tests.proofs.tests.warnings.a_trace_is_warned_of.Goals as goal

-- notes that no line was taken of cover the lines of no trace, under each name; "a" is 97
pub why_around-told-requires : goal.why_around-told-requires
why_around-told-requires g c = record { fresh = c.new-notes.ensures (97 ∷ []) }
