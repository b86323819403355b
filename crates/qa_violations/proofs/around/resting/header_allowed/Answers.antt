use Rattle.std.proofs.Common.{[]}
use Rattle.qa_violations.proofs.around.resting.header_allowed.Goals as goal

pub why_around-requires : goal.why_around-requires
why_around-requires g c = record { fresh = c.new-notes.ensures [] }
