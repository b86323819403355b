use Rattle.qa_violations.proofs.allowed.tally.Tally.note_if.Goals as goal

pub returns-then-counts : goal.returns-then-counts
returns-then-counts c = λ fs lates tallies. rw c.if-counts.true (c.note.ensures fs lates tallies)
