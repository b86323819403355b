use Rattle.std.proofs.Common.{◌≡◌, ◌++◌, Option, Some, subst, sym}
use Rattle.qa_base.specs.values.Settings.{Settings}
use Rattle.qa_check.specs.Standing.{history_after}
use Rattle.qa_format.specs.declared.line.Line.{Line}
use Rattle.qa_violations.proofs.allowed_lemmas.Begin.{said_no_event}
use Rattle.qa_violations.specs.allowed.Keeping.{IsAt, IsHeaderAfter, Tallies}
use Rattle.qa_violations.specs.allowed.Lines.{allowed_said, lates_said}
use Rattle.qa_violations.proofs.allowed.allowances.Allowances.note_said.Goals as goal

pub returns-in-Header : goal.returns-in-Header
returns-in-Header g c = λ old header h fs lates at after stands tallies.
    let is = c.in-Header.is in
    let behind = subst (λ (l : Line). IsHeaderAfter old l header) is after in
    let stood = subst (λ (l : Line). g.L.Ledger.stands c.args.ledger.now header (history_after h l)) is stands in
    said_no_event c.begin.new.self c.args.self.now.tally c.args.said.now c.in-Header.header c.args.counts c.args.n header h fs lates is (c.begin.ensures.at old header h at behind stood) c.begin.ensures.tally tallies

pub returns-in-Event : goal.returns-in-Event
returns-in-Event g c = λ old header h fs lates at after stands tallies.
    let is = c.in-Event.is in
    let behind : old ≡ Some header = subst (λ (l : Line). IsHeaderAfter old l header) is after in
    let stood = subst (λ (l : Line). g.L.Ledger.stands c.args.ledger.now header (history_after h l)) is stands in
    let kept = c.note_event.ensures header h fs lates (subst (λ (o : Option Settings). IsAt c.args.self.now o h) behind at) stood tallies in
    subst (λ (l : Line). IsAt c.note_event.new.self (Some header) (history_after h l)
    × Tallies c.note_event.new.self.tally (fs ++ allowed_said c.args.counts c.args.n l header (history_after h l)) (lates ++ lates_said c.args.counts c.args.n l header (history_after h l))) (sym is) kept
