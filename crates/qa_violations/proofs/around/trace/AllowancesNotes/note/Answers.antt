use Rattle.std.proofs.Common.{List, refl, subst}
use Rattle.qa_base.specs.declared.event.Event.{Event}
use Rattle.qa_format.specs.format.Reading.{reading}
use Rattle.qa_format.specs.verdicts.Verdict.{header_in}
use Rattle.qa_violations.proofs.allowed_lemmas.Lines.{covers_headless, covers_more, header_said_so, history_said}
use Rattle.qa_violations.specs.all.Violated.{history_in}
use Rattle.qa_violations.specs.allowed.Lines.{all_allowed, all_lates, each}
use Rattle.qa_violations.proofs.around.trace.AllowancesNotes.note.Goals as goal

pub note_said-requires : goal.note_said-requires
note_said-requires g c =
    let works = rw c.in-Some.is at c.requires.works in
    record { works = works c.in-Some.judge.now refl }

pub returns-in-Some : goal.returns-in-Some
returns-in-Some g c = λ begun ls covers number held.
    let run = rw c.in-Some.is at held in
    let line = c.args._line.now in
    let said = c.args.said.now in
    let stands = subst (λ (h : List Event). g.L.Ledger.stands c.in-Some.judge.now run.0 h) (history_said ls line said c.requires.says) run.2 in
    let kept = c.note_said.ensures (header_in reading ls) run.0 (history_in ls) (all_allowed each ls) (all_lates each ls) covers.0 (header_said_so ls line said run.0 c.requires.says run.1) stands covers.1 in
    covers_more each c.note_said.new.self ls line said c.args.n run.0 c.requires.says number run.1 kept.0 kept.1

pub returns-in-None : goal.returns-in-None
returns-in-None g c = λ begun ls covers number held.
    let none = rw c.in-None.is at held in
    covers_headless each c.args.self.now ls c.args._line.now none.0 none.1 covers
