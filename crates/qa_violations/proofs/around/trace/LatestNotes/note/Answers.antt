use Rattle.std.proofs.Common.{◌∙◌, ◌∷◌, ◌++◌, [], ap}
use Rattle.qa_violations.proofs.around_lemmas.Noted.{on_ok_both}
use Rattle.qa_violations.proofs.around_lemmas.Rows.{rows_headless, rows_more}
use Rattle.qa_violations.specs.around.Rows.{last_of, row_of, rows}
use Rattle.qa_base.specs.machine.Packets.{history_of}
use Rattle.qa_format.specs.format.Reading.{reading}
use Rattle.qa_format.specs.verdicts.Verdict.{events_in}
use Rattle.qa_violations.proofs.around.trace.LatestNotes.note.Goals as goal

pub returns-in-Some : goal.returns-in-Some
returns-in-Some g c =
    on_ok_both c.note_said.result _ _ _ c.note_said.ensures.count c.note_said.ensures.kept (λ count kept begun ls covers number held.
    let run = rw c.in-Some.is at held in
    let all = ls ++ c.args._line.now ∷ [] in
    let more = rows_more row_of ls c.args._line.now c.args.said.now c.args.n run.0 c.requires.says number run.1 in
    (count ∙ covers.0, kept (rows ls) run.0 (history_of (events_in reading all)) covers.1 run.2 ∙ ap (last_of c.note_said.new.self.count) more))

pub returns-in-None : goal.returns-in-None
returns-in-None g c = λ begun ls covers number held.
    let none = rw c.in-None.is at held in
    (covers.0, covers.1 ∙ ap (last_of c.args.self.now.count) (rows_headless row_of ls c.args._line.now none.0))
