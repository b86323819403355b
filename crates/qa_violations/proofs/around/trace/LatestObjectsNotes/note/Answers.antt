use Rattle.std.proofs.Common.{◌∙◌, ◌∷◌, ◌++◌, [], ap, refl}
use Rattle.qa_violations.proofs.around_lemmas.Noted.{on_ok_both}
use Rattle.qa_violations.proofs.around_lemmas.Rows.{rows_headless, rows_more}
use Rattle.qa_violations.specs.around.Rows.{last_of, object_of, objects}
use Rattle.qa_base.specs.machine.Packets.{history_of}
use Rattle.qa_format.proofs.format.ProperReadings.{reading_fits}
use Rattle.qa_format.specs.format.Reading.{reading}
use Rattle.qa_format.specs.verdicts.Verdict.{events_in}
use Rattle.qa_violations.proofs.around.trace.LatestObjectsNotes.note.Goals as goal

pub note_said-requires : goal.note_said-requires
note_said-requires g c =
    let works = rw c.in-Some.is at c.requires.works in
    record { fitting = reading_fits c.args._line.now c.args.said.now c.requires.says; works = works c.in-Some.judge.now refl }

pub returns-in-Some : goal.returns-in-Some
returns-in-Some g c =
    on_ok_both c.note_said.result _ _ _ c.note_said.ensures.count c.note_said.ensures.kept (λ count kept begun ls covers number held.
    let run = rw c.in-Some.is at held in
    let all = ls ++ c.args._line.now ∷ [] in
    let more = rows_more object_of ls c.args._line.now c.args.said.now c.args.n run.0 c.requires.says number run.1 in
    (count ∙ covers.0, kept (objects ls) run.0 (history_of (events_in reading all)) covers.1 run.2 ∙ ap (last_of c.note_said.new.self.count) more))

pub returns-in-None : goal.returns-in-None
returns-in-None g c = λ begun ls covers number held.
    let none = rw c.in-None.is at held in
    (covers.0, covers.1 ∙ ap (last_of c.args.self.now.count) (rows_headless object_of ls c.args._line.now none.0))
