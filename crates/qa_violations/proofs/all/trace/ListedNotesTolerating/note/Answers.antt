use Rattle.std.proofs.Common.{◌∙◌, ◌∷◌, ◌++◌, [], ap, refl}
use Rattle.std.proofs.lemmas.Result.{on_ok_weaker}
use Rattle.qa_violations.proofs.all_lemmas.Told.{before_more, before_no_more, covers_headless, covers_more, violated_more, violated_no_more}
use Rattle.qa_violations.specs.all.Violated.{all_violated, history_in, lines_before}
use Rattle.qa_violations.specs.all.Keeping.{Lists}
use Rattle.qa_violations.proofs.around_lemmas.Rows.{rows_headless, rows_more}
use Rattle.qa_violations.specs.around.Rows.{last_of, object_of, objects}
use Rattle.qa_format.proofs.format.ProperReadings.{reading_fits}
use Rattle.qa_violations.proofs.all.trace.ListedNotesTolerating.note.Goals as goal

pub note_said-requires : goal.note_said-requires
note_said-requires g c =
    let works = rw c.in-Some.is at c.requires.works in
    record { fitting = reading_fits c.args._line.now c.args.said.now c.requires.says; works = works c.in-Some.judge.now refl }

pub returns-in-Some : goal.returns-in-Some
returns-in-Some g c =
    on_ok_weaker c.note_said.result (λ noted begun ls covers number held.
    let run = rw c.in-Some.is at held in
    let new = c.note_said.new.self in
    let line = c.args._line.now in
    let all = ls ++ line ∷ [] in
    let h = history_in all in
    let kept = noted begun.latest.count (objects (lines_before (all_violated ls) ls)) ls line (all_violated ls) run.0 h covers.1 covers.0 run.2 in
    let more = rows_more object_of ls line c.args.said.now c.args.n run.0 c.requires.says number run.1 in
    let before = before_more (all_violated ls) c.args.n ls all line c.args.said.now run.0 h (object_of c.args.n c.args.said.now run.0 h) more in
    let violated = violated_more ls line c.args.said.now c.args.n run.0 c.requires.says run.1 number in
    let rest = covers_more (Lists new) new.unit new.events ls line c.args.said.now c.args.n run.0 c.requires.says run.1 number kept.1 kept.2 kept.3 in
    ((kept.0.0, kept.0.1 ∙ ap (last_of new.latest.count) (before ∙ ap (λ ds. objects (lines_before ds all)) violated)), rest.0, rest.1, rest.2)) c.note_said.ensures

pub returns-in-None : goal.returns-in-None
returns-in-None g c = λ begun ls covers number held.
    let none = rw c.in-None.is at held in
    let old = c.args.self.now in
    let line = c.args._line.now in
    let all = ls ++ line ∷ [] in
    let before = before_no_more (all_violated ls) ls all (rows_headless object_of ls line none.0) ∙ ap (λ ds. objects (lines_before ds all)) (violated_no_more ls line none.0) in
    let rest = covers_headless (Lists old) old.unit old.events ls line none.0 none.1 (covers.1, covers.2, covers.3) in
    ((covers.0.0, covers.0.1 ∙ ap (last_of old.latest.count) before), rest.0, rest.1, rest.2)
