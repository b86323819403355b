use Rattle.std.proofs.Common.{◌∙◌, ◌∷◌, ◌++◌, [], ap, refl}
use Rattle.std.proofs.lemmas.Result.{on_ok_weaker}
use Rattle.qa_violations.proofs.all_lemmas.Told.{covers_headless, covers_more}
use Rattle.qa_violations.specs.all.Violated.{all_violated, history_in}
use Rattle.qa_violations.specs.all.Keeping.{Keeps}
use Rattle.qa_violations.proofs.around_lemmas.Rows.{rows_headless, rows_more}
use Rattle.qa_violations.specs.around.Rows.{last_of, row_of}
use Rattle.qa_violations.proofs.all.trace.KeptNotesTolerating.note.Goals as goal

pub note_said-requires : goal.note_said-requires
note_said-requires g c =
    let works = rw c.in-Some.is at c.requires.works in
    record { works = works c.in-Some.judge.now refl }

pub returns-in-Some : goal.returns-in-Some
returns-in-Some g c =
    on_ok_weaker c.note_said.result (λ noted begun ls covers number held.
    let run = rw c.in-Some.is at held in
    let new = c.note_said.new.self in
    let kept = noted begun.latest.count ls (all_violated ls) run.0 (history_in (ls ++ c.args.line.now ∷ [])) covers.1 covers.0 run.2 in
    let more = rows_more row_of ls c.args.line.now c.args.said.now c.args.n run.0 c.requires.says number run.1 in
    let rest = covers_more (Keeps begun.latest.count c.args.name.now new) new.unit new.events ls c.args.line.now c.args.said.now c.args.n run.0 c.requires.says run.1 number kept.1 kept.2 kept.3 in
    ((kept.0.0, kept.0.1 ∙ ap (last_of new.latest.count) more), rest.0, rest.1, rest.2)) c.note_said.ensures

pub returns-in-None : goal.returns-in-None
returns-in-None g c = λ begun ls covers number held.
    let none = rw c.in-None.is at held in
    let old = c.args.self.now in
    let rest = covers_headless (Keeps begun.latest.count c.args.name.now old) old.unit old.events ls c.args.line.now none.0 none.1 (covers.1, covers.2, covers.3) in
    ((covers.0.0, covers.0.1 ∙ ap (last_of old.latest.count) (rows_headless row_of ls c.args.line.now none.0)), rest.0, rest.1, rest.2)
