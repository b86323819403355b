use Rattle.std.proofs.Common.{◌≡◌, ◌∙◌, ◌++◌, Bool, List, ap, refl, subst, sym}
use Rattle.qa_base.specs.declared.event.Event.{Event}
use Rattle.qa_check.specs.Standing.{history_after}
use Rattle.qa_format.specs.format.Reading.{reading}
use Rattle.qa_format.specs.verdicts.Verdict.{header_in}
use Rattle.qa_violations.proofs.allowed_lemmas.Begin.{nil_is}
use Rattle.qa_violations.proofs.allowed_lemmas.Lines.{covers_headless, covers_more, header_said_so, history_said}
use Rattle.qa_violations.specs.all.Tolerating.{latest_of, unviolated}
use Rattle.qa_violations.specs.all.Violated.{history_in}
use Rattle.qa_violations.specs.allowed.Keeping.{Tallies}
use Rattle.qa_violations.specs.allowed.Lines.{all_allowed, all_lates, allowed_said, lates_said}
use Rattle.qa_violations.specs.declared.all.tolerating.Violation.{Violation}
use Rattle.qa_violations.specs.table.Table.{is_nil}
use Rattle.qa_violations.proofs.all.unviolated.UnviolatedNotesTolerating.note.Goals as goal

pub note_said-requires : goal.note_said-requires
note_said-requires g c =
    let works = rw c.in-Some.is at c.requires.works in
    record { works = c.ledger.ensures.works (works c.in-Some.judge.now refl) }

pub returns-in-Some : goal.returns-in-Some
returns-in-Some g c = λ begun ls covers number held.
    let run = rw c.in-Some.is at held in
    let line = c.args._line.now in
    let said = c.args.said.now in
    let allowances = c.note_said.new.self in
    let behind = history_said ls line said c.requires.says in
    let h = history_after (history_in ls) said in
    let latest : c.in-Some.judge.now.latest ≡ latest_of run.0 h = run.2.1 ∙ ap (latest_of run.0) behind in
    let counts : c.is_empty-counts.result ≡ unviolated run.0 h = c.is_empty-counts.ensures ∙ (nil_is c.latest.result.now ∙ ap (λ (xs : List Violation). is_nil xs) (c.latest.ensures.latest ∙ latest)) in
    let ledger = subst (λ (k : List Event). g.L.Ledger.stands c.in-Some.judge.now.ledger run.0 k) behind run.2.0 in
    let stands = subst (λ l. g.L.Ledger.stands l run.0 h) (sym c.ledger.ensures.ledger) ledger in
    let kept = c.note_said.ensures (header_in reading ls) run.0 (history_in ls) (all_allowed unviolated ls) (all_lates unviolated ls) covers.0 (header_said_so ls line said run.0 c.requires.says run.1) stands covers.1 in
    let tallies = subst (λ (b : Bool). Tallies allowances.tally (all_allowed unviolated ls ++ allowed_said b c.args.n said run.0 h) (all_lates unviolated ls ++ lates_said b c.args.n said run.0 h)) counts kept.1 in
    covers_more unviolated allowances ls line said c.args.n run.0 c.requires.says number run.1 kept.0 tallies

pub returns-in-None : goal.returns-in-None
returns-in-None g c = λ begun ls covers number held.
    let none = rw c.in-None.is at held in
    covers_headless unviolated c.args.self.now.allowances ls c.args._line.now none.0 none.1 covers
