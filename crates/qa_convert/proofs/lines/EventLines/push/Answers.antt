use Rattle.std.proofs.Common.{◌≡◌, ◌∙◌, ℕ, List, ap, subst, sym}
use Rattle.std.specs.Prelude.{OnOk}
use Rattle.serde_json.specs.View.{members_view}
use Rattle.qa_format.specs.declared.line.Line.TheVariants as lines
use Rattle.qa_format.specs.format.Written.{written}
use Rattle.qa_convert.specs.Marks.{marks_in}
use Rattle.qa_convert.specs.OwnKeys.{noted, own_text, with_own}
use Rattle.qa_convert.specs.Telling.{told, with_event}
use Rattle.qa_convert.proofs.Spliced.{noted_with, with_line}
use Rattle.qa_convert.proofs.lines.EventLines.push.Goals as goal

pub returns-clause-ok : goal.returns-clause-ok
returns-clause-ok c =
    let x = lines.Event c.args.event in
    let own = members_view c.args.own.entries in
    let keys : c.as_bytes.result.now ≡ own_text own = c.as_bytes.ensures.value ∙ c.in_ok-text.ensures in
    with_line c.push_text.result c.args.self.now c.push_text.new.self (with_own (written x) c.as_bytes.result.now) (noted x own)
    (ap (with_own (written x)) keys ∙ sym (noted_with x own)) c.push_text.ensures.ok

pub returns-clause-told : goal.returns-clause-told
returns-clause-told c =
    let keys : c.as_bytes.result.now ≡ own_text (members_view c.args.own.entries) = c.as_bytes.ensures.value ∙ c.in_ok-text.ensures in
    subst (λ (t : List ℕ). OnOk c.push_text.result (told c.push_text.new.self ≡ with_event (told c.args.self.now) (marks_in t) c.args.event))
    keys c.push_text.ensures.told
