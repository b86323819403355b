use Rattle.std.proofs.Common.{◌≡◌, ◌∙◌, ap, subst}
use Rattle.std.specs.Prelude.{OnOk}
use Rattle.serde_json.specs.Data.{Members}
use Rattle.qa_convert.proofs.Marked.{says_guessed}
use Rattle.qa_convert.specs.Marks.{Marks, marks_in}
use Rattle.qa_convert.specs.OwnKeys.{AreOwn, own_text}
use Rattle.qa_convert.specs.Telling.{told, with_event}
use Rattle.qa_convert.proofs.output.Output.push.Goals as goal

pub returns-then-self-clause-told : goal.returns-then-self-clause-told
returns-then-self-clause-told c =
    let s = c.args.self.now in
    let keys = c.in_ok-own.ensures.keys in
    let are = subst (λ (ms : Members). AreOwn ms) keys c.in_ok-own.ensures.own in
    subst (λ (marks : Marks). OnOk c.push.result (told c.push.new.self ≡ with_event (told s.text) marks c.args.event))
    (ap (λ (ms : Members). marks_in (own_text ms)) keys ∙ says_guessed s.has_places c.args.first c.args.last s.guesses.items are)
    c.push.ensures.told
