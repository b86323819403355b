use Rattle.std.proofs.Common.{◌∙◌, ◌++◌, ap}
use Rattle.qa_why.specs.caveats.Caveats.{caveats, history_in, note_text}
use Rattle.qa_why.specs.caveats.Guesses.{guesses}
use Rattle.qa_why.proofs.caveats_lemmas.Noted.{on_ok, texts_held, three_pushed}
use Rattle.qa_why.proofs.caveats.caveats.Caveats.push.Goals as goal

pub returns : goal.returns
unfolding caveats
returns c = on_ok c.push_note.result _ _ c.push_note.ensures (λ note. λ ls held.
    three_pushed _ _ _ _ _ _ _ (c.in_ok-push_before.ensures (guesses ls) held.0)
    (c.in_ok-push_lost.ensures ∙ ap (λ x. c.push_before.new.out.items ++ x) (texts_held c.args.self.now.missing (history_in ls) held.1 c.args.rule))
    (note ∙ ap (λ h. c.push_lost.new.out.items ++ note_text h) held.2))
