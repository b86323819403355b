use Rattle.std.proofs.Common.{◌∙◌, ◌++◌, ℕ, List, ap}
use Rattle.std.specs.Prelude.{codes}
use Rattle.qa_why_command.specs.warnings.Texts.{packet_text}
use Rattle.qa_explain.specs.text.Pieces.{numbered}
use Rattle.qa_explain.specs.text.Subjects.{subject}
use Rattle.qa_why_command.proofs.warnings.texts.packet_text.Goals as goal

pub returns : goal.returns
unfolding packet_text
returns c =
    let e = c.args.event.now in
    let first = c.in_ok-push_subject.ensures ∙ ap (λ (t : List ℕ). t ++ subject e) c.new-told.ensures.bytes in
    let second = c.in_ok-push_number.ensures ∙ ap (λ (t : List ℕ). t ++ numbered (codes " has ") c.args.size) first in
    let third = c.in_ok-push_number-2.ensures ∙ ap (λ (t : List ℕ). t ++ numbered (codes " bytes, more than max_datagram_size ") c.args.most) second in
    c.in_ok-push_words.ensures ∙ ap (λ (t : List ℕ). t ++ codes "\n") third
