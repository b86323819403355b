use Rattle.std.proofs.Common.{◌∙◌, ◌++◌, [], ◌∷◌, ℕ, List, ap, refl, sym}
use Rattle.std.proofs.lemmas.List.{append-nil}
use Rattle.qa_why_command.specs.warnings.Found.{LargePacket, at}
use Rattle.qa_why_command.specs.warnings.Texts.{sentence}
use Rattle.qa_why_command.specs.warnings.Warnings.{told}
use Rattle.qa_why_command.proofs.warnings_lemmas.Telling.{again_stays, full_stays, one_more, or_some, same_packet}
use Rattle.qa_why_command.proofs.warnings.told.Told.tell_packet.Goals as goal

pub returns-then-is_full : goal.returns-then-is_full
returns-then-is_full c = λ fs tells.
    full_stays c.args.name.now c.args.self.now fs (at c.args.n (LargePacket c.args.event.now c.args.size c.args.most) ∷ []) (sym c.is_full.ensures ∙ c.if-is_full.true) tells

pub returns-then-self : goal.returns-then-self
returns-then-self c = λ fs tells.
    let same = same_packet (told fs) c.args.n c.args.event.now c.args.size c.args.most in
    again_stays c.args.name.now c.args.self.now fs (at c.args.n (LargePacket c.args.event.now c.args.size c.args.most)) (same ∙ (sym tells.3 ∙ c.if-self.true)) tells

pub returns : goal.returns
returns c = λ fs tells.
    let concern = LargePacket c.args.event.now c.args.size c.args.most in
    let same = same_packet (told fs) c.args.n c.args.event.now c.args.size c.args.most in
    let text = c.in_ok-push_packet.ensures ∙ ap (λ (t : List ℕ). t ++ sentence concern) c.in_ok-push_head.ensures in
    one_more c.args.name.now _ _ _ _ _ _ _ _ fs (at c.args.n concern) (sym c.is_full.ensures ∙ c.if-is_full.false)
    (same ∙ (sym tells.3 ∙ c.if-self.false)) tells text refl (sym (append-nil _)) (or_some _)
