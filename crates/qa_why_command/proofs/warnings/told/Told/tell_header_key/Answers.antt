use Rattle.std.proofs.Common.{◌∙◌, ◌++◌, [], ◌∷◌, ℕ, List, ap, refl, sym}
use Rattle.std.proofs.lemmas.List.{append-nil}
use Rattle.qa_why_command.specs.warnings.Found.{HeaderKey, at}
use Rattle.qa_why_command.specs.warnings.Texts.{sentence}
use Rattle.qa_why_command.specs.warnings.Warnings.{told}
use Rattle.qa_why_command.proofs.warnings_lemmas.Telling.{full_stays, no_header, one_more, or_none}
use Rattle.qa_why_command.proofs.warnings.told.Told.tell_header_key.Goals as goal

pub returns-then-is_full : goal.returns-then-is_full
returns-then-is_full c = λ fs tells.
    full_stays c.args.name.now c.args.self.now fs (at c.args.n (HeaderKey c.args.version c.args.key.now) ∷ []) (sym c.is_full.ensures ∙ c.if-is_full.true) tells

pub returns : goal.returns
returns c = λ fs tells.
    let concern = HeaderKey c.args.version c.args.key.now in
    let text = c.in_ok-push_header_key.ensures ∙ ap (λ (t : List ℕ). t ++ sentence concern) c.in_ok-push_head.ensures in
    one_more c.args.name.now _ _ _ _ _ _ _ _ fs (at c.args.n concern) (sym c.is_full.ensures ∙ c.if-is_full.false)
    (no_header (told fs) c.args.n c.args.version c.args.key.now) tells text refl (sym (append-nil _)) (or_none _)
