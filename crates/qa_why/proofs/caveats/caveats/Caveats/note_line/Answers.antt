use Rattle.std.proofs.Common.{◌∙◌, [], ◌∷◌, ◌++◌, ap, subst, sym}
use Rattle.qa_base.specs.values.PerSpace.{of_space}
use Rattle.qa_why.specs.caveats.Caveats.{header_behind}
use Rattle.qa_why.specs.caveats.Guesses.{AreNoted, guesses}
use Rattle.qa_why.proofs.caveats_lemmas.Noted.{guesses_noted, header_noted, missing_said, on_ok}
use Rattle.qa_why.proofs.caveats.caveats.Caveats.note_line.Goals as goal

pub returns : goal.returns
returns c = on_ok c.note_said.result _ _ c.note_said.ensures.header (λ header. λ ls held count.
    let l = c.args.line.now in (
      subst (λ g. AreNoted g (guesses (ls ++ l ∷ []))) (sym c.note_said.ensures.guesses) (guesses_noted c.note.new.self ls l c.args.n count (c.in_ok-note.ensures (guesses ls) held.0)),
      (λ s. ap (of_space s) c.note_said.ensures.missing ∙ missing_said ls l c.args.said.now c.args.self.now.missing c.requires.says held.1 s),
      header ∙ (ap (λ h. header_behind h l c.args.said.now) held.2 ∙ header_noted ls l c.args.said.now c.requires.says),
    ))
