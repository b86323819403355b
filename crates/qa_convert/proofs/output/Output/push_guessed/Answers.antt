use Rattle.std.proofs.Common.{◌≡◌, ◌∙◌, ◌==◌, List, [], ◌∷◌, true, length, ap, refl, subst, sym, arith}
use Rattle.std.proofs.lemmas.Bool.Decides.{Decides-eqb}
use Rattle.std.specs.Prelude.{OnOk}
use Rattle.serde_json.specs.Data.{no_members}
use Rattle.qa_format.specs.declared.line.Line.TheVariants as lines
use Rattle.qa_format.specs.format.Written.{written}
use Rattle.qa_convert.specs.Marks.{Marks, marks_in}
use Rattle.qa_convert.specs.Outputs.{guessed, marks_of}
use Rattle.qa_convert.specs.OwnKeys.{noted, own_text, with_own}
use Rattle.qa_convert.specs.Telling.{told, with_event}
use Rattle.qa_convert.specs.declared.guess.Guess.{Guess}
use Rattle.qa_convert.proofs.Guessed.{guessed_are_own}
use Rattle.qa_convert.proofs.Marked.{guesses_said, no_marks}
use Rattle.qa_convert.proofs.Spliced.{noted_with, with_line}
use Rattle.qa_convert.proofs.output.Output.push_guessed.Goals as goal

pub push_text-requires-clause-own : goal.push_text-requires-clause-own
push_text-requires-clause-own c = (no_members, tt, refl)

pub returns-clause-ok : goal.returns-clause-ok
returns-clause-ok c =
    let x = lines.Event c.args.event in
    let own = guessed c.args.self.now.guesses.items no_members in
    let keys : c.as_bytes.result.now ≡ own_text own =
    c.as_bytes.ensures.text ∙ ap (λ gs. own_text (guessed gs no_members)) (c.in_ok-renew.ensures.ok ∙ c.deref.ensures.value) in
    with_line c.push_text-2.result c.args.self.now.text c.push_text-2.new.self (with_own (written x) c.as_bytes.result.now) (noted x own)
    (ap (with_own (written x)) keys ∙ sym (noted_with x own)) c.push_text-2.ensures.ok

pub returns-clause-told : goal.returns-clause-told
returns-clause-told c =
    let gs = c.args.self.now.guesses.items in
    let keys : c.as_bytes.result.now ≡ own_text (guessed gs no_members) =
    c.as_bytes.ensures.text ∙ ap (λ gs. own_text (guessed gs no_members)) (c.in_ok-renew.ensures.ok ∙ c.deref.ensures.value) in
    subst (λ (marks : Marks). OnOk c.push_text-2.result (told c.push_text-2.new.self ≡ with_event (told c.args.self.now.text) marks c.args.event))
    (ap marks_in keys ∙ guesses_said gs (guessed_are_own gs)) c.push_text-2.ensures.told

empty_of : (gs : List Guess) → length gs ≡ 0 → gs ≡ []
empty_of [] none = refl
empty_of (g ∷ gs) none = absurd (omega (arith, none))

pub returns-then-is_empty-clause-told : goal.returns-then-is_empty-clause-told
returns-then-is_empty-clause-told c =
    let gs = c.args.self.now.guesses.items in
    let few : (length gs == 0) ≡ true = sym (ap (λ n. n == 0) c.args.self.now.guesses.ok.0) ∙ (sym c.is_empty.ensures ∙ c.if-is_empty.true) in
    let none : gs ≡ [] = empty_of gs ((Decides-eqb (length gs) 0).0 few) in
    subst (λ (marks : Marks). OnOk c.push_text.result (told c.push_text.new.self ≡ with_event (told c.args.self.now.text) marks c.args.event))
    (no_marks ∙ sym (ap marks_of none)) c.push_text.ensures.told
