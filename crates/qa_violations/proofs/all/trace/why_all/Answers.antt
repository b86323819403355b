use Rattle.std.proofs.Common.{◌≡◌, ◌∙◌, Bool, List, ℕ, ap, ap₂, subst, sym}
use Rattle.std.specs.Io.KnownBytes.{Appends}
use Rattle.qa_violations.proofs.all_lemmas.Staying.{told_outcome, told_strict, told_text}
use Rattle.qa_violations.specs.all.All.{all_outcome, all_strict, all_written, past_sender_rules}
use Rattle.qa_violations.specs.allowed.Rests.{unless_quiet}
use Rattle.qa_check.specs.declared.auditing.Outcome.{Outcome}
use Rattle.qa_why.proofs.Told.{told_good}
use Rattle.qa_why.specs.Why.{whole}
use Rattle.qa_violations.proofs.all.trace.why_all.Goals as goal

pub returns-clause-told : goal.returns-clause-told
returns-clause-told g c = λ bytes tells.
    let found = c.in_ok-told.ensures.told in
    let outcome : c.in_ok-all.all.outcome ≡ all_outcome bytes = c.in_ok-all.ensures.whole.1 ∙ (found.3 ∙ sym (told_outcome _ _ found.0 bytes tells found.1)) in
    let strict : c.in_ok-told.told.is_strict ≡ all_strict bytes = found.4 ∙ sym (told_strict _ _ found.0 bytes tells found.1) in
    let words = told_text c.args.manner.around c.args.manner.form c.args.name.now _ _ found.0 bytes tells found.1 in
    let all : c.unless_quiet.result.now ≡ all_written c.args.manner c.args.name.now bytes =
    c.unless_quiet.ensures
    ∙ (ap₂ (λ (kind : Outcome) (is : Bool). unless_quiet c.args.manner.quiet kind is c.deref.result.now) outcome strict
    ∙ ap (unless_quiet c.args.manner.quiet (all_outcome bytes) (all_strict bytes)) (c.deref.ensures.value ∙ (c.in_ok-all.ensures.whole.0 ∙ ap (whole c.args.manner.form c.args.name.now) (found.2 ∙ sym words)))) in
    let good = told_good past_sender_rules _ _ found.0 bytes tells found.1 in (
      (subst (λ (text : List ℕ). Appends (g.W.Sink.held c.args.writer.now) (g.W.Sink.held c.write_whole.new.writer) text) all c.in_ok-write_whole.ensures.ok, outcome),
      subst (λ (ls : List (List ℕ)). g.N.Notes.covers c.args.name.now c.args.notes c.in_ok-told.notes ls) (sym good) found.5,
    )
