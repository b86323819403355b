use Rattle.std.proofs.Common.{◌≡◌, ◌∙◌, ◌==◌, List, [], ◌∷◌, true, length, ap, sym, arith}
use Rattle.std.proofs.lemmas.Bool.Decides.{Decides-eqb}
use Rattle.serde_json.specs.Data.{Members}
use Rattle.serde_json.specs.View.{members_view}
use Rattle.qa_convert.proofs.Headed.{beside_note, listed_own}
use Rattle.qa_convert.specs.Headers.{own_say}
use Rattle.qa_convert.specs.Outputs.{has_guess}
use Rattle.qa_convert.specs.declared.guess.Guess.{Guess}
use Rattle.qa_convert.proofs.output.Output.header_keys.Goals.{else-not-is_empty, else-not-is_empty-2, then-not-is_empty+in_ok-put_guesses, then-not-is_empty-2+in_ok-put_texts}
use Rattle.qa_convert.proofs.output.Output.header_keys.Goals as goal

none_among : (g : Guess) (gs : List Guess) (own : Members) → length gs ≡ 0 → has_guess g gs ≡ true → own_say own g ≡ true
none_among g [] own none is = cc
none_among g (h ∷ gs) own none is = absurd (omega (arith, none))

pub returns-clause-guesses : goal.returns-clause-guesses
returns-clause-guesses c g is =
    let gs = c.args.self.now.guesses.items in
    let listed : own_say (members_view c.if-not-is_empty.own.entries) g ≡ true =
    elim c.if-not-is_empty.branch [
      | then-not-is_empty+in_ok-put_guesses w ↦
          ap (λ ks. own_say (members_view ks.entries) g) w.own-is
          ∙ ap (λ ms. own_say ms g) w.in_ok-put_guesses.ensures.ok
          ∙ listed_own g w.deref.result.now (members_view c.put_if_ascii.new.keys.entries) (ap (has_guess g) w.deref.ensures.value ∙ is)
      | else-not-is_empty w ↦
          let few : (length gs == 0) ≡ true = sym (ap (λ n. n == 0) c.args.self.now.guesses.ok.0) ∙ sym w.if-not-is_empty.ensures in
          ap (λ ks. own_say (members_view ks.entries) g) w.own-is
          ∙ none_among g gs (members_view c.put_if_ascii.new.keys.entries) ((Decides-eqb (length gs) 0).0 few) is
    ] in
    elim c.if-not-is_empty-2.branch [
      | then-not-is_empty-2+in_ok-put_texts w ↦
          let ok = w.in_ok-put_texts.ensures.ok in
          ap (λ ks. own_say (members_view ks.entries) g) w.own-is
          ∙ ap (λ ms. own_say ms g) ok.1
          ∙ beside_note g ok.0 (members_view c.if-not-is_empty.own.entries)
          ∙ listed
      | else-not-is_empty-2 w ↦ ap (λ ks. own_say (members_view ks.entries) g) w.own-is ∙ listed
    ]
