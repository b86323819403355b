use Rattle.std.proofs.Common.{◌∙◌, ◌++◌, ap, codes}
use Rattle.qa_violations.specs.allowed.Members.{guessed_members, some_guesses_member}
use Rattle.qa_explain.proofs.text_lemmas.Pushed.{join, last}
use Rattle.qa_violations.proofs.allowed.members.push_some_guesses.Goals as goal

pub returns : goal.returns
unfolding some_guesses_member
returns c =
    let begun = c.args.out.now.items in
    let opened = c.extend.new.text.items in
    let told = c.extend-2.new.text.items in
    let members = guessed_members c.args.guessed in
    let second = c.in_ok-extend-2.ensures ∙ ap (λ x. opened ++ x) (c.deref.ensures.value ∙ c.in_ok-members.ensures) in
    last c.extend-3.result begun told c.extend-3.new.text.items (codes ",\"guesses\":{" ++ members) (codes "}") (join begun opened told (codes ",\"guesses\":{") members c.in_ok-extend.ensures second) c.extend-3.ensures
