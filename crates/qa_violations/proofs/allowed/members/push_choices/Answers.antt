use Rattle.std.proofs.Common.{◌++◌, [], codes}
use Rattle.qa_violations.specs.allowed.Members.{choices_member, listed}
use Rattle.qa_explain.proofs.text_lemmas.Pushed.{join, last}
use Rattle.qa_violations.proofs.allowed.members.push_choices.Goals as goal

pub returns : goal.returns
unfolding choices_member
returns c =
    let begun = c.args.out.now.items in
    let opened = c.extend.new.text.items in
    let told = c.push_listed.new.out.items in
    let front = codes ",\"choices\":[" in
    let keys = listed [] c.args.keys.now in
    last c.extend-2.result begun told c.extend-2.new.text.items (front ++ keys) (codes "]") (join begun opened told front keys c.in_ok-extend.ensures c.in_ok-push_listed.ensures) c.extend-2.ensures
