use Rattle.std.proofs.Common.{◌++◌, [], codes, map}
use Rattle.qa_violations.specs.around.Members.{list_member, listed}
use Rattle.qa_explain.proofs.text_lemmas.Pushed.{join, last}
use Rattle.qa_violations.proofs.around.objects.push_list.Goals as goal

pub returns : goal.returns
unfolding list_member
returns c =
    let begun = c.args.out.now.items in
    let opened = c.extend.new.text.items in
    let told = c.push_objects.new.out.items in
    let front = codes ",\"around\":[" in
    let os = listed [] (map (λ object. object.items) c.args.objects.now.items) in
    last c.extend-2.result begun told c.extend-2.new.text.items (front ++ os) (codes "]") (join begun opened told front os c.in_ok-extend.ensures c.in_ok-push_objects.ensures) c.extend-2.ensures
