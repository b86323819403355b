use Rattle.std.proofs.Common.{◌++◌, ◌∙◌, ap, codes, string_bytes}
use Rattle.qa_explain.specs.text.Sentences.{apart_text, gap_text, value_text}
use Rattle.qa_explain.proofs.text_lemmas.Pushed.{join, last}
use Rattle.qa_explain.proofs.text.sentences.push_apart.Goals as goal

pub returns : goal.returns
unfolding apart_text
returns c =
    let begun = string_bytes c.args.out.now in
    let worded = string_bytes c.push_words.new.out in
    let valued = string_bytes c.push_value.new.out in
    let front = codes ", the model has " in
    let value = value_text c.args.metric c.args.held in
    let gap = gap_text c.args.metric c.args.apart in
    last c.push_gap.result begun valued (string_bytes c.push_gap.new.out) (front ++ value) gap
    (join begun worded valued front value c.in_ok-push_words.ensures (c.in_ok-push_value.ensures ∙ ap (λ n. worded ++ value_text c.args.metric n) c.from.ensures)) c.push_gap.ensures
