use Rattle.std.proofs.Common.{◌++◌, codes, string_bytes}
use Rattle.qa_explain.proofs.text_lemmas.Pushed.{join, last}
use Rattle.qa_violations.specs.allowed.Texts.{late_text, past_text}
use Rattle.qa_explain.specs.text.Times.{time_text}
use Rattle.qa_violations.proofs.allowed.texts.push_late.Goals as goal

pub returns : goal.returns
unfolding late_text
returns c =
    let late = c.args.late.now in
    let begun = string_bytes c.args.out.now in
    let worded = string_bytes c.push_words.new.out in
    let timed = string_bytes c.push_time.new.out in
    let placed = string_bytes c.push_past.new.out in
    let front = codes "  late timers: no limit in the header; at most " in
    let time = time_text c.args.unit late.amount in
    let past = past_text late.kind late.space late.line in
    last c.push_words-2.result begun placed (string_bytes c.push_words-2.new.out) (front ++ time ++ past) (codes "\n")
    (join begun timed placed (front ++ time) past (join begun worded timed front time c.in_ok-push_words.ensures c.in_ok-push_time.ensures) c.in_ok-push_past.ensures) c.push_words-2.ensures
