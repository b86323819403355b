use Rattle.std.proofs.Common.{◌∙◌, rules}
use Rattle.qa_base.specs.machine.Kept.{numbers_of}
use Rattle.qa_base.specs.machine.Numbers.{Names}
use Rattle.qa_packet_numbers.proofs.Histories.{numbers_distinct, sent_between}
use Rattle.qa_packet_numbers.proofs.sent.SentNumbers.count_between.Goals as goal

pub returns : goal.returns
returns c = λ settings h run sent.
    let s = c.args.space in
    let at = sent.each s in
    let names : Names c.of.result.now (numbers_of h s) = search rules in
    c.count_between.ensures (numbers_of h s) names (numbers_distinct settings h s run) ∙ sent_between h s c.args.number c.args.top
