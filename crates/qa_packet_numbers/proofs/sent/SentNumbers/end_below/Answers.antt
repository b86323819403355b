use Rattle.std.proofs.Common.{◌∙◌, ap, nat_le, rules}
use Rattle.qa_base.specs.machine.Kept.{numbers_of}
use Rattle.qa_base.specs.machine.Numbers.{Names}
use Rattle.qa_packet_numbers.proofs.Histories.{numbers_distinct, sent_between}
use Rattle.qa_packet_numbers.proofs.sent.SentNumbers.end_below.Goals as goal

pub returns : goal.returns
returns c = λ settings h run sent n.
    let s = c.args.space in
    let at = sent.each s in
    let names : Names c.of.result.now (numbers_of h s) = search rules in
    c.end_below.ensures (numbers_of h s) names (numbers_distinct settings h s run) n
    ∙ ap (nat_le c.args.count) (sent_between h s n c.args.top)
