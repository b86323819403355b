use Rattle.std.proofs.Common.{rules}
use Rattle.qa_packet_numbers.specs.Runs.{IsGreatest}
use Rattle.qa_packet_numbers.specs.Sent.{runs_in}
use Rattle.qa_packet_numbers.proofs.Lacking.{greatest_is}
use Rattle.qa_base.specs.machine.Kept.{numbers_of}
use Rattle.qa_packet_numbers.proofs.sent.SentNumbers.greatest_sent.Goals as goal

pub returns : goal.returns
returns c = λ h sent.
    let is : IsGreatest (runs_in c.args.self.now c.args.space) c.greatest.result = search rules in
    greatest_is (runs_in c.args.self.now c.args.space) (numbers_of h c.args.space) c.greatest.result (sent.each c.args.space) is
