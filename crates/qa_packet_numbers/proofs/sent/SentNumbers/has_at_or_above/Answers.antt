use Rattle.std.proofs.Common.{◌≡◌, ◌∙◌, rules}
use Rattle.qa_packet_numbers.specs.Runs.{IsGreatest}
use Rattle.qa_packet_numbers.specs.Sent.{runs_in}
use Rattle.qa_packet_numbers.proofs.Histories.{is_at_most, rises_by_greatest}
use Rattle.qa_packet_numbers.proofs.sent.SentNumbers.has_at_or_above.Goals as goal

pub returns : goal.returns
returns c = λ h sent.
    let low : c.is_some_and.result ≡ is_at_most c.args.number c.greatest.result = search rules in
    let is : IsGreatest (runs_in c.args.self.now c.args.space) c.greatest.result = search rules in
    low ∙ rises_by_greatest c.args.self.now h c.args.space c.greatest.result c.args.number sent is
