use Rattle.std.proofs.Common.{rules}
use Rattle.qa_packet_numbers.proofs.sent.SentNumbers.insert_sent.Goals as goal

pub returns-in-Sent-clause-ok : goal.returns-in-Sent-clause-ok
returns-in-Sent-clause-ok c = search rules
