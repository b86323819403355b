use Rattle.qa_qlog.proofs.Holds.{begins, feeds, takes, lacks, ends, stops}
use Rattle.qa_qlog.proofs.cutter_law.cuts_whatever_the_parts.Goals as goal

pub returns : goal.returns
returns c = record {
  begun = begins;
  fed = feeds;
  record_taken = takes;
  none = lacks;
  ended = ends;
  failed = stops;
}
