use Rattle.std.proofs.Common.{subst}
use Rattle.qa_logs.specs.Opening.{Feeds}
use Rattle.qa_logs.specs.Whole.{FeedsEach}
use Rattle.qa_log_lines.proofs.lines.lines_of.Goals as goal

pub returns-clause-begun : goal.returns-clause-begun
returns-clause-begun g c = record {
  firsts = c.in_ok-read.ensures.feeds.0;
  opened = c.read.new.reading;
  opens = subst (λ start. FeedsEach Feeds start c.in_ok-read.ensures.feeds.0 c.read.new.reading) c.new-opening.ensures c.in_ok-read.ensures.feeds.1;
  log = c.in_ok-log.log;
  says = c.in_ok-log.ensures;
  begun = c.in_ok-surveying.surveying;
  is_asked = c.in_ok-surveying.ensures;
  seconds = c.in_ok-read-2.ensures.feeds.0;
  surveyed = c.read-2.new.reading;
  surveys = c.in_ok-read-2.ensures.feeds.1;
  leads = c.in_ok-end.ensures;
}
