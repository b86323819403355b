use Rattle.qa_qlog.proofs.Laws.{begins, feeds, closes, takes, keeps, ends, stops}
use Rattle.qa_qlog.proofs.law.texts_whatever_the_parts.Goals as goal

pub returns : goal.returns
returns c = record {
  begun = begins;
  fed = feeds;
  closed = closes;
  text = takes;
  none = keeps;
  ended = ends;
  too_long = stops;
}
