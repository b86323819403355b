use Rattle.qa_logs.proofs.Parts.{opened, surveyed, traced}
use Rattle.qa_logs.proofs.law.readings_take_whole_logs.Goals as goal

pub returns-clause-opening : goal.returns-clause-opening
returns-clause-opening c = opened
    (record {
      begun = c.texts_whatever_the_parts.ensures.begun;
      fed = c.texts_whatever_the_parts.ensures.fed;
      closed = c.texts_whatever_the_parts.ensures.closed;
      text = c.texts_whatever_the_parts.ensures.text;
      none = c.texts_whatever_the_parts.ensures.none;
      ended = c.texts_whatever_the_parts.ensures.ended;
    })
    (record {
      begun = c.cuts_whatever_the_parts.ensures.begun;
      fed = c.cuts_whatever_the_parts.ensures.fed;
      taken = c.cuts_whatever_the_parts.ensures.record_taken;
      none = c.cuts_whatever_the_parts.ensures.none;
      ended = c.cuts_whatever_the_parts.ensures.ended;
    })

pub returns-clause-surveying : goal.returns-clause-surveying
returns-clause-surveying c = surveyed
    (record {
      begun = c.texts_whatever_the_parts.ensures.begun;
      fed = c.texts_whatever_the_parts.ensures.fed;
      closed = c.texts_whatever_the_parts.ensures.closed;
      text = c.texts_whatever_the_parts.ensures.text;
      none = c.texts_whatever_the_parts.ensures.none;
      ended = c.texts_whatever_the_parts.ensures.ended;
    })
    (record {
      begun = c.cuts_whatever_the_parts.ensures.begun;
      fed = c.cuts_whatever_the_parts.ensures.fed;
      taken = c.cuts_whatever_the_parts.ensures.record_taken;
      none = c.cuts_whatever_the_parts.ensures.none;
      ended = c.cuts_whatever_the_parts.ensures.ended;
    })

pub returns-clause-tracing : goal.returns-clause-tracing
returns-clause-tracing c = traced
    (record {
      begun = c.texts_whatever_the_parts.ensures.begun;
      fed = c.texts_whatever_the_parts.ensures.fed;
      closed = c.texts_whatever_the_parts.ensures.closed;
      text = c.texts_whatever_the_parts.ensures.text;
      none = c.texts_whatever_the_parts.ensures.none;
      ended = c.texts_whatever_the_parts.ensures.ended;
    })
    (record {
      begun = c.cuts_whatever_the_parts.ensures.begun;
      fed = c.cuts_whatever_the_parts.ensures.fed;
      taken = c.cuts_whatever_the_parts.ensures.record_taken;
      none = c.cuts_whatever_the_parts.ensures.none;
      ended = c.cuts_whatever_the_parts.ensures.ended;
    })
