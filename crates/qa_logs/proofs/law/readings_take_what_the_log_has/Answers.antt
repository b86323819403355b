use Rattle.qa_logs.proofs.Handing.{records_of, texts_of}
use Rattle.qa_logs.proofs.law.readings_take_what_the_log_has.Goals as goal

pub returns-clause-texts : goal.returns-clause-texts
returns-clause-texts c = texts_of c.texts_whatever_the_parts.ensures.text

pub returns-clause-records : goal.returns-clause-records
returns-clause-records c = records_of c.cuts_whatever_the_parts.ensures.record_taken
