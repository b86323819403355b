use Rattle.qa_explain.specs.text.Subjects.{subject}
use Rattle.qa_explain.proofs.text.subjects.push_subject.Goals as goal

pub returns-in-Ack : goal.returns-in-Ack
unfolding subject
returns-in-Ack c = rw (c.in-Ack.is, ← c.name-in-Ack.ensures) c.push_name-in-Ack.ensures

pub returns-in-Lost : goal.returns-in-Lost
unfolding subject
returns-in-Lost c = rw (c.in-Lost.is, ← c.name-in-Lost.ensures) c.push_name-in-Lost.ensures

pub returns-in-Discard : goal.returns-in-Discard
unfolding subject
returns-in-Discard c = rw (c.in-Discard.is, ← c.name-in-Discard.ensures) c.push_name-in-Discard.ensures

pub returns-in-Confirmed : goal.returns-in-Confirmed
unfolding subject
returns-in-Confirmed c = rw c.in-Confirmed.is c.push_words.ensures

pub returns-in-Keys : goal.returns-in-Keys
unfolding subject
returns-in-Keys c = rw c.in-Keys.is c.push_words-in-Keys.ensures

pub returns-in-Metrics : goal.returns-in-Metrics
unfolding subject
returns-in-Metrics c = rw c.in-Metrics.is c.push_words-in-Metrics.ensures
