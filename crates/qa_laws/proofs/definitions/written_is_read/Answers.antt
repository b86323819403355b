use Rattle.qa_format.proofs.format.LinesWritten as lemmas
use Rattle.qa_laws.proofs.definitions.written_is_read.Goals as goal

pub returns-clause-one_line : goal.returns-clause-one_line
returns-clause-one_line c = lemmas.written_has_no_lf

pub returns-clause-read : goal.returns-clause-read
returns-clause-read c = lemmas.written_reads
