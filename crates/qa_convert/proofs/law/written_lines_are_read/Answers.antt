use Rattle.qa_convert.proofs.OneLine.{lines_of_texts, texts_read}
use Rattle.qa_convert.proofs.law.written_lines_are_read.Goals as goal

pub returns : goal.returns
returns c = record { lines = lines_of_texts; read = texts_read }
