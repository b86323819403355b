-- The byte of a mark.
use Rattle.std.specs.Prelude.{ℕ}
use Rattle.qa_qlog.specs.declared.texts.Mark.{Mark}
use Rattle.qa_qlog.specs.declared.texts.Mark.TheVariants.{RecordSeparator, LineFeed}
use Rattle.qa_qlog.specs.Texts.{record_separator, line_feed}

abbrev pub byte_of : Mark → ℕ
byte_of RecordSeparator = record_separator
byte_of LineFeed = line_feed
