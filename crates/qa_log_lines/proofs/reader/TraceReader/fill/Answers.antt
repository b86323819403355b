use Rattle.std.proofs.Common.{[], ◌∷◌, ◌++◌, ◌∙◌, ap, sym}
use Rattle.qa_logs.specs.Tracing.{shown}
use Rattle.qa_log_lines.specs.Handing.{left}
use Rattle.qa_log_lines.proofs.Going.{went_on}
use Rattle.qa_log_lines.proofs.Handed.{none_if, read_all}
use Rattle.qa_log_lines.proofs.reader.TraceReader.fill.Goals as goal

pub lines-preserved : goal.lines-preserved
lines-preserved g c =
    let none = none_if c.rest.result.now (left c.lines.self) c.rest.ensures.rest c.if-not-is_empty.ensures in record {
      stays = λ some. absurd (some (sym (ap left (c.lines.invariant.stays some).0) ∙ none));
      reads = λ start bytes has goes_on.
          let now = c.lines.invariant.reads start bytes has c.in_ok-is_last.ensures.stopped in
          let goes = c.advance.ensures.goes (sym c.in_ok-is_last.ensures.is_last ∙ c.if-branch.false) goes_on in (
            now.0 ++ shown c.lines.self.lines.0 ∷ [],
            went_on start c.lines.self.lines.0 c.advance.new.self.lines.0 now.0 now.1 goes,
            read_all bytes now.0 (shown c.lines.self.lines.0) (shown c.advance.new.self.lines.0) c.lines.self.passed c.advance.new.self.passed now.2 none c.advance.ensures.start,
          );
      fault = λ goes_on. c.lines.invariant.fault (c.advance.ensures.fault goes_on);
    }
