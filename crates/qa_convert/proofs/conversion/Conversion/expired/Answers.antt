use Rattle.std.proofs.Common.{◌≡◌, ◌∙◌, ap}
use Rattle.std.proofs.lemmas.Result.{on_ok_weaker}
use Rattle.qa_convert.specs.Telling.{told_in, with_timer}
use Rattle.qa_convert.proofs.conversion.Conversion.expired.Goals as goal

pub returns-clause-writes : goal.returns-clause-writes
returns-clause-writes c =
    let same : told_in c.space_of_timer.new.self.writing ≡ told_in c.args.self.now.writing = c.in_ok-space.ensures.told ∙ ap told_in c.see_first-found.ensures.writing in
    on_ok_weaker c.write_timer.result
    (λ wrote. (
      record {
        marks = wrote.0.marks;
        guess = λ e. cc;
        space = wrote.0.space;
        told = wrote.0.told ∙ ap (λ t. with_timer t wrote.0.marks c.args.kind wrote.0.space) same;
      },
      rw wrote.1 c.in_ok-space.ensures.space,
    ))
    c.write_timer.ensures.writes
