use Rattle.std.proofs.Common.{◌∙◌, ap, refl}
use Rattle.qa_convert.proofs.Timed.{timer_more}
use Rattle.qa_convert.specs.Telling.{next_marks, told_in, with_timer}
use Rattle.qa_convert.proofs.conversion.Conversion.write_timer.Goals as goal

pub returns-clause-writes : goal.returns-clause-writes
returns-clause-writes c =
    let marks = next_marks c.next_time.new.self in (
      record {
        marks = marks;
        guess = timer_more c.args.self.now.writing c.next_time.new.self c.in_ok-time.ensures.says_more;
        space = c.args.space;
        told = ap told_in c.allow_probe.ensures.writing ∙ c.in_ok-write.ensures.told
            ∙ ap (λ t. with_timer t marks c.args.kind c.args.space) c.in_ok-time.ensures.told;
      },
      refl,
    )
