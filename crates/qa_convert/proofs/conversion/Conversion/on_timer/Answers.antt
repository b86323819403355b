use Rattle.std.proofs.lemmas.Result.{on_ok_weaker}
use Rattle.qa_convert.proofs.Timed.{names_from, then_same}
use Rattle.qa_convert.specs.Losing.{in_flight, lost_in}
use Rattle.qa_convert.specs.Telling.{told_in}
use Rattle.qa_convert.proofs.conversion.Conversion.on_timer.Goals as goal

pub returns-clause-timers : goal.returns-clause-timers
returns-clause-timers c =
    on_ok_weaker c.after_timer.result
    (λ same.
    then_same c.args.expiry (told_in c.args.self.now.writing) (told_in c.write_expired.new.self.writing) (told_in c.after_timer.new.self.writing)
    c.in_ok-write_expired.ensures.timers same)
    c.after_timer.ensures.timers

pub returns-clause-lost : goal.returns-clause-lost
returns-clause-lost c =
    let ps = in_flight c.args.self.now.writing.bare (lost_in c.args.beside.now) in
    on_ok_weaker c.after_timer.result
    (λ all. names_from ps (told_in c.args.self.now.writing) (told_in c.write_expired.new.self.writing) (told_in c.after_timer.new.self.writing) c.in_ok-write_expired.ensures.lost
    (rw (← c.in_ok-write_expired.ensures.bare, ← c.in_ok-losses.ensures, ← c.deref-2.ensures.value) all))
    c.after_timer.ensures.lost
