use Rattle.std.proofs.Common.{◌≡◌, ◌∙◌, refl, true}
use Rattle.std.proofs.lemmas.Result.{on_ok_weaker}
use Rattle.qa_convert.proofs.Timed.{nothing_told, timer_guessed, timer_more}
use Rattle.qa_convert.specs.Telling.{next_marks}
use Rattle.qa_convert.specs.declared.guess.Guess.TheVariants as guess
use Rattle.qa_base.specs.declared.space.TimerKind.TheVariants as timer
use Rattle.qa_convert.proofs.conversion.Conversion.show.Goals as goal

pub returns-clause-told : goal.returns-clause-told
returns-clause-told c =
    let guessed : (next_marks c.moment.new.self.writing).timer ≡ true =
    timer_more c.guess.new.self c.moment.new.self.writing c.in_ok-time.ensures.says_more (timer_guessed c.guess.new.self guess.LossTimer refl c.in_ok-guess.ensures.says) in
    on_ok_weaker c.write_timer.result
    (λ wrote. nothing_told _ timer.Loss _ _ guessed wrote.0 ∙ c.in_ok-time.ensures.told ∙ c.in_ok-guess.ensures.told)
    c.write_timer.ensures.writes
