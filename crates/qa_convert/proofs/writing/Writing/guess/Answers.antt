use Rattle.std.proofs.Common.{◌∙◌, ap}
use Rattle.std.proofs.lemmas.Result.{on_ok_weaker}
use Rattle.qa_convert.proofs.Guessed.{guess_stays, guess_there}
use Rattle.qa_convert.specs.Outputs.{has_guess}
use Rattle.qa_convert.proofs.writing.Writing.guess.Goals as goal

pub returns-clause-says : goal.returns-clause-says
returns-clause-says c =
    on_ok_weaker c.guess-2.result (λ is. ap (has_guess c.args.guess) is ∙ guess_there c.args.guess _) c.guess-2.ensures.ok

pub returns-clause-says_more : goal.returns-clause-says_more
returns-clause-says_more c =
    on_ok_weaker c.guess-2.result (λ is g before. ap (has_guess g) is ∙ guess_stays g c.args.guess _ before) c.guess-2.ensures.ok
