use Rattle.serde_json.specs.Data.{array}
use Rattle.qa_convert.specs.Guesses.{texts_of}
use Rattle.qa_convert.specs.declared.own.OwnKey.TheVariants as own
use Rattle.qa_convert.proofs.Guessed.{guesses_are_kept}
use Rattle.qa_convert.proofs.PassedOver.{own_after}
use Rattle.qa_convert.proofs.guess.put_guesses.Goals as goal

pub returns-clause-own : goal.returns-clause-own
returns-clause-own c =
    let gs = c.args.guesses.now in
    own_after c.put.result own.Guess (array (texts_of gs)) c.args.keys.now.entries c.put.new.map.entries (guesses_are_kept gs) c.requires
    (rw (c.name.ensures, c.in_ok-list.ensures) at c.put.ensures.ok) c.put.ensures.err
