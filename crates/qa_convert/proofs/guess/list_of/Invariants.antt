use Rattle.std.proofs.Common.{◌≡◌, map, take}
use Rattle.serde_json.specs.View.{view}
use Rattle.qa_convert.proofs.Guessed.{text_value}
use Rattle.qa_convert.proofs.guess.list_of.Given as goal

abbrev pub invariant-loop-guess : goal.invariant-loop-guess
invariant-loop-guess l = map view l.list.items ≡ map text_value (take l.guess-index l.guesses)
