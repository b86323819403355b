use Rattle.std.proofs.Common.{map, string_bytes, refl}
use Rattle.clap.specs.Matches.{found_of}
use Rattle.clap.specs.Values.{kind_of}
use Rattle.clap.specs.Walk.{rows_of}
use Rattle.qa_arguments.proofs.why_lemmas.Walking.{arguments_are_texts, asked_with, asked_without}
use Rattle.qa_arguments.proofs.why.arguments.parse.Goals as goal

pub returns-in-Err : goal.returns-in-Err
returns-in-Err c =
    asked_with c.text_of.result (map string_bytes c.args.arguments.now) (kind_of c.in-Err.error) (arguments_are_texts c.args.arguments.now)
    c.text_of.ensures.memory c.text_of.ensures.shown c.in-Err.ensures.kinds

pub returns-in-Ok : goal.returns-in-Ok
returns-in-Ok c =
    asked_without c.asked_of.result (map string_bytes c.args.arguments.now) (rows_of (found_of c.in-Ok.matches)) (arguments_are_texts c.args.arguments.now)
    c.in-Ok.ensures.kinds (c.in-Ok.ensures.matches refl).0 c.asked_of.ensures
