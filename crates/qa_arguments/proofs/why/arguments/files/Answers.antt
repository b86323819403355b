use Rattle.std.proofs.Common.{◌∙◌, ap, map}
use Rattle.std.proofs.lemmas.Result.{IfOk-weaker}
use Rattle.clap.specs.Matches.{found_of}
use Rattle.qa_arguments.proofs.why_lemmas.Matches.{files_found, no_files_found}
use Rattle.qa_arguments.proofs.why.arguments.files.Goals as goal

pub returns-in-Some : goal.returns-in-Some
returns-in-Some c =
    IfOk-weaker c.from_slice.result _ _ (λ names is. ap (map (λ name. name.now)) is ∙ files_found (found_of c.args.matches.now) _ c.in-Some.ensures) c.from_slice.ensures.items

pub returns-in-None : goal.returns-in-None
returns-in-None c = ap (map (λ name. name.now)) c.new.ensures.items ∙ no_files_found (found_of c.args.matches.now) c.in-None.ensures
