use Rattle.std.proofs.Common.{◌∙◌, ap}
use Rattle.std.proofs.lemmas.Result.{IfOk-weaker}
use Rattle.clap.specs.Simple.{App, app_of, with_subcommand}
use Rattle.qa_arguments.proofs.parsing.with_files.Goals as goal

pub returns : goal.returns
returns c =
    IfOk-weaker c.subcommand.result _ _
    (λ more adds. adds.shape c.in_ok-files_parser.ensures.local ∙ ap (λ (a : App). with_subcommand (app_of c.args.parser) a.top) c.in_ok-files_parser.ensures.app)
    c.subcommand.ensures
