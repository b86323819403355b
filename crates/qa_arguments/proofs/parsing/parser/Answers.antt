use Rattle.std.proofs.Common.{◌∙◌, ap}
use Rattle.std.proofs.lemmas.Result.{IfOk-weaker}
use Rattle.clap.specs.Simple.{App, with_subcommand}
use Rattle.qa_arguments.specs.Arguments.{check_parser, explain_parser}
use Rattle.qa_arguments.proofs.parsing.parser.Goals as goal

pub returns : goal.returns
returns c =
    let check_is = c.in_ok-with_check.ensures ∙ ap (λ (a : App). with_subcommand a check_parser.top) c.program_parser.ensures in
    IfOk-weaker c.with_files-2.result _ _
    (λ parser adds. adds ∙ ap (λ (a : App). with_subcommand a explain_parser.top) check_is)
    c.with_files-2.ensures
