use Rattle.std.proofs.Common.{◌∙◌, ap₂}
use Rattle.std.proofs.lemmas.Result.{IfOk-weaker}
use Rattle.clap.specs.Simple.{with_rule}
use Rattle.qa_arguments.proofs.why.arguments.parser.Goals as goal

pub returns : goal.returns
returns c =
    let all = c.in_ok-arg.ensures.shape c.flag_argument.ensures.local ∙ ap₂ with_rule c.program_parser.ensures c.flag_argument.ensures.rule in
    let around = c.in_ok-arg-2.ensures.shape c.around_argument.ensures.local ∙ ap₂ with_rule all c.around_argument.ensures.rule in
    let json = c.in_ok-arg-3.ensures.shape c.flag_argument-2.ensures.local ∙ ap₂ with_rule around c.flag_argument-2.ensures.rule in
    let quiet = c.in_ok-arg-4.ensures.shape c.flag_argument-3.ensures.local ∙ ap₂ with_rule json c.flag_argument-3.ensures.rule in
    let rows = c.in_ok-arg-5.ensures.shape c.flag_argument-4.ensures.local ∙ ap₂ with_rule quiet c.flag_argument-4.ensures.rule in
    let warn = c.in_ok-arg-6.ensures.shape c.flag_argument-5.ensures.local ∙ ap₂ with_rule rows c.flag_argument-5.ensures.rule in
    IfOk-weaker c.arg-7.result _ _
    (λ parser adds. adds.shape c.files_argument.ensures.local ∙ ap₂ with_rule warn c.files_argument.ensures.rule)
    c.arg-7.ensures
