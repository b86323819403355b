use Rattle.std.proofs.Common.{◌∙◌}
use Rattle.clap.specs.Matches.{found_of}
use Rattle.qa_arguments.proofs.why_lemmas.Matches.{flag_found}
use Rattle.qa_arguments.proofs.why.arguments.flag.Goals as goal

pub returns : goal.returns
returns c =
    c.unwrap_or.ensures ∙ flag_found _ (found_of c.args.matches.now) c.args.name.now c.get_one.result c.get_one.ensures.none c.get_one.ensures.value
