use Rattle.std.proofs.Common.{◌∙◌, ap, Some}
use Rattle.clap.specs.Matches.{found_of}
use Rattle.qa_arguments.proofs.why_lemmas.Matches.{given_by}
use Rattle.qa_arguments.proofs.why.arguments.is_given.Goals as goal

pub returns-in-Some-CommandLine : goal.returns-in-Some-CommandLine
returns-in-Some-CommandLine c =
    given_by (found_of c.args.matches.now) c.args.name.now c.value_source.result _ c.value_source.ensures (c.in-Some-CommandLine.is ∙ ap Some c.in-Some-CommandLine.field-0-is)

pub returns-in-Some-DefaultValue : goal.returns-in-Some-DefaultValue
returns-in-Some-DefaultValue c =
    given_by (found_of c.args.matches.now) c.args.name.now c.value_source.result _ c.value_source.ensures (c.in-Some-DefaultValue.is ∙ ap Some c.in-Some-DefaultValue.field-0-is)

pub returns-in-None : goal.returns-in-None
returns-in-None c = given_by (found_of c.args.matches.now) c.args.name.now c.value_source.result _ c.value_source.ensures c.in-None.is
