use Rattle.std.proofs.Common.{◌∙◌, ◌&&◌, ap, sym, nat_eq}
use Rattle.std.proofs.lemmas.Str.Pattern.{starts_text}
use Rattle.std.specs.List.{starts_with}
use Rattle.qa_convert.specs.Dialects.{is_said}
use Rattle.qa_convert.specs.Stacks.{stack_schema}
use Rattle.qa_convert.proofs.dialects.is_meant.Goals as goal

pub returns-then-is_said : goal.returns-then-is_said
returns-then-is_said c =
    let said = ap (is_said c.args.said.now) (sym c.mark.ensures) ∙ sym c.is_said.ensures ∙ c.if-is_said.true in
    let begins = starts_with nat_eq c.args.schema.now in
    starts_text c.starts_with.result c.schema.result.now c.args.schema.now c.starts_with.ensures.cases
    ∙ ap begins c.schema.ensures
    ∙ sym (ap (λ b. b && begins (stack_schema c.args.dialect.now.stack)) said)
