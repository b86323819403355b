use Rattle.std.proofs.Common.{◌∙◌, rules}
use Rattle.std.proofs.lemmas.Iterator.{YieldsList-from_slice}
use Rattle.std.proofs.lemmas.Iterator.Search.{find_from_yields_List}
use borrow.Author.Tests.{tests}
use Rattle.qa_convert.specs.Dialects.{is_meant}
use Rattle.qa_convert.proofs.dialects.meant_among.Goals as goal

pub returns : goal.returns
returns c =
    c.copied.ensures
    ∙ find_from_yields_List (is_meant c.args.said.now c.args.schema.now) _ _ c.find.result c.find.ensures.ran (YieldsList-from_slice c.args.dialects.now cc) (λ x b q k. search (rules, tests))
