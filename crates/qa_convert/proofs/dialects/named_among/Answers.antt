use Rattle.std.proofs.Common.{◌∙◌, rules}
use Rattle.std.proofs.lemmas.Iterator.{YieldsList-from_slice}
use Rattle.std.proofs.lemmas.Iterator.Search.{find_from_yields_List}
use borrow.Author.Tests.{tests}
use Rattle.qa_convert.specs.Dialects.{has_name}
use Rattle.qa_convert.proofs.dialects.named_among.Goals as goal

pub returns : goal.returns
returns c =
    c.copied.ensures
    ∙ find_from_yields_List (has_name c.args.name.now) _ _ c.find.result c.find.ensures.ran (YieldsList-from_slice c.args.dialects.now cc) (λ x b q k. search (rules, tests))
