use Rattle.std.proofs.Common.{rules}
use Rattle.std.proofs.lemmas.Iterator.{YieldsList-from_chars}
use Rattle.std.proofs.lemmas.Iterator.Search.{any_from_yields_List}
use Rattle.qa_check.specs.names.Names.{is_hidden}
use Rattle.qa_commands.proofs.Names.{name_stays}
use Rattle.qa_commands.proofs.naming.is_shown_as_it_is.Goals as goal

pub returns : goal.returns
returns c =
    name_stays c.args.name.now c.any.result c.utf8.name
    (any_from_yields_List is_hidden _ _ _ c.any.ensures.ran (YieldsList-from_chars c.args.name.now c.utf8.name cc) (λ x b q k. search rules))
