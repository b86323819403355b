use Rattle.std.proofs.Common.{◌∙◌, sym, rules}
use Rattle.std.proofs.lemmas.Iterator.{YieldsList-from_slice}
use Rattle.std.proofs.lemmas.Iterator.Search.{any_from_yields_List}
use borrow.Author.Tests.{tests}
use Rattle.qa_base.specs.machine.Handshake.{shows_keys}
use Rattle.qa_reference.proofs.Followed.{any_is}
use Rattle.qa_reference.proofs.handshake.has_keys.Goals as goal

pub returns : goal.returns
returns c =
    any_from_yields_List shows_keys _ _ _ c.any.ensures.ran (YieldsList-from_slice c.args.events.now cc) (λ x b q k. search (rules, tests))
    ∙ sym (any_is shows_keys c.args.events.now)
