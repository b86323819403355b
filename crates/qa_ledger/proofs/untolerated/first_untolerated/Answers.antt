use Rattle.std.proofs.Common.{◌∙◌, sym, ap}
use Rattle.std.specs.Option.{option_or}
use Rattle.qa_base.specs.machine.Rules.{first_of}
use Rattle.qa_ledger.specs.Tests.{tests_of_answers}
use Rattle.qa_ledger.proofs.Parts.{first_in_parts}
use Rattle.qa_ledger.proofs.untolerated.first_untolerated.Goals as goal

pub returns-in-Some : goal.returns-in-Some
returns-in-Some g c s h tells =
    let e = c.args.event.now in
    sym (first_in_parts s h e ∙ ap (λ first. option_or first (first_of (tests_of_answers s h e))) (sym (c.first_of_packets.ensures s h tells) ∙ c.in-Some.is))

pub returns-in-None : goal.returns-in-None
returns-in-None g c s h tells =
    let e = c.args.event.now in
    c.first_of_answers.ensures s h tells
    ∙ sym (first_in_parts s h e ∙ ap (λ first. option_or first (first_of (tests_of_answers s h e))) (sym (c.first_of_packets.ensures s h tells) ∙ c.in-None.is))
