use Rattle.std.proofs.Common.{◌∙◌, ◌&&◌, ap, not, sym}
use Rattle.std.proofs.lemmas.List.{drop_all}
use Rattle.qa_base.specs.machine.Numbers.{is_in}
use Rattle.qa_base.specs.values.Events.{is_named}
use Rattle.qa_packet_numbers.proofs.Removed.{all_stay}
use Rattle.qa_packet_numbers.proofs.ranges.Ranges.of_others.Goals as goal

pub returns-clause-names : goal.returns-clause-names
returns-clause-names c n =
    let set = c.loop-number.set in
    let none = drop_all c.loop-number.number-index c.args.numbers.now c.loop-number-test.false in
    all_stay (is_named set n) ∙ (ap (λ ns. is_named set n && not (is_in ns n)) (sym none) ∙ c.loop-number.invariant.named n)
