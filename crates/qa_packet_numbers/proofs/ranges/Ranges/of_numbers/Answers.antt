use Rattle.std.proofs.Common.{◌≡◌, ◌∙◌, ℕ, List, fold, sym, subst}
use Rattle.std.proofs.lemmas.List.{at_drop_all}
use Rattle.qa_base.specs.machine.Numbers.{Names}
use Rattle.qa_packet_numbers.specs.Missing.{runs_of, with_number}
use Rattle.qa_packet_numbers.proofs.Lacking.{names_runs}
use Rattle.qa_packet_numbers.proofs.ranges.Ranges.of_numbers.Goals as goal

pub returns-clause-names : goal.returns-clause-names
returns-clause-names c =
    let numbers = c.args.numbers.now in
    let set = c.loop-number.set in
    let all : set ≡ runs_of numbers = sym (at_drop_all (fold with_number set) numbers c.loop-number.number-index c.loop-number-test.false) ∙ c.loop-number.invariant in
    subst (λ (runs : List (ℕ × ℕ)). Names runs numbers) (sym all) (names_runs numbers)
