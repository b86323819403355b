use Rattle.std.proofs.Common.{◌∙◌, sym, arith}
use Rattle.qa_fast_reader.proofs.Known.{known_of_four, known_of_five, known_of_six, known_of_seven, known_of_eight, known_of_nine, known_of_ten, known_of_twelve, known_of_fifteen, unknown_length}
use Rattle.qa_fast_reader.proofs.keys.is_known.Goals as goal

pub returns-in-4 : goal.returns-in-4
returns-in-4 c = c.is_known_of_four.ensures ∙ sym (known_of_four c.args.key.now c.in-4.is)

pub returns-in-5 : goal.returns-in-5
returns-in-5 c = c.is_known_of_five.ensures ∙ sym (known_of_five c.args.key.now c.in-5.is)

pub returns-in-6 : goal.returns-in-6
returns-in-6 c = c.is_known_of_six.ensures ∙ sym (known_of_six c.args.key.now c.in-6.is)

pub returns-in-7 : goal.returns-in-7
returns-in-7 c = c.is_known_of_seven.ensures ∙ sym (known_of_seven c.args.key.now c.in-7.is)

pub returns-in-8 : goal.returns-in-8
returns-in-8 c = c.is.ensures ∙ sym (known_of_eight c.args.key.now c.in-8.is)

pub returns-in-9 : goal.returns-in-9
returns-in-9 c = c.is_known_of_nine.ensures ∙ sym (known_of_nine c.args.key.now c.in-9.is)

pub returns-in-10 : goal.returns-in-10
returns-in-10 c = c.is-in-10.ensures ∙ sym (known_of_ten c.args.key.now c.in-10.is)

pub returns-in-12 : goal.returns-in-12
returns-in-12 c = c.is-in-12.ensures ∙ sym (known_of_twelve c.args.key.now c.in-12.is)

pub returns-in-15 : goal.returns-in-15
returns-in-15 c = c.is-in-15.ensures ∙ sym (known_of_fifteen c.args.key.now c.in-15.is)

pub returns-in_default : goal.returns-in_default
returns-in_default c =
    sym (unknown_length c.args.key.now (λ e. omega (arith, e)) (λ e. omega (arith, e)) (λ e. omega (arith, e)) (λ e. omega (arith, e)) (λ e. omega (arith, e)) (λ e. omega (arith, e)) (λ e. omega (arith, e)) (λ e. omega (arith, e)) (λ e. omega (arith, e)))
