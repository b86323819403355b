use Rattle.std.proofs.Common.{◌≡◌, ◌∙◌, ap, refl}
use Rattle.qa_base.specs.declared.event.Event.TheVariants as event
use Rattle.qa_convert.proofs.Losses.{none_of_space, space_line, space_none}
use Rattle.qa_convert.specs.Losing.{packets_of, with_fit}
use Rattle.qa_convert.specs.Telling.{next_marks, told_in}
use Rattle.qa_convert.proofs.conversion.Conversion.write_lost_of.Goals as goal

pub returns-in_default-clause-lost : goal.returns-in_default-clause-lost
returns-in_default-clause-lost c =
    space_none c.args.space (packets_of c.args.losses.now) _ _ (λ n. none_of_space c.args.space n c.args.losses.now c.in_default.ensures) refl

pub returns-in_default-last_of-clause-lost : goal.returns-in_default-last_of-clause-lost
returns-in_default-last_of-clause-lost c =
    space_none c.args.space (packets_of c.args.losses.now) _ _ (λ n. none_of_space c.args.space n c.args.losses.now c.in_default-last_of.ensures) refl

pub returns-clause-lost : goal.returns-clause-lost
returns-clause-lost c =
    let s = c.args.space in
    let ranges = c.in_ok-ranges.ranges in
    let spans = rw c.deref.ensures.value at c.in_ok-ranges.ensures in
    let guessed = next_marks c.next_time.new.self in
    let told : told_in c.put_lost.new.self.writing ≡ with_fit (told_in c.args.self.now.writing) guessed (event.Lost c.in_ok-time.time s ranges) =
    c.in_ok-put_lost.ensures.told ∙ ap (λ t. with_fit t guessed (event.Lost c.in_ok-time.time s ranges)) c.in_ok-time.ensures.told in
    space_line guessed c.in_ok-time.time s ranges (packets_of c.args.losses.now) _ _
    (λ n. spans c.in_ok-numbers.ensures.small n ∙ c.in_ok-numbers.ensures.numbers n)
    (c.loop-number.invariant.told ∙ told)
