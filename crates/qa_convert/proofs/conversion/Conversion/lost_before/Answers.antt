use Rattle.std.proofs.Common.{arith, refl}
use Rattle.qa_convert.proofs.Losses.{names_only, only_none}
use Rattle.qa_convert.specs.Losing.{packets_of}
use Rattle.qa_convert.specs.Telling.{told_in}
use Rattle.qa_convert.proofs.conversion.Conversion.lost_before.Goals as goal

pub returns-in_default-clause-lost : goal.returns-in_default-clause-lost
returns-in_default-clause-lost c = only_none (packets_of c.args.before.items) (packets_of c.args.before.items) _ _ (λ s n. omega arith) refl

pub returns-then-is_shown-clause-lost : goal.returns-then-is_shown-clause-lost
returns-then-is_shown-clause-lost c = only_none (packets_of c.args.before.items) (packets_of c.args.before.items) _ _ (λ s n. omega arith) refl

pub returns-clause-lost : goal.returns-clause-lost
returns-clause-lost c =
    rw (c.new.ensures.items, ← c.deref-3.ensures.value)
    (names_only c.args.self.now.writing.bare (packets_of c.deref-3.result.now) (told_in c.args.self.now.writing) (told_in c.lost_alone.new.self.writing) c.in_ok-lost_alone.ensures.lost)
