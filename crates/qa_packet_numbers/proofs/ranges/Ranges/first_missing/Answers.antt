use Rattle.std.proofs.Common.{ℕ, List, subst}
use Rattle.std.proofs.lemmas.List.{take_all}
use Rattle.qa_packet_numbers.specs.Missing.{IsFirstMissing}
use Rattle.qa_packet_numbers.proofs.Lacking.{first_outside_is}
use Rattle.qa_packet_numbers.proofs.ranges.Ranges.first_missing.Goals as goal

pub returns-clause-outside : goal.returns-clause-outside
returns-clause-outside c =
    let first : IsFirstMissing c.args.self.now c.args.spans.now c.loop-span.first =
    subst (λ (spans : List (ℕ × ℕ)). IsFirstMissing c.args.self.now spans c.loop-span.first) (take_all c.loop-span.span-index c.args.spans.now c.loop-span-test.false) c.loop-span.invariant in
    first_outside_is c.args.self.now c.args.spans.now c.loop-span.first first
