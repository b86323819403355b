use Rattle.std.proofs.Common.{◌∙◌, ◌+◌, ap}
use Rattle.std.specs.Prelude.{nat_lt}
use Rattle.qa_packet_numbers.proofs.ranges.ends_before.Goals as goal

pub returns : goal.returns
returns c = ap (λ n. nat_lt (n + 1) c.get-2.result) (c.get.ensures.value ∙ c.hi.ensures.value) ∙ ap (nat_lt (c.args.run.1 + 1)) c.get-2.ensures.value
