use Rattle.std.proofs.Common.{◌≡◌, ◌↔◌, IsTrue, rules}
use Rattle.qa_packet_numbers.specs.Runs.{HasEach}
use Rattle.qa_packet_numbers.proofs.Histories.{covered_is}
use Rattle.qa_packet_numbers.proofs.Sets.{each_from_spans, spans_from_each, spans_all}
use Rattle.qa_packet_numbers.proofs.ranges.Ranges.covers.Goals as goal

pub returns : goal.returns
returns c =
    let found : c.is_some_and.result ≡ spans_all c.args.span c.run_from.result = search rules in
    let run = rw c.lo.ensures.value at c.run_from.ensures.run in
    let each : IsTrue c.is_some_and.result ↔ HasEach c.args.self.now c.args.span = rw (found, run) (each_from_spans c.args.span c.args.self.now, spans_from_each c.args.span c.args.self.now c.lo.ensures.order c.run_from.ensures.apart) in
    record { each = each; numbers = λ numbers names. covered_is c.args.self.now numbers c.args.span c.is_some_and.result c.lo.ensures.order names each }
