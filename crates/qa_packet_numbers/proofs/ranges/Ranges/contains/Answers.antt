use Rattle.std.proofs.Common.{◌≡◌, ◌∙◌, sym, ap, rules}
use Rattle.qa_packet_numbers.proofs.Sets.{begins_by, named_is_found}
use Rattle.qa_packet_numbers.proofs.ranges.Ranges.contains.Goals as goal

pub returns : goal.returns
returns c =
    let low : c.is_some_and.result ≡ begins_by c.args.number c.run_from.result = search rules in
    low ∙ (ap (begins_by c.args.number) c.run_from.ensures.run ∙ sym (named_is_found c.args.number c.args.self.now c.run_from.ensures.apart))
