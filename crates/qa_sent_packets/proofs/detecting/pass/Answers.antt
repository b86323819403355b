use Rattle.std.proofs.Common.{◌≡◌, true, rules}
use Rattle.qa_sent_packets.specs.Fates.{is_flying}
use Rattle.qa_sent_packets.proofs.Detected.{marked}
use Rattle.qa_sent_packets.proofs.detecting.pass.Goals as goal

pub returns-then-flies_in-clause-indexed : goal.returns-then-flies_in-clause-indexed
returns-then-flies_in-clause-indexed c = λ d indexed.
    let p = c.index_mut-packet.result.now in
    let flies : is_flying c.args.space p ≡ true = search rules in
    marked c.args.space d c.args.packets.now.items c.args.space_packets.now c.take_off.new.self c.args.at p indexed c.requires.within c.index_mut-packet.ensures.value flies
    c.take_off.ensures.entries c.take_off.ensures.in_flight c.take_off.ensures.awaiting
