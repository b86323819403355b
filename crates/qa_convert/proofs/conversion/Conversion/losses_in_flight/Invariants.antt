use Rattle.std.proofs.Common.{◌≡◌, take}
use Rattle.qa_convert.specs.Losing.{in_flight, packets_of}
use Rattle.qa_convert.specs.Rules.{rules_of}
use Rattle.qa_convert.specs.Telling.{told_in}
use Rattle.qa_convert.proofs.conversion.Conversion.losses_in_flight.Given as goal

abbrev pub invariant-loop-it : goal.invariant-loop-it
invariant-loop-it l = record {
  told : told_in l.self.writing ≡ told_in l.initial.self.writing;
  rules : rules_of l.self ≡ rules_of l.initial.self;
  bare : l.self.writing.bare ≡ l.initial.self.writing.bare;
  kept : packets_of l.kept.items ≡ in_flight l.initial.self.writing.bare (packets_of (take l.it-index l.losses));
}
