use Rattle.std.proofs.Common.{◌≡◌, take}
use Rattle.qa_convert.specs.Rules.{rules_of}
use Rattle.qa_convert.specs.Sending.{Wrote}
use Rattle.qa_convert.specs.Telling.{told_in}
use Rattle.qa_convert.proofs.conversion.Conversion.send_all.Given as goal

abbrev pub invariant-loop-packet : goal.invariant-loop-packet
invariant-loop-packet l = record {
  wrote : Wrote l.initial.self.keys.retired (take l.packet-index l.packets) (told_in l.initial.self.writing) (told_in l.self.writing);
  rules : rules_of l.self ≡ rules_of l.initial.self;
}
