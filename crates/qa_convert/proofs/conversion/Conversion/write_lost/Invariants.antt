use Rattle.std.proofs.Common.{◌≡◌, filter, take, true}
use Rattle.std.specs.List.{list_any}
use Rattle.qa_base.specs.declared.space.Space.{Space}
use Rattle.qa_base.specs.values.Events.{is_space}
use Rattle.qa_base.specs.values.PerSpace.{of_space}
use Rattle.qa_convert.specs.Losing.{Names, packets_of}
use Rattle.qa_convert.specs.Rules.{rules_of}
use Rattle.qa_convert.specs.Telling.{told_in}
use Rattle.qa_convert.specs.declared.event.LostPacket.{LostPacket}
use Rattle.qa_convert.specs.declared.groups.LostAt.{LostAt}
use Rattle.qa_convert.proofs.conversion.Conversion.write_lost.Given as goal

abbrev pub invariant-loop-it : goal.invariant-loop-it
invariant-loop-it l = record {
  sent : (told_in l.self.writing).sent ≡ (told_in l.initial.self.writing).sent;
  timers : (told_in l.self.writing).timers ≡ (told_in l.initial.self.writing).timers;
  keys : (told_in l.self.writing).keys ≡ (told_in l.initial.self.writing).keys;
  acks : (told_in l.self.writing).acks ≡ (told_in l.initial.self.writing).acks;
  rules : rules_of l.self ≡ rules_of l.initial.self;
  bare : l.self.writing.bare ≡ l.initial.self.writing.bare;
  lost : Names (filter (λ (p : LostPacket). of_space p.space l.written) (packets_of l.it-items)) (told_in l.initial.self.writing) (told_in l.self.writing);
  all : (s : Space) → list_any (λ (x : LostAt). is_space s x.lost.space) (take l.it-index l.it-items) ≡ true → of_space s l.written ≡ true;
}
