use Rattle.std.proofs.Common.{◌≡◌, ◌≤◌, length, take}
use Rattle.qa_convert.specs.Losing.{Names, in_flight, lost_in}
use Rattle.qa_convert.specs.Rules.{rules_of, rules_stated}
use Rattle.qa_convert.specs.Telling.{told_in}
use Rattle.qa_convert.proofs.conversion.Conversion.detections.Given as goal

abbrev pub invariant-loop-place : goal.invariant-loop-place
invariant-loop-place l = record {
  begun : l.begun ≤ length l.events;
  sent : (told_in l.self.writing).sent ≡ (told_in l.initial.self.writing).sent;
  timers : (told_in l.self.writing).timers ≡ (told_in l.initial.self.writing).timers;
  keys : (told_in l.self.writing).keys ≡ (told_in l.initial.self.writing).keys;
  acks : (told_in l.self.writing).acks ≡ (told_in l.initial.self.writing).acks;
  rules : rules_of l.self ≡ rules_stated (take l.begun l.events) (rules_of l.initial.self);
  bare : l.self.writing.bare ≡ l.initial.self.writing.bare;
  lost : Names (in_flight l.initial.self.writing.bare (lost_in (take l.begun l.events))) (told_in l.initial.self.writing) (told_in l.self.writing);
}
