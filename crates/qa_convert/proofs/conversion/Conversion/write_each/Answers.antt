use Rattle.std.proofs.Common.{◌≡◌, ◌∙◌, ◌+◌, ◌<◌, ◌++◌, ◌∷◌, [], List, ap, arith, get_or, length, refl, sym, subst, take}
use Rattle.std.proofs.lemmas.List.{take_more}
use Rattle.qa_convert.proofs.Delayed.{more_added, none_added}
use Rattle.qa_convert.proofs.Losses.{leaves_none, leaves_then, only_none}
use Rattle.qa_convert.specs.AckDelays.{AddsAcks}
use Rattle.qa_convert.specs.Losing.{packets_of}
use Rattle.qa_convert.specs.Telling.{told_in}
use Rattle.qa_convert.specs.declared.packet.LoggedAck.{LoggedAck}
use Rattle.qa_convert.proofs.conversion.Conversion.write_each.Goals as goal

pub loop-ack-init : goal.loop-ack-init
loop-ack-init c = record {
  acks = none_added c.args.before.decoding c.args.packet.now.packet.space [] (told_in c.args.self.now.writing) (told_in c.args.self.now.writing) refl refl;
  sent = refl;
  timers = refl;
  keys = refl;
  rules = refl;
  lost = only_none (packets_of c.args.lost.now) (packets_of c.args.lost.now) _ _ (λ s n. omega arith) refl;
}

pub loop-ack-preserved : goal.loop-ack-preserved
loop-ack-preserved c =
    let d = c.args.before.decoding in
    let s = c.args.packet.now.packet.space in
    let acks = c.args.packet.now.packet.acks.items in
    let i = c.loop-ack.ack-index in
    let ack = c.ack-item.result in
    let is : get_or acks i ack ≡ ack = ap (λ (xs : List LoggedAck). get_or xs i ack) (sym c.deref-ack-items.ensures.value) ∙ sym c.ack-item.is in
    let within : i < length acks = subst (λ (xs : List LoggedAck). i < length xs) c.deref-ack-items.ensures.value c.loop-ack-test.true in
    let more : take (i + 1) acks ≡ take i acks ++ ack ∷ [] = take_more acks i ack within ∙ ap (λ x. take i acks ++ x ∷ []) is in
    record {
      acks = subst (λ (xs : List LoggedAck). AddsAcks d s xs (told_in c.args.self.now.writing) (told_in c.write_ack.new.self.writing)) (sym more)
          (more_added d s (take i acks) (ack ∷ []) (told_in c.args.self.now.writing) (told_in c.loop-ack.self.writing) (told_in c.write_ack.new.self.writing)
          c.loop-ack.invariant.acks c.in_ok-write_ack.ensures.acks);
      sent = c.in_ok-write_ack.ensures.sent ∙ c.loop-ack.invariant.sent;
      timers = c.in_ok-write_ack.ensures.timers ∙ c.loop-ack.invariant.timers;
      keys = c.in_ok-write_ack.ensures.keys ∙ c.loop-ack.invariant.keys;
      rules = c.in_ok-write_ack.ensures.rules ∙ c.loop-ack.invariant.rules;
      lost = leaves_then (packets_of c.args.lost.now) (packets_of c.loop-ack.lost.now) [] _ _ _ c.loop-ack.invariant.lost c.in_ok-write_ack.ensures.lost;
    }

pub returns-clause-lost : goal.returns-clause-lost
returns-clause-lost c = leaves_none (packets_of c.args.lost.now) (packets_of c.loop-ack.lost.now) _ _ c.loop-ack.invariant.lost
