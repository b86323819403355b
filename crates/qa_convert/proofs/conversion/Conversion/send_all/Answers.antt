use Rattle.std.proofs.Common.{◌≡◌, ◌∙◌, ◌+◌, ◌++◌, ◌∷◌, [], List, ap, refl, sym, subst, take}
use Rattle.std.proofs.lemmas.List.{take_all, take_more}
use Rattle.qa_base.specs.declared.space.Space.TheVariants.{Initial}
use Rattle.qa_convert.proofs.Keyed.{nothing_gone}
use Rattle.qa_convert.proofs.Sent.{wrote_more, wrote_none}
use Rattle.qa_convert.specs.Sending.{Wrote}
use Rattle.qa_convert.specs.Rules.{Rules}
use Rattle.qa_convert.specs.Telling.{Retired, told_in}
use Rattle.qa_convert.specs.declared.sending.Outgoing.{Outgoing}
use Rattle.qa_convert.specs.declared.conversion.Conversion.{Conversion}
use Rattle.qa_convert.proofs.conversion.Conversion.send_all.Goals as goal
use Rattle.qa_convert.proofs.conversion.Conversion.send_all.Goals.{then-is_reported+in_ok-forget+in_ok-report, else-is_reported}

pub loop-packet-init : goal.loop-packet-init
loop-packet-init c = record { wrote = wrote_none c.args.self.now.keys.retired (told_in c.args.self.now.writing); rules = refl }

pub loop-packet-preserved : goal.loop-packet-preserved
loop-packet-preserved c =
    let os = c.args.packets.now in
    let retired = c.args.self.now.keys.retired in
    let i = c.loop-packet.packet-index in
    let o = c.packet-item.result in
    let more : take (i + 1) os ≡ take i os ++ o ∷ [] = take_more os i o c.loop-packet-test.true ∙ ap (λ x. take i os ++ x ∷ []) (sym c.packet-item.is) in
    record {
      wrote = subst (λ (all : List Outgoing). Wrote retired all (told_in c.args.self.now.writing) (told_in c.send.new.self.writing)) (sym more)
          (wrote_more retired (take i os) (o ∷ []) _ _ _ c.loop-packet.invariant.wrote
          (subst (λ (known : Retired). Wrote known (o ∷ []) (told_in c.loop-packet.self.writing) (told_in c.send.new.self.writing))
          (ap (λ (r : Rules). r.keys.retired) c.loop-packet.invariant.rules) c.in_ok-is_late.ensures.wrote));
      rules = c.in_ok-is_late.ensures.rules ∙ c.loop-packet.invariant.rules;
    }

pub returns-in_ok-discard_initial-clause-wrote : goal.returns-in_ok-discard_initial-clause-wrote
returns-in_ok-discard_initial-clause-wrote c =
    let reported : told_in c.if-is_reported.self.writing ≡ told_in c.loop-packet.self.writing =
    elim c.if-is_reported.branch [
      | then-is_reported+in_ok-forget+in_ok-report w ↦ ap (λ (x : Conversion). told_in x.writing) w.self-is ∙ w.in_ok-report.ensures.told ∙ w.in_ok-forget.ensures.told
      | else-is_reported w ↦ ap (λ (x : Conversion). told_in x.writing) w.self-is
    ] in
    let same : told_in c.discard_initial.new.writing ≡ told_in c.loop-packet.self.writing =
    nothing_gone _ Initial _ _ refl c.in_ok-discard_initial.ensures.told ∙ reported in
    rw same (subst (λ (os : List Outgoing). Wrote c.args.self.now.keys.retired os (told_in c.args.self.now.writing) (told_in c.loop-packet.self.writing))
    (take_all c.loop-packet.packet-index c.args.packets.now c.loop-packet-test.false) c.loop-packet.invariant.wrote)
