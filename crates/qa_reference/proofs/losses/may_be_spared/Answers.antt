use Rattle.std.proofs.Common.{◌≡◌, ◌∙◌, ◌&&◌, Option, ℕ, not, sym, ap}
use Rattle.std.specs.Prelude.{nat_lt}
use Rattle.qa_base.specs.machine.Detection.{is_far_below, is_old, may_be_spared}
use Rattle.qa_base.specs.machine.Packets.{history_of}
use Rattle.qa_base.specs.values.Settings.{is_may}
use Rattle.qa_reference.specs.Looks.{Seen}
use Rattle.qa_reference.proofs.Thirds.{behind_two}
use Rattle.qa_reference.proofs.losses.may_be_spared.Goals as goal

pub returns-then-is_far_enough : goal.returns-then-is_far_enough
returns-then-is_far_enough c =
    let h = history_of c.args.events.now in
    let s = c.look.inside.header in
    let r = c.look.inside.rtt in
    let p = c.args.packet in
    let largest = c.in-Some.largest in
    let told : not c.is_old.result ≡ (nat_lt p.number largest && (is_may s.options.loss_by_number && is_far_below s h largest p) && not (is_old s r c.args.now p)) =
    ap not c.is_old.ensures
    ∙ behind_two (nat_lt p.number largest) (is_may s.options.loss_by_number && is_far_below s h largest p) (not (is_old s r c.args.now p)) (sym c.is_far_enough.ensures ∙ c.if-is_far_enough.true) in
    told
    ∙ (sym (ap (λ (o : Option ℕ). may_be_spared s r h c.args.now o p) c.in-Some.is)
    ∙ ap (λ (x : Seen). may_be_spared x.header x.rtt h c.args.now x.largest p) c.look.view_is)
