use Rattle.std.proofs.Common.{◌≡◌, ◌∙◌, ◌∷◌, ℕ, option_map, Some, refl, sym, ap, ap₂, subst}
use Rattle.qa_base.specs.declared.event.Event.TheVariants.{Timer}
use Rattle.qa_base.specs.declared.space.TimerKind.TheVariants.{Loss}
use Rattle.qa_base.specs.machine.Detection.{looks_at, old_at}
use Rattle.qa_base.specs.machine.Estimates.{rtt}
use Rattle.qa_base.specs.values.Settings.{AreInRange, early}
use Rattle.qa_sender.proofs.connection_lemmas.Detections.{mark_is, timed_detected}
use Rattle.qa_sender.proofs.connection_lemmas.Due.{loss_time_is}
use Rattle.qa_sender.proofs.connection_lemmas.OneMore.{parts_with, timed_is, timed_measured}
use Rattle.qa_base.proofs.history.Awaiting.{old_at_is}
use Rattle.qa_sender.proofs.Acks.{sent_still}
use Rattle.qa_sender.proofs.Events.{stands_loss_timer}
use Rattle.qa_packet_numbers.specs.Sent.{AreSent}
use Rattle.qa_sender.specs.connection.Detecting.{search_by, search_of}
use Rattle.qa_sender.specs.connection.Known.{HasParts, IsMeasured}
use Rattle.qa_sender.specs.declared.connection.connection.Connection.{Connection}
use Rattle.qa_sender.specs.Thresholds.{far_end}
use Rattle.qa_sender.specs.Machine.{StandsOnceFound}
use Rattle.qa_sender.proofs.machine.Machine.on_loss_timer.Goals as goal

pub returns : goal.returns
returns c = λ k h stands run.
    let old = c.args.self.now in
    let e = Timer c.args.time Loss c.args.space in
    let kept = c.keep_detection.new.self.connection in
    let x = kept.detection in
    let kept_is : kept ≡ record old.connection { detection = x } = c.keep_detection.ensures.connection in
    let parts : HasParts kept k h = subst (λ (y : Connection). HasParts y k h) (sym kept_is) (parts_with k h old.connection x stands.connection.parts) in
    let measured = timed_measured k h c.args.time c.args.space kept parts in
    let measured_at : IsMeasured old.connection k (e ∷ h) =
    let timed = timed_measured k h c.args.time c.args.space old.connection stands.connection.parts in record { header = timed.header; rtt = timed.rtt; spaces = timed.spaces } in
    let soon : c.timer_early-early.result ≡ early k = c.timer_early-early.ensures.value ∙ ap early stands.connection.parts.header in
    let opened = c.open_in-open.ensures k h run.run.0 stands.packets in
    let due : c.loss_time-due.result ≡ old_at k (rtt k h) h c.args.space =
    c.loss_time-due.ensures ∙ (loss_time_is old.connection c.open_in-open.result k h c.args.space stands.connection opened ∙ old_at_is k h c.args.time c.args.space run.run) in
    let looked : c.looks_at-looked.result ≡ looks_at (early k) c.args.time (old_at k (rtt k h) h c.args.space) =
    c.looks_at-looked.ensures ∙ ap₂ (λ tolerance at. looks_at tolerance c.args.time at) soon due in
    let at_due : StandsOnceFound old.packets k (e ∷ h) c.args.space (looks_at (early k) c.args.time (old_at k (rtt k h) h c.args.space)) =
    λ new l late is. stands_loss_timer k h c.args.time c.args.space run.run l late old.packets new stands.packets is in
    let once : StandsOnceFound c.keep_detection.new.self.packets k (e ∷ h) c.args.space c.looks_at-looked.result =
    rw c.keep_detection.ensures.packets (subst (λ (now : ℕ). StandsOnceFound old.packets k (e ∷ h) c.args.space now) (sym looked) at_due) in
    let numbers = sent_still old.numbers e h refl stands.numbers in
    let still : AreSent c.keep_detection.new.self.numbers (e ∷ h) = rw c.keep_detection.ensures.numbers numbers in
    let lost = c.find_losses.ensures.connection k (e ∷ h) run.run (λ p. refl) measured still once in
    let mark = c.mark-mark.ensures ∙ mark_is k e h old.connection stands.connection.parts.header stands.connection.events run.few in
    let whole = timed_detected k h c.args.time c.args.space c.looks_at-looked.result c.mark-mark.result old.connection.rtt old.connection.reno (far_end k (e ∷ h) c.args.space) mark looked stands.connection.parts.rtt stands.connection.parts.reno refl in
    let there : c.find_losses.new.self.connection.detection ≡ x = ap (λ (y : Connection). y.detection) lost in
    let detected = ap (search_by (Some c.args.space)) (there ∙ c.keep_detection.ensures.detection k (e ∷ h) run.run measured_at numbers) ∙ ap (option_map (search_of k)) whole in
    c.finish.ensures k e h refl detected run (rw (lost, kept_is) stands.connection.events)
    (rw lost (timed_is k h c.args.time c.args.space kept parts run (subst AreInRange measured.header c.find_losses.ensures.range) c.mark-mark.result mark))
    (c.find_losses.ensures.packets k (e ∷ h) run.run measured still once)
    (rw c.find_losses.ensures.numbers still) (rw (c.find_losses.ensures.watch, c.keep_detection.ensures.watch) stands.watch)
