use Rattle.std.proofs.Common.{◌≡◌, ◌∙◌, ℕ, [], ◌∷◌, ◌==◌, length, not, option_map, true, false, Some, refl, sym, ap, subst, arith}
use Rattle.qa_base.specs.declared.event.Event.TheVariants.{Ack}
use Rattle.qa_base.specs.machine.Packets.{acknowledges_new}
use Rattle.qa_base.specs.values.Settings.{AreInRange}
use Rattle.qa_sender.specs.connection.Detecting.{search_by, search_of}
use Rattle.qa_sender.specs.connection.Known.{IsMeasured, acknowledged_by}
use Rattle.qa_sender.specs.declared.connection.connection.Connection.{Connection}
use Rattle.qa_sender.specs.Thresholds.{far_end}
use Rattle.qa_packet_numbers.specs.Sent.{AreSent}
use Rattle.qa_sent_packets.specs.Held.{Held}
use Rattle.qa_sender.proofs.connection_lemmas.OneMore.{acked_is, acked_measured, acked_old, measured_with, parts_with}
use Rattle.qa_sender.proofs.connection_lemmas.Detections.{acked_detected, acked_undetected, detected_as, mark_is}
use Rattle.qa_sender.proofs.connection_lemmas.Told.{new_is}
use Rattle.qa_base.specs.machine.Reno.{reno}
use Rattle.qa_sender.specs.connection.Changes.{acknowledged, grown, with_sample}
use Rattle.qa_sender.proofs.Acks.{none_by_length, sent_still}
use Rattle.qa_sender.proofs.Events.{newly_stand, nothing_owed, settled_covered, stands_acknowledged, stands_covered}
use Rattle.qa_sender.specs.Machine.{StandsOnceFound}
use Rattle.qa_sender.proofs.machine.Machine.on_ack.Goals as goal

pub find_losses-requires : goal.find_losses-requires
find_losses-requires c =
    rw (c.keep_detection.ensures.packets, c.in_ok-acknowledged.ensures.ok, c.as_slice-ranges.ensures) (settled_covered c.args.ack.now.space c.args.ack.now.ranges c.args.self.now.packets.packets c.requires)

pub returns-then-is_empty-clause-ok : goal.returns-then-is_empty-clause-ok
returns-then-is_empty-clause-ok c = λ k h stands run.
    let e = Ack c.args.ack.now in
    let old = c.args.self.now in
    let ps = c.in_ok-acknowledged.acknowledged.items in
    let are : ps ≡ acknowledged_by k e h = (rw c.as_slice-ranges.ensures at c.in_ok-acknowledged.ensures.found) ∙ newly_stand k h _ run.run old.packets stands.packets in
    let empty : (length ps == 0) ≡ true = sym (ap (λ n. n == 0) c.in_ok-acknowledged.acknowledged.ok.0) ∙ (sym c.is_empty.ensures ∙ c.if-is_empty.true) in
    let none : acknowledges_new (e ∷ h) ≡ false = sym (new_is k e h ps are) ∙ ap not empty in
    let nothing : [] ≡ acknowledged_by k e h = sym (none_by_length ps empty) ∙ are in
    let covered = stands_covered k h _ run.run none old.packets c.cover.new.packets stands.packets (rw c.as_slice-ranges.ensures at c.in_ok-acknowledged.ensures.ok) in
    c.finish.ensures k e h refl (ap (option_map (search_of k)) (acked_undetected k h c.args.ack.now none)) run (rw c.acknowledge.ensures stands.connection.events)
    (acked_old k h _ old.connection c.acknowledge.new.self stands.connection.parts
    c.greatest-largest.result c.greatest-largest.ensures c.acknowledge.ensures nothing none (nothing_owed k h c.args.ack.now none))
    (rw c.take_back.ensures covered) (sent_still old.numbers e h refl stands.numbers) stands.watch

pub returns-clause-ok : goal.returns-clause-ok
returns-clause-ok c = λ k h stands run.
    let e = Ack c.args.ack.now in
    let old = c.args.self.now in
    let ps = c.in_ok-acknowledged.acknowledged.items in
    let are : ps ≡ acknowledged_by k e h = (rw c.as_slice-ranges.ensures at c.in_ok-acknowledged.ensures.found) ∙ newly_stand k h _ run.run old.packets stands.packets in
    let full : (length ps == 0) ≡ false = sym (ap (λ n. n == 0) c.in_ok-acknowledged.acknowledged.ok.0) ∙ (sym c.is_empty.ensures ∙ c.if-is_empty.false) in
    let some : acknowledges_new (e ∷ h) ≡ true = sym (new_is k e h ps are) ∙ ap not full in
    let sampled_is = c.sample.ensures ∙ ap (λ qs. with_sample c.args.ack.now.time c.args.ack.now.delay c.greatest-largest.result qs c.acknowledge.new.self) c.deref.ensures.value in
    let grown_is = c.grow.ensures ∙ ap (λ qs. grown c.args.ack.now.app_limited qs c.find_losses.new.self.connection) c.deref-3.ensures.value in
    let measured = acked_measured k h _ old.connection c.acknowledge.new.self c.sample.new.self stands.connection.parts
    c.greatest-largest.result c.greatest-largest.ensures c.acknowledge.ensures ps are sampled_is in
    let at_time : StandsOnceFound c.cover.new.packets k (e ∷ h) c.args.ack.now.space c.args.ack.now.time = λ new l late is. stands_acknowledged k h _ run.run some l late old.packets c.cover.new.packets new stands.packets (rw c.as_slice-ranges.ensures at c.in_ok-acknowledged.ensures.ok) is in
    let in_time : StandsOnceFound c.cover.new.packets k (e ∷ h) c.args.ack.now.space c.get-2.result = subst (λ (now : ℕ). StandsOnceFound c.cover.new.packets k (e ∷ h) c.args.ack.now.space now) (sym c.get-2.ensures.value) at_time in
    let once : StandsOnceFound c.keep_detection.new.self.packets k (e ∷ h) c.args.ack.now.space c.get-2.result = subst (λ (held : Held). StandsOnceFound held k (e ∷ h) c.args.ack.now.space c.get-2.result) (sym c.keep_detection.ensures.packets) in_time in
    let numbers = sent_still old.numbers e h refl stands.numbers in
    let still : AreSent c.keep_detection.new.self.numbers (e ∷ h) = rw c.keep_detection.ensures.numbers numbers in
    let kept = c.keep_detection.new.self.connection in
    let x = kept.detection in
    let kept_is : kept ≡ record c.sample.new.self { detection = x } = c.keep_detection.ensures.connection in
    let measured_too : IsMeasured kept k (e ∷ h) = subst (λ (y : Connection). IsMeasured y k (e ∷ h)) (sym kept_is) (measured_with k (e ∷ h) c.sample.new.self x measured) in
    let covers : Connection = record c.acknowledge.new.self { detection = x } in
    let old_too : Connection = record old.connection { detection = x } in
    let parts = parts_with k h old.connection x stands.connection.parts in
    let covers_is : covers ≡ acknowledged c.args.ack.now.space c.greatest-largest.result old_too = ap (λ (y : Connection). record y { detection = x }) c.acknowledge.ensures in
    let samples_is : kept ≡ with_sample c.args.ack.now.time c.args.ack.now.delay c.greatest-largest.result ps covers = kept_is ∙ ap (λ (y : Connection). record y { detection = x }) sampled_is in
    let lost = c.find_losses.ensures.connection k (e ∷ h) run.run (λ p. refl) measured_too still once in
    let long = run.few in
    let before : c.sample.new.self.reno ≡ reno k h = rw (sampled_is, c.acknowledge.ensures) stands.connection.parts.reno in
    let mark = c.mark-mark.ensures ∙ mark_is k e h old.connection stands.connection.parts.header stands.connection.events run.few in
    let whole = detected_as c.args.ack.now.space c.get.result c.args.ack.now.time c.mark-mark.result c.sample.new.self.rtt c.sample.new.self.reno (far_end k (e ∷ h) c.args.ack.now.space) _ ps c.get.ensures.value c.deref-2.ensures.value
    ∙ acked_detected k h c.args.ack.now c.mark-mark.result c.sample.new.self.rtt c.sample.new.self.reno ps (far_end k (e ∷ h) c.args.ack.now.space) mark measured.rtt before refl are some run.fit.1 (omega (arith, long)) in
    let there : c.restart.new.self.detection ≡ x = rw (c.restart.ensures, grown_is, lost) refl in
    let detected = ap (search_by (Some c.args.ack.now.space)) (there ∙ c.keep_detection.ensures.detection k (e ∷ h) run.run measured numbers) ∙ ap (option_map (search_of k)) whole in
    c.finish-2.ensures k e h refl detected run (rw (c.restart.ensures, grown_is, lost, kept_is, sampled_is, c.acknowledge.ensures) stands.connection.events)
    (acked_is k h _ old_too covers kept c.find_losses.new.self.connection c.grow.new.self c.restart.new.self
    parts run (subst AreInRange measured_too.header c.find_losses.ensures.range) c.greatest-largest.result c.greatest-largest.ensures covers_is ps are some samples_is c.mark-mark.result mark lost grown_is c.restart.ensures)
    (rw c.take_back-2.ensures (c.find_losses.ensures.packets k (e ∷ h) run.run measured_too still once))
    (rw c.find_losses.ensures.numbers still) (rw (c.find_losses.ensures.watch, c.keep_detection.ensures.watch) stands.watch)
