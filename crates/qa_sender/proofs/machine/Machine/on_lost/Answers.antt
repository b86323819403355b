use Rattle.std.proofs.Common.{◌≡◌, ◌∙◌, ◌∷◌, ◌&&◌, ℕ, List, Some, true, refl, sym, ap, ap₂}
use Rattle.std.specs.List.{list_any}
use Rattle.qa_base.specs.declared.event.Event.TheVariants.{Lost}
use Rattle.qa_base.specs.machine.Loss.{declared, is_persistent}
use Rattle.qa_base.specs.machine.Packets.{packets}
use Rattle.qa_base.specs.values.Events.{is_named}
use Rattle.qa_sender.specs.connection.Changes.{completed}
use Rattle.qa_sender.specs.connection.Detecting.{search_in, whole_of}
use Rattle.qa_sender.specs.connection.Steps.{last_sent}
use Rattle.qa_sender.specs.declared.connection.detection.Detection.{Detection}
use Rattle.qa_base.specs.history.Declared.{is_named_free}
use Rattle.qa_sender.proofs.Acks.{sent_still}
use Rattle.qa_sender.proofs.Completing.{events_completed, looked_by, parts_completed}
use Rattle.qa_sender.proofs.Events.{stands_lost}
use Rattle.qa_sender.proofs.Losses.{completed_is_held, taken_losses}
use Rattle.qa_sender.proofs.Nameable.{free_told}
use Rattle.qa_sender.specs.Freeing.{free_of}
use Rattle.qa_sender.specs.Standing.{replaced}
use Rattle.qa_sent_packets.specs.Free.{is_free_by, taken_by}
use Rattle.qa_sent_packets.specs.Steps as steps
use Rattle.qa_sent_packets.specs.declared.free.FreePackets.{FreePackets}
use Rattle.qa_sender.proofs.machine.Machine.on_lost.Goals as goal

pub take-completes-requires : goal.take-completes-requires
take-completes-requires c = rw c.free_packets-free.ensures c.requires

pub returns : goal.returns
returns c = λ space k h stands run.
    let old = c.args.self.now in
    let ranges = c.args.ranges.now in
    let e = Lost c.args.time space ranges in
    let free = free_of old.connection in
    let are = free_told old.connection k h run.run.0 stands.connection in
    let took = c.take-completes in
    let taking : took.new.self ≡ replaced (taken_by free ranges) old.packets =
    took.ensures.packets ∙ ap₂ (λ (f : FreePackets) (rs : List (ℕ × ℕ)). replaced (taken_by f rs) old.packets) c.free_packets-free.ensures c.as_slice.ensures in
    let flag : took.result ≡ list_any (is_named_free k e h) (packets h) =
    took.ensures.any
    ∙ (ap₂ (λ (f : FreePackets) (rs : List (ℕ × ℕ)). list_any (λ p. is_free_by f p && is_named rs p.number) old.packets.packets) c.free_packets-free.ensures c.as_slice.ensures
    ∙ completed_is_held k h c.args.time space ranges run.run free are old.packets stands.packets) in
    let full : (d : Detection) → took.result ≡ true → whole_of (search_in old.connection) ≡ Some d → c.complete.new.self.connection ≡ completed d (last_sent k (declared k (e ∷ h))) (is_persistent k (e ∷ h)) old.connection =
    λ d completes at. c.complete.ensures.connection k (e ∷ h) d completes at run.run stands.connection.parts.header (looked_by k h old.connection d stands.connection at)
    (taken_losses k h c.args.time space ranges run.run free are (sym flag ∙ completes) old.packets took.new.self stands.packets taking) in
    let parts = parts_completed k h c.args.time space ranges old.connection c.complete.new.self.connection took.result stands.connection run flag c.complete.ensures.still full c.complete.ensures.range in
    let counted = events_completed k h c.args.time space ranges old.connection c.complete.new.self.connection took.result stands.connection flag c.complete.ensures.still full in
    c.finish.ensures k e h refl refl run (counted ∙ stands.connection.events) parts
    (stands_lost k h c.args.time space ranges run.run free are old.packets took.new.self c.declare_lost.new.self stands.packets taking (c.declare_lost.ensures ∙ ap (replaced steps.declared) c.complete.ensures.packets))
    (rw c.complete.ensures.numbers (sent_still old.numbers e h refl stands.numbers)) (rw c.complete.ensures.watch stands.watch)
