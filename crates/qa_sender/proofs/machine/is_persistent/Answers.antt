use Rattle.std.proofs.Common.{◌≡◌, ◌∙◌, None, Some, ap, rules}
use Rattle.qa_base.specs.machine.Rtt.{persistent_after}
use Rattle.qa_base.specs.values.Settings.{Settings, granularity}
use Rattle.qa_sender.proofs.Acks.{unsampled, persists}
use Rattle.qa_sender.proofs.machine.is_persistent.Goals as goal

pub returns-in-None : goal.returns-in-None
returns-in-None c = λ k h stands run is_header is_rtt.
    let none : c.args.rtt.now.first_rtt_sample ≡ None = search rules in
    unsampled k h run c.args.rtt.now is_rtt none

pub returns-in-Some : goal.returns-in-Some
returns-in-Some c = λ k h stands run is_header is_rtt.
    let first : c.args.rtt.now.first_rtt_sample ≡ Some c.in-Some.first = search rules in
    let delay : c.of.result ≡ c.args.header.now.max_ack_delay = search rules in
    let coarse : c.granularity.result ≡ granularity c.args.header.now = search rules in
    persists k h run c.args.rtt.now is_rtt c.in-Some.first first c.args.packets.now stands c.persistent_after-limit.result c.of.result
    (c.persistent_after-limit.ensures.value ∙ ap (λ g. persistent_after g c.args.rtt.now c.of.result) (coarse ∙ ap granularity is_header)) (delay ∙ ap (λ (s : Settings). s.max_ack_delay) is_header) c.is_persistent.result c.is_persistent.ensures
