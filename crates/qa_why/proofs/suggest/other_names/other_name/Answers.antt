use Rattle.std.proofs.Common.{◌∙◌, ◌++◌, ap₂, inl, inr, sym}
use Rattle.std.specs.Option.{option_or}
use Rattle.qa_why.proofs.suggest_lemmas.Named.{named-append}
use Rattle.qa_why.specs.suggest.OtherNames.{of_ack, of_event, of_metrics, of_packet, of_space}
use Rattle.qa_why.proofs.suggest.other_names.other_name.Goals as goal

pub returns-in-Sent : goal.returns-in-Sent
returns-in-Sent c =
    let name = c.args.name.now in
    let of_both = c.or.ensures ∙ ap₂ option_or c.of_event.ensures c.of_space.ensures ∙ sym (named-append of_event of_space name) in
    rw c.in-Sent.is (c.or-in-Sent.ensures ∙ ap₂ option_or of_both c.of_packet.ensures ∙ sym (named-append (of_event ++ of_space) of_packet name))

pub returns-in-Ack : goal.returns-in-Ack
returns-in-Ack c =
    let name = c.args.name.now in
    let of_both = c.or-in-Ack.ensures ∙ ap₂ option_or c.of_event-in-Ack.ensures c.of_space-in-Ack.ensures ∙ sym (named-append of_event of_space name) in
    rw c.in-Ack.is (c.or-in-Ack-2.ensures ∙ ap₂ option_or of_both c.of_ack.ensures ∙ sym (named-append (of_event ++ of_space) of_ack name))

pub returns-in-Metrics : goal.returns-in-Metrics
returns-in-Metrics c =
    let name = c.args.name.now in
    rw c.in-Metrics.is (c.or-in-Metrics.ensures ∙ ap₂ option_or c.of_event-in-Metrics.ensures c.of_metrics.ensures ∙ sym (named-append of_event of_metrics name))

pub returns-in-Lost : goal.returns-in-Lost
returns-in-Lost c =
    let name = c.args.name.now in
    let of_both = c.or-in-Lost.ensures ∙ ap₂ option_or c.of_event-in-Lost.ensures c.of_space-in-Lost.ensures ∙ sym (named-append of_event of_space name) in
    elim c.in-Lost.is [
      | inl is ↦ rw is of_both
      | inr other ↦ elim other [ inl is ↦ rw is of_both | inr is ↦ rw is of_both ]
    ]
