use Rattle.std.proofs.Common.{◌∙◌, None, ap}
use Rattle.qa_base.specs.declared.header.Options.{Options}
use Rattle.qa_base.specs.values.Settings.{Settings}
use Rattle.qa_sent_packets.specs.Walks.{last_owed}
use Rattle.qa_sender.proofs.Losses.{last_owed_is_held}
use Rattle.qa_sender.proofs.machine.losses.Goals as goal

pub returns : goal.returns
returns c = λ k h holds run is_header is_rtt. record {
  last_lost = c.last_owed.ensures ∙ (ap (λ (o : Options). last_owed o.recovery_by_order None c.args.packets.now.packets) (c.options.ensures.value ∙ ap (λ (x : Settings). x.options) is_header) ∙ last_owed_is_held k h run c.args.packets.now holds);
  is_persistent = c.is_persistent.ensures k h holds run is_header is_rtt;
}
