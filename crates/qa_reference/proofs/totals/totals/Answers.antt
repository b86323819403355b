use Rattle.std.proofs.Common.{◌∙◌, sym, ap, ap₂}
use Rattle.qa_base.proofs.machine.Histories.{length-history_of}
use Rattle.qa_base.specs.declared.header.Options.{Options}
use Rattle.qa_base.specs.machine.Packets.{history_of}
use Rattle.qa_base.specs.machine.Reno.{Control}
use Rattle.qa_base.specs.machine.Window.{ssthresh_by, window_by}
use Rattle.qa_ledger.proofs.Totals.{totals_are}
use Rattle.qa_reference.proofs.totals.totals.Goals as goal

pub returns : goal.returns
returns c =
    let who = c.args.header.now.options.controller in
    let asked = c.options-controller.ensures.value in
    let window = c.window_by.ensures
    ∙ (ap (λ (o : Options). window_by o.controller c.reno.inside.window c.reported_window.result) asked
    ∙ ap₂ (λ (r : Control) reported. window_by who r.window reported) (c.reno.view_is ∙ c.reno-reno.ensures) c.reported_window.ensures) in
    let ssthresh = c.ssthresh_by.ensures
    ∙ (ap (λ (o : Options). ssthresh_by o.controller c.reno-reno.result.ssthresh) asked
    ∙ ap (λ (r : Control). ssthresh_by who r.ssthresh) c.reno-reno.ensures) in
    c.totals.ensures
    ∙ totals_are c.args.header.now (history_of c.args.events.now) _ c.window_by.result c.ssthresh_by.result c.rtt.result c.bytes_in_flight.result c.pto_count.result c.owed_count.result (sym (length-history_of c.args.events.now))
    window ssthresh c.rtt.ensures c.bytes_in_flight.ensures c.pto_count.ensures.value c.owed_count.ensures
