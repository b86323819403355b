use Rattle.std.proofs.Common.{◌∙◌, [], ◌++◌, ◌∷◌, refl, sym}
use Rattle.qa_why_command.proofs.Endings.{lead_end, lead_go, lead_stop, led_none, not_input}
use Rattle.qa_why_command.proofs.traces.tell_each.Goals as goal

pub loop-name-init : goal.loop-name-init
loop-name-init g c = record { endings = []; led = led_none _ _ _ _ c.new-tally.ensures; unread = λ none. refl }

pub returns-then-stops : goal.returns-then-stops
returns-then-stops g c = record {
  told = lead_stop _ _ _ _ _ _ _ _ _ _ _ c.loop-name-test.true c.loop-name.invariant.led c.tell_trace-ended.ensures.told c.count.ensures (sym c.stops.ensures ∙ c.if-stops.true);
  unread = λ none. c.tell_trace-ended.ensures.unread (not_input _ _ _ c.loop-name-test.true none) ∙ c.loop-name.invariant.unread none;
}

pub loop-name-preserved : goal.loop-name-preserved
loop-name-preserved g c = record {
  endings = c.loop-name.invariant.endings ++ c.tell_trace-ended.result ∷ [];
  led = lead_go _ _ _ _ _ _ _ _ _ _ _ c.loop-name-test.true c.loop-name.invariant.led c.tell_trace-ended.ensures.told c.count.ensures (sym c.stops.ensures ∙ c.if-stops.false);
  unread = λ none. c.tell_trace-ended.ensures.unread (not_input _ _ _ c.loop-name-test.true none) ∙ c.loop-name.invariant.unread none;
}

pub returns : goal.returns
returns g c = record {
  told = lead_end _ _ _ _ _ _ _ c.loop-name-test.false c.loop-name.invariant.led;
  unread = c.loop-name.invariant.unread;
}
