-- What the machine holds after a history.
--
-- `c` are the settings of the header, `h` is the history.
use Rattle.std.specs.Prelude.{List, length}
use Rattle.qa_base.specs.declared.event.Event.{Event}
use Rattle.qa_base.specs.declared.totals.Totals.{Totals}
use Rattle.qa_base.specs.machine.Estimates.{rtt}
use Rattle.qa_base.specs.machine.Loss.{bytes_in_flight, owed}
use Rattle.qa_base.specs.machine.Window.{window, ssthresh}
use Rattle.qa_base.specs.values.Settings.{Settings}
use Rattle.qa_base.specs.machine.Timer.{pto_count}

abbrev pub totals : Settings → List Event → Totals
totals c h = record {
  events = length h;
  window = window c h;
  ssthresh = ssthresh c h;
  bytes_in_flight = bytes_in_flight c h;
  latest_rtt = (rtt c h).latest_rtt;
  min_rtt = (rtt c h).min_rtt;
  smoothed_rtt = (rtt c h).smoothed_rtt;
  rttvar = (rtt c h).rttvar;
  pto_count = pto_count c h;
  owed = length (owed c h);
}
