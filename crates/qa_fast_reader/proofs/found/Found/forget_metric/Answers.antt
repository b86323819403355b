use Rattle.qa_fast_reader.proofs.Finding.{no_window, no_ssthresh, no_bytes_in_flight, no_latest_rtt, no_min_rtt, no_smoothed_rtt, no_rttvar}
use Rattle.qa_fast_reader.proofs.found.Found.forget_metric.Goals as goal

pub returns-in-Window : goal.returns-in-Window
returns-in-Window c = rw c.in-Window.is (no_window c.args.self.now)

pub returns-in-Ssthresh : goal.returns-in-Ssthresh
returns-in-Ssthresh c = rw c.in-Ssthresh.is (no_ssthresh c.args.self.now)

pub returns-in-BytesInFlight : goal.returns-in-BytesInFlight
returns-in-BytesInFlight c = rw c.in-BytesInFlight.is (no_bytes_in_flight c.args.self.now)

pub returns-in-LatestRtt : goal.returns-in-LatestRtt
returns-in-LatestRtt c = rw c.in-LatestRtt.is (no_latest_rtt c.args.self.now)

pub returns-in-MinRtt : goal.returns-in-MinRtt
returns-in-MinRtt c = rw c.in-MinRtt.is (no_min_rtt c.args.self.now)

pub returns-in-SmoothedRtt : goal.returns-in-SmoothedRtt
returns-in-SmoothedRtt c = rw c.in-SmoothedRtt.is (no_smoothed_rtt c.args.self.now)

pub returns-in-Rttvar : goal.returns-in-Rttvar
returns-in-Rttvar c = rw c.in-Rttvar.is (no_rttvar c.args.self.now)
