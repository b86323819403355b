use Rattle.std.proofs.Common.{arith}
use Rattle.qa_fast_reader.proofs.Finding.{put_window, put_ssthresh, put_bytes_in_flight, put_latest_rtt, put_min_rtt, put_smoothed_rtt, put_rttvar}
use Rattle.qa_fast_reader.proofs.found.Found.metric.Goals as goal

pub returns-in-Window : goal.returns-in-Window
returns-in-Window c = rw c.in-Window.is (put_window c.args.self.now c.args.value (omega arith))

pub returns-in-Ssthresh : goal.returns-in-Ssthresh
returns-in-Ssthresh c = rw c.in-Ssthresh.is (put_ssthresh c.args.self.now c.args.value (omega arith))

pub returns-in-BytesInFlight : goal.returns-in-BytesInFlight
returns-in-BytesInFlight c = rw c.in-BytesInFlight.is (put_bytes_in_flight c.args.self.now c.args.value (omega arith))

pub returns-in-LatestRtt : goal.returns-in-LatestRtt
returns-in-LatestRtt c = rw c.in-LatestRtt.is (put_latest_rtt c.args.self.now c.args.value (omega arith))

pub returns-in-MinRtt : goal.returns-in-MinRtt
returns-in-MinRtt c = rw c.in-MinRtt.is (put_min_rtt c.args.self.now c.args.value (omega arith))

pub returns-in-SmoothedRtt : goal.returns-in-SmoothedRtt
returns-in-SmoothedRtt c = rw c.in-SmoothedRtt.is (put_smoothed_rtt c.args.self.now c.args.value (omega arith))

pub returns-in-Rttvar : goal.returns-in-Rttvar
returns-in-Rttvar c = rw c.in-Rttvar.is (put_rttvar c.args.self.now c.args.value (omega arith))
