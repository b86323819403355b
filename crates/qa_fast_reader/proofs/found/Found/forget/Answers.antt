use Rattle.qa_fast_reader.proofs.Finding.{no_event, no_time, no_space, no_number, no_size, no_eliciting, no_in_flight, no_permission, no_ranges, no_delay, no_limited, no_kind}
use Rattle.qa_fast_reader.proofs.found.Found.forget.Goals as goal

pub returns-in-Event : goal.returns-in-Event
returns-in-Event c = rw c.in-Event.is (no_event c.args.self.now)

pub returns-in-Time : goal.returns-in-Time
returns-in-Time c = rw c.in-Time.is (no_time c.args.self.now)

pub returns-in-Space : goal.returns-in-Space
returns-in-Space c = rw c.in-Space.is (no_space c.args.self.now)

pub returns-in-Number : goal.returns-in-Number
returns-in-Number c = rw c.in-Number.is (no_number c.args.self.now)

pub returns-in-Size : goal.returns-in-Size
returns-in-Size c = rw c.in-Size.is (no_size c.args.self.now)

pub returns-in-Eliciting : goal.returns-in-Eliciting
returns-in-Eliciting c = rw c.in-Eliciting.is (no_eliciting c.args.self.now)

pub returns-in-InFlight : goal.returns-in-InFlight
returns-in-InFlight c = rw c.in-InFlight.is (no_in_flight c.args.self.now)

pub returns-in-Leave : goal.returns-in-Leave
returns-in-Leave c = rw c.in-Leave.is (no_permission c.args.self.now)

pub returns-in-Ranges : goal.returns-in-Ranges
returns-in-Ranges c = rw c.in-Ranges.is (no_ranges c.args.self.now)

pub returns-in-Delay : goal.returns-in-Delay
returns-in-Delay c = rw c.in-Delay.is (no_delay c.args.self.now)

pub returns-in-Limited : goal.returns-in-Limited
returns-in-Limited c = rw c.in-Limited.is (no_limited c.args.self.now)

pub returns-in-Kind : goal.returns-in-Kind
returns-in-Kind c = rw c.in-Kind.is (no_kind c.args.self.now)
