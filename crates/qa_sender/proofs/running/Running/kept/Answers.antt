use Rattle.std.proofs.Common.{◌≡◌, ◌≤◌, ◌+◌, ◌*◌, arith, length, rules}
use Rattle.qa_base.specs.machine.Kept.{kept_count, runs}
use Rattle.qa_sender.proofs.Dropping.{kept_is_held}
use Rattle.qa_sent_packets.specs.Held.{aside_count}
use Rattle.qa_sender.proofs.running.Running.kept.Goals as goal

-- Written out, so that a wrong body is refused at this line.
pub returns-clause-count : goal.returns-clause-count
returns-clause-count c = search rules

pub returns-clause-bound : goal.returns-clause-bound
returns-clause-bound c = rw (← c.self.view_is) (λ settings h is.
    let run = is.after.run.run in
    let held = c.self.inside.machine.packets in
    let entries : c.kept_count.result ≤ 2 * length held.packets + aside_count held.strays = c.kept_count.ensures.bound in
    let many : aside_count held.strays + length held.packets ≤ kept_count settings h = kept_is_held settings h run held is.after.packets c.self.invariant.trimmed in
    let numbers : c.runs.result ≡ runs h = c.runs.ensures.sent settings h run (is.after.numbers is.works) in
    omega (arith, entries, many, numbers))
