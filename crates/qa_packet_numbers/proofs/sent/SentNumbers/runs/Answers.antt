use Rattle.std.proofs.Common.{◌≡◌, refl}
use Rattle.qa_base.specs.declared.space.Space.TheVariants.{Initial, Handshake, App}
use Rattle.qa_base.specs.machine.Kept.{numbers_of, runs_of}
use Rattle.qa_packet_numbers.proofs.Histories.{numbers_distinct, runs_at_most}
use Rattle.qa_packet_numbers.proofs.sent.SentNumbers.runs.Goals as goal

pub returns-clause-sent : goal.returns-clause-sent
returns-clause-sent c = λ settings h run sent.
    let each = rw (← c.self.view_is) at sent in
    let initial : c.runs.result ≡ runs_of h Initial = c.runs.ensures.count (numbers_of h Initial) (each.each Initial) (numbers_distinct settings h Initial run) in
    let handshake : c.runs-2.result ≡ runs_of h Handshake = c.runs-2.ensures.count (numbers_of h Handshake) (each.each Handshake) (numbers_distinct settings h Handshake run) in
    let app : c.runs-3.result ≡ runs_of h App = c.runs-3.ensures.count (numbers_of h App) (each.each App) (numbers_distinct settings h App run) in
    rw (c.from.ensures, c.from-2.ensures, c.from-3.ensures, initial, handshake, app) refl

pub returns-clause-bound : goal.returns-clause-bound
returns-clause-bound c = λ settings h run sent. rw (returns-clause-sent c settings h run sent) (runs_at_most h)
