use Rattle.std.proofs.Common.{ap}
use Rattle.qa_violations.proofs.all.listing.Listed.note_said.Goals as goal

pub returns : goal.returns
returns g c = λ count os before bytes ds header h lists keeps stands.
    let noted = c.in_ok-note_line.ensures count os before bytes ds header h lists keeps stands in
    (noted.0, noted.1, c.unit-self.ensures c.requires.works header h stands, ap (λ (t : _). t.events) (c.state.ensures.totals header h stands))
