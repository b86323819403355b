use Rattle.std.proofs.Common.{◌∙◌, sym}
use Rattle.qa_packet_numbers.specs.Runs.{part_above, part_below}
use Rattle.qa_packet_numbers.proofs.Removed.{cut_both, cut_first, cut_last}
use Rattle.qa_packet_numbers.proofs.removing.cut.Goals as goal

pub returns-in_ok-insert-in-Some-Some-clause-ok : goal.returns-in_ok-insert-in-Some-Some-clause-ok
returns-in_ok-insert-in-Some-Some-clause-ok c =
    let both = c.in-Some-Some in
    cut_both c.args.runs.now.items c.insert.new.self.items c.args.place (part_below c.args.number c.args.run) (part_above c.args.number c.args.run) both.below both.above
    (sym c.part_below.ensures ∙ both.is-0) (sym c.part_above.ensures ∙ both.is-1) c.in_ok-insert-in-Some-Some.ensures.items c.requires.within

pub returns-in-Some-None-clause-ok : goal.returns-in-Some-None-clause-ok
returns-in-Some-None-clause-ok c =
    cut_first c.args.runs.now.items c.args.place (part_below c.args.number c.args.run) (part_above c.args.number c.args.run) c.in-Some-None.part
    (sym c.part_below.ensures ∙ c.in-Some-None.is-0) (sym c.part_above.ensures ∙ c.in-Some-None.is-1) c.requires.within

pub returns-in-None-Some-clause-ok : goal.returns-in-None-Some-clause-ok
returns-in-None-Some-clause-ok c =
    cut_last c.args.runs.now.items c.args.place (part_below c.args.number c.args.run) (part_above c.args.number c.args.run) c.in-None-Some.part
    (sym c.part_below.ensures ∙ c.in-None-Some.is-0) (sym c.part_above.ensures ∙ c.in-None-Some.is-1) c.requires.within
