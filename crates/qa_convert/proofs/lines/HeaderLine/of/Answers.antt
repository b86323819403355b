use Rattle.serde_json.specs.View.{members_view}
use Rattle.qa_convert.proofs.lines.HeaderLine.of.Goals as goal
use Rattle.qa_format.specs.declared.line.Line.TheVariants as lines

pub invariant_of-result : goal.invariant_of-result
invariant_of-result c =
    let line = c.in_ok-push_noted.ensures in
    ((lines.Header c.args.header, members_view c.args.own.entries), tt, (line.proper, c.requires, line.short), rw c.new-text.ensures.items at line.ok)
