use Rattle.std.proofs.Common.{◌∙◌, sym}
use Rattle.qa_convert.proofs.Passed.{passes_left_out}
use Rattle.qa_convert.specs.Rules.{rules_of}
use Rattle.qa_convert.proofs.converting.Converting.pass.Goals as goal

pub returns-then-branch-clause-passes : goal.returns-then-branch-clause-passes
returns-then-branch-clause-passes c =
    let w = c.args.self.now in
    let left = c.in_ok-leaves_out.ensures in
    rw (left.order, left.groups, left.events, left.ready, left.rules)
    (passes_left_out (rules_of w.conversion) w.retry c.args.event _ w.groups w.ready.items _ _ (sym left.left ∙ c.if-branch.true) left.told)
