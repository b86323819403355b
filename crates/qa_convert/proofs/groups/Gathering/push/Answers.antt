use Rattle.std.proofs.Common.{◌≡◌, ◌∙◌, ◌∷◌, [], Some, sym}
use Rattle.std.proofs.lemmas.Result.{on_ok_weaker}
use Rattle.qa_convert.proofs.Gathered.{gathers_report}
use Rattle.qa_convert.proofs.groups.Gathering.push.Goals as goal

pub returns-in-Some : goal.returns-in-Some
returns-in-Some c =
    let w = c.args.self.now in
    let first = w.dialect.metrics_stand_before in
    let was : w.report ≡ Some c.in-Some.report = sym c.take-2.ensures.value ∙ c.in-Some.is in
    let ensures = rw c.take-2.ensures.after at c.behind_report.ensures in
    on_ok_weaker c.behind_report.result
    (λ goes. record {
      fit = goes.fit;
      same = goes.same;
      none = goes.none;
      gathers = rw was (gathers_report first w.is_closed _ w.last w.«open» (Some c.in-Some.report) (c.args.event ∷ []) _ _ goes.gathers);
    })
    ensures
