use Rattle.std.proofs.Common.{◌∙◌, ◌∷◌, []}
use Rattle.std.proofs.lemmas.Result.{on_ok_weaker}
use Rattle.qa_convert.proofs.Gathered.{same_event}
use Rattle.qa_convert.proofs.Grouped.{gathers_then}
use Rattle.qa_convert.proofs.groups.Gathering.behind_report.Goals as goal

pub returns-in_ok-close-in-Sent : goal.returns-in_ok-close-in-Sent
returns-in_ok-close-in-Sent c =
    let e = c.args.event in
    let r = c.args.report in
    let ended = c.in_ok-close-in-Sent.ensures.goes in
    on_ok_weaker c.begin_reported.result
    (λ goes.
    let begun = rw (same_event e _ c.in-Sent.is) at (goes c.close.new.out.items) in
    record {
      fit = begun.fit;
      same = begun.same ∙ ended.same;
      none = λ is. let before = ended.none (begun.none is).0 in (before.0, (begun.none is).1 ∙ before.1);
      gathers = gathers_then _ _ _ [] (r ∷ e ∷ []) _ _ _ ended.gathers begun.gathers;
    })
    c.begin_reported.ensures

pub returns-in_ok-take-in_default : goal.returns-in_ok-take-in_default
returns-in_ok-take-in_default c =
    let e = c.args.event in
    let r = c.args.report in
    let taken = c.in_ok-take-in_default.ensures.goes in
    on_ok_weaker c.keep_report.result
    (λ kept.
    record {
      fit = kept.fit;
      same = kept.same ∙ taken.same;
      none = λ is. let before = taken.none (kept.none is).0 in (before.0, (kept.none is).1 ∙ before.1);
      gathers = gathers_then _ _ _ (r ∷ []) (e ∷ []) _ _ _ taken.gathers kept.gathers;
    })
    c.keep_report.ensures
