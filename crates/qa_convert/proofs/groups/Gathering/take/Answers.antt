use Rattle.std.proofs.Common.{◌∙◌, ◌∷◌, [], refl, sym}
use Rattle.std.proofs.lemmas.Result.{on_ok_weaker}
use Rattle.qa_convert.proofs.Gathered.{gathers_none, keeps_opened, none_open}
use Rattle.qa_convert.proofs.Grouped.{gathers_then}
use Rattle.qa_convert.proofs.groups.Gathering.take.Goals as goal

pub returns-in-None-clause-goes : goal.returns-in-None-clause-goes
returns-in-None-clause-goes c =
    let w = c.args.self.now in
    let goes = rw c.in-None.is at c.in_ok-with.ensures in
    record {
      fit = record {
        last_is = c.requires.fit.last_is;
        open_is = goes.0;
        report_is = c.requires.fit.report_is;
        closed = λ is. none_open w.is_closed _ c.if-self.false is;
      };
      same = refl;
      none = λ is. (is, refl);
      gathers = gathers_none _ _ (c.args.event ∷ []) c.args.out.now.items refl
          (keeps_opened w.dialect.metrics_stand_before w.is_closed w.last w.«open» w.report c.with.new.self (c.args.event ∷ []) c.if-self.false c.requires.report
          (rw c.in-Some.is goes.1));
    }

pub returns-in_ok-close-in-Some-2-clause-goes : goal.returns-in_ok-close-in-Some-2-clause-goes
returns-in_ok-close-in-Some-2-clause-goes c =
    let left = rw c.in-Some-2.is at c.in_ok-with.ensures in
    let ended = rw (left.0, sym c.in-Some.is) at c.in_ok-close-in-Some-2.ensures.goes in
    on_ok_weaker c.begin-in-Some-2.result
    (λ goes.
    let begun = rw left.1 at (goes c.close.new.out.items) in
    record {
      fit = begun.fit;
      same = begun.same ∙ ended.same;
      none = λ is. let before = ended.none (begun.none is).0 in (before.0, (begun.none is).1 ∙ before.1);
      gathers = gathers_then _ _ _ [] (c.args.event ∷ []) _ _ _ ended.gathers begun.gathers;
    })
    c.begin-in-Some-2.ensures.goes
