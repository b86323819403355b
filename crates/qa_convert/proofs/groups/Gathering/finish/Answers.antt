use Rattle.std.proofs.Common.{[], append-nil, refl}
use Rattle.qa_convert.proofs.Gathered.{gathers_closed, gathers_none, keeps_closed, last_closed, on_ok_both, some_group}
use Rattle.qa_convert.specs.Gathering.{told_by}
use Rattle.qa_convert.specs.Groups.{events_of}
use Rattle.qa_convert.proofs.groups.Gathering.finish.Goals as goal

pub returns-in-None-clause-goes : goal.returns-in-None-clause-goes
returns-in-None-clause-goes c =
    let w = c.args.self.now in
    let first = w.dialect.metrics_stand_before in
    let es = events_of first c.args.group in
    let left = rw c.in-None.is at (c.in_ok-before_closing.ensures first c.requires.single) in
    let kept =
    rw (append-nil (told_by first w.last)) at
    (keeps_closed first w.is_closed w.last w.«open» w.report es [] c.requires.unclosed c.requires.begun c.requires.report left.kept) in
    record {
      fit = record {
        last_is = last_closed w.is_closed w.last c.requires.fit.last_is;
        open_is = c.requires.fit.open_is;
        report_is = c.requires.fit.report_is;
        closed = λ is. c.requires.begun;
      };
      same = refl;
      none = λ is. (is, refl);
      gathers = gathers_none _ _ es c.args.out.now.items refl kept;
    }

pub returns-in-Some-clause-goes : goal.returns-in-Some-clause-goes
returns-in-Some-clause-goes c =
    let w = c.args.self.now in
    let first = w.dialect.metrics_stand_before in
    let es = events_of first c.args.group in
    let left = rw c.in-Some.is at (c.in_ok-before_closing.ensures first c.requires.single) in
    on_ok_both c.keep-in-Some.result
    (λ is handed. rw is (record {
      fit = record {
        last_is = left.last;
        open_is = c.requires.fit.open_is;
        report_is = c.requires.fit.report_is;
        closed = λ is. c.requires.begun;
      };
      same = refl;
      none = λ is. absurd (some_group c.in-Some.left is);
      gathers = gathers_closed first w.is_closed w.last w.«open» w.report es c.in-Some.left c.args.out.now.items c.keep-in-Some.new.out.items
          c.requires.unclosed c.requires.begun c.requires.report c.requires.fit.last_is left.kept handed;
    }))
    c.keep-in-Some.ensures.last c.keep-in-Some.ensures.out
