use Rattle.std.proofs.Common.{◌∷◌, [], refl}
use Rattle.qa_convert.proofs.Gathered.{gathers_none, keeps_opened, none_open, told_begun}
use Rattle.qa_convert.proofs.Opened.{fits_begun}
use Rattle.qa_convert.specs.Gathering.{Fits}
use Rattle.qa_convert.specs.Groups.{InPlace}
use Rattle.qa_convert.proofs.groups.Gathering.begin.Goals as goal

pub returns-clause-goes : goal.returns-clause-goes
returns-clause-goes c out =
    let w = c.args.self.now in
    let d = w.dialect in
    let begins = c.in_ok-about.ensures in
    let fits : Fits d.metrics_stand_before d.losses_stand_before c.in_ok-about.about c.new.result.items c.takes_of-takes.result =
    rw c.new.ensures.items
    (fits_begun d.metrics_stand_before d.losses_stand_before c.in_ok-about.about c.takes_of-takes.result c.args.event begins c.takes_of-takes.ensures.sent c.takes_of-takes.ensures.lost) in
    let place : InPlace c.in_ok-about.about c.new.result.items = rw c.new.ensures.items (record { about = begins.in_place; beside = refl }) in
    let told = told_begun d.metrics_stand_before c.in_ok-about.about c.new.result.items c.args.event begins.events c.new.ensures.items in
    record {
      fit = record {
        last_is = c.requires.fit.last_is;
        open_is = (place, fits);
        report_is = c.requires.fit.report_is;
        closed = λ is. none_open w.is_closed _ c.if-self.false is;
      };
      same = refl;
      none = λ is. (is, refl);
      gathers = gathers_none _ _ (c.args.event ∷ []) out refl
          (keeps_opened d.metrics_stand_before w.is_closed w.last w.«open» w.report _ (c.args.event ∷ []) c.if-self.false c.requires.report (rw c.requires.begun told));
    }
