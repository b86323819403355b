use Rattle.std.proofs.Common.{◌∙◌, true, false, refl, sym, ap, arith}
use Rattle.std.specs.Result.{result_ok}
use Rattle.std.proofs.lemmas.Bool.{false≢true}
use Rattle.qa_check.proofs.Faults.{ok_is_no_err, stops_differ, error_of, memory_is_not_decided, decided_is_not_memory}
use Rattle.qa_check.proofs.Growing.{count_of, whole_of, undecided, not_undecided, fixed_adds, unread_adds, too_many}
use Rattle.qa_check.proofs.checker.Checker.expect_line.Goals as goal

pub returns-then-self : goal.returns-then-self
returns-then-self g c =
    let failed = whole_of _ _ c.self.view_is true c.if-self.true in
    record {
      failed = λ is. refl;
      fails = λ is. (failed, failed);
      ok = tt;
      decided = λ is. absurd (memory_is_not_decided is);
      unread = λ is. absurd (memory_is_not_decided is);
      kept = λ is. absurd (memory_is_not_decided is);
    }

pub returns-then-is_some : goal.returns-then-is_some
returns-then-is_some g c =
    let whole = whole_of _ _ c.self.view_is false c.if-self.false in
    record {
      failed = λ is. absurd (false≢true (sym whole ∙ is));
      fails = λ is. absurd (decided_is_not_memory is);
      ok = tt;
      decided = rw (← c.self.view_is) (λ is l. (c.if-self.false, fixed_adds _ _ _ _ _ _ (sym c.is_some.ensures ∙ c.if-is_some.true)));
      unread = λ is none. absurd (not_undecided _ _ c.self.view_is _ c.is_some.ensures c.if-is_some.true none);
      kept = λ is. refl;
    }

pub returns-then-self-ge-MAX_LINES : goal.returns-then-self-ge-MAX_LINES
returns-then-self-ge-MAX_LINES g c =
    let whole = whole_of _ _ c.self.view_is false c.if-self.false in
    let stop = c.stop.ensures in
    record {
      failed = λ is. absurd (false≢true (sym whole ∙ is));
      fails = λ is. absurd (stops_differ (sym stop.result ∙ error_of is));
      ok = tt;
      decided = λ is l.
          let count = count_of _ _ c.self.view_is in
          let says = too_many _ l (omega (arith, c.if-self-ge-MAX_LINES.true, count)) in
          let none = undecided _ _ c.self.view_is _ c.is_some.ensures c.if-is_some.false in
          unread_adds _ c.args.self.now c.stop.new.self l _ stop.whole stop.decided stop.verdict none says;
      unread = λ is none l. let count = count_of _ _ c.self.view_is in ap result_ok (too_many _ l (omega (arith, c.if-self-ge-MAX_LINES.true, count)));
      kept = λ is. stop.kept;
    }

pub returns : goal.returns
returns g c =
    let whole = whole_of _ _ c.self.view_is false c.if-self.false in
    let count = count_of _ _ c.self.view_is in
    record {
      failed = λ is. absurd (false≢true (sym whole ∙ is));
      fails = λ is. absurd (ok_is_no_err is);
      ok = (refl, whole, undecided _ _ c.self.view_is _ c.is_some.ensures c.if-is_some.false, omega (arith, c.if-self-ge-MAX_LINES.false, count));
      decided = λ is. absurd (ok_is_no_err is);
      unread = λ is. absurd (ok_is_no_err is);
      kept = λ is. absurd (ok_is_no_err is);
    }
