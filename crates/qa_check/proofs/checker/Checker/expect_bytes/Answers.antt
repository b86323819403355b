use Rattle.std.proofs.Common.{◌∙◌, Err, false, sym, ap, arith}
use Rattle.std.specs.Result.{result_ok}
use Rattle.std.proofs.lemmas.Bool.{false≢true}
use Rattle.qa_check.proofs.Faults.{error_of, stops_differ}
use Rattle.qa_check.proofs.Growing.{whole_of, unread_adds, too_long}
use Rattle.qa_check.proofs.checker.Checker.expect_bytes.Goals as goal

pub returns-in-Err : goal.returns-in-Err
returns-in-Err g c =
    let expected = c.expect_line.ensures in
    record {
      failed = λ is. ap Err (error_of (sym c.in-Err.is ∙ expected.failed is));
      fails = λ is. expected.fails (c.in-Err.is ∙ ap Err (error_of is));
      ok = tt;
      decided = λ is. expected.decided (c.in-Err.is ∙ ap Err (error_of is)) c.args.bytes.now;
      unread = λ is none. expected.unread (c.in-Err.is ∙ ap Err (error_of is)) none c.args.bytes.now;
      kept = λ is. expected.kept (c.in-Err.is ∙ ap Err (error_of is));
    }

pub returns-then-bytes-gt-MAX_LINE_LENGTH : goal.returns-then-bytes-gt-MAX_LINE_LENGTH
returns-then-bytes-gt-MAX_LINE_LENGTH g c =
    let open_yet = c.in_default.ensures.ok in
    let stop = c.stop.ensures in
    record {
      failed = λ is. absurd (false≢true (sym (whole_of _ _ open_yet.0 false open_yet.1) ∙ is));
      fails = λ is. absurd (stops_differ (sym stop.result ∙ error_of is));
      ok = tt;
      decided = λ is.
          rw (← open_yet.0)
          (unread_adds _ c.expect_line.new.self c.stop.new.self _ _ stop.whole stop.decided stop.verdict open_yet.2 (too_long _ _ open_yet.3 (omega (arith, c.if-bytes-gt-MAX_LINE_LENGTH.true))));
      unread = λ is none. rw (← open_yet.0) (ap result_ok (too_long c.expect_line.new.self.lines c.args.bytes.now open_yet.3 (omega (arith, c.if-bytes-gt-MAX_LINE_LENGTH.true))));
      kept = λ is. stop.kept ∙ ap (λ k. k.ledger) open_yet.0;
    }

pub returns : goal.returns
returns g c =
    let open_yet = c.in_default.ensures.ok in
    record {
      failed = λ is. absurd (false≢true (sym (whole_of _ _ open_yet.0 false open_yet.1) ∙ is));
      fails = λ is. cc;
      ok = (open_yet.0, open_yet.1, open_yet.2, open_yet.3, omega (arith, c.if-bytes-gt-MAX_LINE_LENGTH.false));
      decided = λ is. cc;
      unread = λ is. cc;
      kept = λ is. cc;
    }
