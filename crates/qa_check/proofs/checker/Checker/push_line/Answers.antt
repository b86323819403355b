use Rattle.std.proofs.Common.{◌∙◌, Err, false, sym, ap}
use Rattle.std.proofs.lemmas.Bool.{false≢true}
use Rattle.std.proofs.lemmas.Result.{on_ok_weaker}
use Rattle.qa_check.proofs.Faults.{error_of}
use Rattle.qa_check.proofs.Growing.{whole_of}
use Rattle.qa_check.proofs.checker.Checker.push_line.Goals as goal

pub returns-in-Err : goal.returns-in-Err
returns-in-Err g c =
    let expected = c.expect_bytes.ensures in
    record {
      failed = λ is. ap Err (error_of (sym c.in-Err.is ∙ expected.failed is));
      fails = λ is. (expected.fails (c.in-Err.is ∙ ap Err (error_of is))).1;
      good = tt;
      decided = λ is. expected.decided (c.in-Err.is ∙ ap Err (error_of is));
      kept = λ is. expected.kept (c.in-Err.is ∙ ap Err (error_of is));
    }

pub returns : goal.returns
returns g c =
    let open_yet = c.in_default.ensures.ok in
    let gives = c.read_line-read.ensures.read in
    let taken = c.take_read.ensures in
    record {
      failed = λ is. absurd (false≢true (sym (whole_of _ _ open_yet.0 false open_yet.1) ∙ is));
      fails = taken.fails;
      good = rw open_yet.0 at (on_ok_weaker c.take_read.result (λ adds. adds c.args.bytes.now open_yet.4 gives) taken.good);
      decided = λ is. rw open_yet.0 at (taken.decided is c.args.bytes.now open_yet.4 gives);
      kept = λ is. taken.kept is ∙ ap (λ k. k.ledger) open_yet.0;
    }
