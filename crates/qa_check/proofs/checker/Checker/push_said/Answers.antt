use Rattle.std.proofs.Common.{◌∙◌, Err, [], false, sym, ap}
use Rattle.std.proofs.lemmas.Bool.{false≢true}
use Rattle.std.proofs.lemmas.Result.{on_ok_weaker}
use Rattle.qa_format.specs.format.Reading.{reading}
use Rattle.qa_format.proofs.verdicts.RunsAccepted.{read_as_said}
use Rattle.qa_check.proofs.Faults.{error_of, decided_is_not_memory}
use Rattle.qa_check.proofs.Growing.{whole_of, taken_adds, refused_adds}
use Rattle.qa_check.proofs.checker.Checker.push_said.Goals as goal

pub returns-in-Err : goal.returns-in-Err
returns-in-Err g c =
    let expected = c.expect_line.ensures in
    record {
      failed = λ is. ap Err (error_of (sym c.in-Err.is ∙ expected.failed is));
      fails = λ is. (expected.fails (c.in-Err.is ∙ ap Err (error_of is))).1;
      good = tt;
      decided = λ is.
          let stopped = c.in-Err.is ∙ ap Err (error_of is) in
          ((expected.decided stopped []).0, λ l line. expected.decided stopped l);
      kept = λ is. expected.kept (c.in-Err.is ∙ ap Err (error_of is));
    }

pub returns : goal.returns
returns g c =
    let open_yet = c.in_default.ensures.ok in
    let taken = c.take.ensures in
    record {
      failed = λ is. absurd (false≢true (sym (whole_of _ _ open_yet.0 false open_yet.1) ∙ is));
      fails = taken.failed;
      good = on_ok_weaker c.take.result
          (λ admitted. (
            admitted.0,
            λ l line.
                rw open_yet.0 at (taken_adds _ _ _ l _ admitted.0 admitted.1 open_yet.2 (read_as_said reading _ l open_yet.3 line.0.1 ∙ line.1)),
          ))
          taken.ok;
      decided = λ is.
          let whole = taken.whole (λ memory. decided_is_not_memory (sym is ∙ memory)) in
          (whole, λ l line. rw open_yet.0 at (refused_adds _ _ _ l _ whole (taken.decided is) open_yet.2 (read_as_said reading _ l open_yet.3 line.0.1 ∙ line.1)));
      kept = λ is. taken.kept is ∙ ap (λ k. k.ledger) open_yet.0;
    }
