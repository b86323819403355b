use Rattle.qa_ledger.proofs.Parts.{found_in_parts}
use Rattle.qa_ledger.proofs.violating.violations.Goals as goal

pub returns : goal.returns
returns g c s h tells =
    found_in_parts s h c.args.event.now _ _ _ _ _ _ _ _ c.new-found.ensures.items (c.broken_of_packets.ensures s h tells) c.in_ok-push_broken.ensures
    (c.broken_of_answers.ensures s h tells) c.in_ok-push_broken-2.ensures (c.in_ok-push_metrics.ensures s h tells) (c.broken_of_lateness.ensures s h tells) c.in_ok-push_broken-3.ensures
