use Rattle.std.proofs.Common.{◌≡◌, length, sym, rules}
use Rattle.qa_sent_packets.proofs.Rising.{first_beyond, first_of_none}
use Rattle.qa_sent_packets.proofs.unacknowledged.first_gap.Goals as goal
use Rattle.qa_sent_packets.proofs.unacknowledged.first_gap.Goals.{then-end-lo-via-then-end-lo, then-end-lo-via-else-end-lo+then-is_empty}

pub returns-then-end-lo : goal.returns-then-end-lo
returns-then-end-lo c = elim c.then-end-lo.branch [
  | then-end-lo-via-then-end-lo w ↦ sym (first_beyond c.args.end c.args.lo c.args.gaps.now.entries c.requires w.if-end-lo.true)
  | then-end-lo-via-else-end-lo+then-is_empty w ↦ (
      let none : length c.args.gaps.now.entries ≡ 0 = search (rules, w.is_empty.ensures, w.if-is_empty.true) in
      sym (first_of_none c.args.lo c.args.gaps.now.entries none))
]
