use Rattle.std.proofs.Common.{◌≡◌, [], ap, arith}
use Rattle.std.proofs.lemmas.Result.{on_ok_weaker}
use Rattle.qa_convert.proofs.Losses.{names_only, only_from, only_none}
use Rattle.qa_convert.specs.Losing.{packets_of}
use Rattle.qa_convert.specs.Telling.{Told, told_in}
use Rattle.qa_convert.proofs.conversion.Conversion.write_acks.Goals as goal
use Rattle.qa_convert.proofs.conversion.Conversion.write_acks.Goals.{in-Some, in-None}

pub returns-then-is_empty-clause-lost : goal.returns-then-is_empty-clause-lost
returns-then-is_empty-clause-lost c =
    let told : told_in c.settle_received.new.self.writing ≡ told_in c.args.self.now.writing = c.in_ok-settle_received.ensures.told in
    let same = ap (λ (t : Told). t.lost) told in
    elim c.match-first.branch [
      | in-Some w ↦
          rw (w.self-is, w.result-is, ← w.deref-in-Some.ensures.value)
          (on_ok_weaker w.lost_alone.result
          (λ all.
          only_from (packets_of w.deref-in-Some.result.now) [] (told_in c.args.self.now.writing) (told_in c.settle_received.new.self.writing) (told_in w.lost_alone.new.self.writing) same
          (names_only c.settle_received.new.self.writing.bare (packets_of w.deref-in-Some.result.now) (told_in c.settle_received.new.self.writing) (told_in w.lost_alone.new.self.writing) all))
          w.lost_alone.ensures.lost)
      | in-None w ↦ rw (w.self-is, w.result-is) (only_none (packets_of c.args.lost.items) [] _ _ (λ s n. omega arith) same)
    ]
