use Rattle.std.proofs.Common.{◌≡◌, ◌∙◌, true, false, sym, subst, arith}
use Rattle.qa_sent_packets.specs.Naming.{AreRisingFrom, turned}
use Rattle.qa_sent_packets.proofs.Stretches.{named_turned}
use Rattle.qa_sent_packets.proofs.named.NamedNumbers.start.Goals as goal
use Rattle.qa_sent_packets.proofs.named.NamedNumbers.start.Goals.{then-not-rising, else-not-rising}

pub returns-else-rising-clause-walk : goal.returns-else-rising-clause-walk
returns-else-rising-clause-walk c =
    let spans = c.args.spans.now in
    let falling = c.if-not-rising.falling in
    record {
      within = omega arith;
      high = omega arith;
      stretch = λ n low less. absurd (omega (arith, less));
      left = λ n low. named_turned falling spans n;
      order = λ is. elim c.if-not-rising.branch [
        | then-not-rising w ↦ subst (λ b. AreRisingFrom 0 (turned b spans)) (sym is) (w.are_rising-falling.ensures.order (sym w.falling-is ∙ is))
        | else-not-rising w ↦ (let none : false ≡ true = sym c.if-rising.false ∙ w.if-not-rising.false in cc)
      ];
    }
