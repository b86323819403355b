use Rattle.std.proofs.Common.{◌≡◌, ◌∙◌, ℕ, ap, false, sym, true}
use Rattle.std.specs.BTreeSet.{BTreeSet, insert_key}
use Rattle.std.specs.Ordering.{nat_cmp}
use Rattle.qa_base.specs.values.Events.{is_space}
use Rattle.qa_convert.proofs.Named.{passed_over, same_space, small_with, taken_in}
use Rattle.qa_convert.proofs.losing.numbers_of.Goals as goal
use Rattle.qa_convert.proofs.losing.numbers_of.Goals.{then-eq+in_ok-insert, else-eq}

pub loop-it-preserved : goal.loop-it-preserved
loop-it-preserved c =
    let s = c.args.space in
    let l = c.it-item.result in
    let ks = c.loop-it.sorted.keys in
    let i = c.loop-it.it-index in
    let was = c.loop-it.invariant in
    let same = sym (same_space l.lost.space s) ∙ sym c.eq.ensures in
    elim c.if-eq.branch [
      | then-eq+in_ok-insert w ↦
          let keys : c.if-eq.sorted.keys ≡ insert_key nat_cmp ks l.lost.number =
          ap (λ (set : BTreeSet ℕ). set.keys) w.sorted-is ∙ w.in_ok-insert.ensures.keys ∙ ap (insert_key nat_cmp ks) w.get.ensures.value in
          let of_space : is_space s l.lost.space ≡ true = same ∙ w.if-eq.true in
          rw keys (record {
            small = small_with l.lost.number ks w.get.ensures.range was.small;
            numbers = λ n. taken_in s n c.args.losses.now i l ks c.loop-it-test.true c.it-item.is of_space (was.numbers n);
          })
      | else-eq w ↦
          let keys : c.if-eq.sorted.keys ≡ ks = ap (λ (set : BTreeSet ℕ). set.keys) w.sorted-is in
          let apart : is_space s l.lost.space ≡ false = same ∙ w.if-eq.false in
          rw keys (record {
            small = was.small;
            numbers = λ n. passed_over s n c.args.losses.now i l ks c.loop-it-test.true c.it-item.is apart (was.numbers n);
          })
    ]
