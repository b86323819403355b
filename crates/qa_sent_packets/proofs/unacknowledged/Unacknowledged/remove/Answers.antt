use Rattle.std.proofs.Common.{◌∙◌, ◌++◌, ℕ, Bool, ap, sym, subst}
use Rattle.std.specs.Map.{remove_entry}
use Rattle.std.specs.BTreeMap.{is_at}
use Rattle.std.specs.Ordering.{nat_cmp}
use Rattle.qa_sent_packets.specs.Unacknowledged.{Entries, EntriesRise}
use Rattle.qa_sent_packets.proofs.Rising.{first_leaves, rising_left}
use Rattle.qa_sent_packets.proofs.unacknowledged.Unacknowledged.remove.Goals as goal

pub invariant_of-self : goal.invariant_of-self
invariant_of-self c =
    let t : ℕ → Bool = is_at (nat_cmp c.args.number) in
    let es = c.self.inside.gaps.entries in
    let fs = c.self.inside.recent.items in
    record {
      rising = subst EntriesRise (first_leaves c.args.number es fs c.pop_front.new.self.items c.self.invariant.rising (c.is_first.ensures c.if-is_first.true) c.pop_front.ensures.rest) (rising_left t (es ++ fs) c.self.invariant.rising);
      below = c.self.invariant.below;
    }

pub returns-then-is_first : goal.returns-then-is_first
returns-then-is_first c =
    let t : ℕ → Bool = is_at (nat_cmp c.args.number) in
    let es = c.self.inside.gaps.entries in
    let fs = c.self.inside.recent.items in
    record {
      entries = sym (first_leaves c.args.number es fs c.pop_front.new.self.items c.self.invariant.rising (c.is_first.ensures c.if-is_first.true) c.pop_front.ensures.rest)
          ∙ ap (λ (u : Entries). remove_entry t u.entries) c.self.view_is;
    }
