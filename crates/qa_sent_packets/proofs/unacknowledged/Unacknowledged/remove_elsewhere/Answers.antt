use Rattle.std.proofs.Common.{◌∙◌, ◌<◌, ◌++◌, ℕ, Bool, ap, sym, subst}
use Rattle.std.specs.Map.{remove_entry}
use Rattle.std.specs.BTreeMap.{is_at}
use Rattle.std.specs.Ordering.{nat_cmp}
use Rattle.qa_sent_packets.specs.Unacknowledged.{Entries, EntriesRise}
use Rattle.qa_sent_packets.proofs.Rising.{all_left, remove_left, remove_right, rising_left}
use Rattle.qa_sent_packets.proofs.unacknowledged.Unacknowledged.remove_elsewhere.Goals as goal

pub invariant_of-self : goal.invariant_of-self
invariant_of-self c =
    let t : ℕ → Bool = is_at (nat_cmp c.args.number) in
    let es = c.self.inside.gaps.entries in
    let fs = c.self.inside.recent.items in
    record {
      rising = subst EntriesRise (remove_left t es fs _ (sym c.remove.ensures.value ∙ c.in-Some.is) ∙ ap (λ e. e ++ fs) (sym c.remove.ensures.entries)) (rising_left t (es ++ fs) c.self.invariant.rising);
      below = rw c.remove.ensures.entries (all_left (λ e. e.0 < c.self.inside.end) t es c.self.invariant.below);
    }

pub invariant_of-self-in-None : goal.invariant_of-self-in-None
invariant_of-self-in-None c =
    let t : ℕ → Bool = is_at (nat_cmp c.args.number) in
    let es = c.self.inside.gaps.entries in
    let fs = c.self.inside.recent.items in
    record {
      rising = subst EntriesRise
          (remove_right t es fs (sym c.remove.ensures.value ∙ c.in-None.is) ∙ (ap (λ r. es ++ r) (sym c.remove_recent.ensures) ∙ ap (λ e. e ++ c.remove_recent.new.recent.items) (sym c.in-None.ensures.unchanged)))
          (rising_left t (es ++ fs) c.self.invariant.rising);
      below = rw c.remove.ensures.entries (all_left (λ e. e.0 < c.self.inside.end) t es c.self.invariant.below);
    }

pub returns-in-Some : goal.returns-in-Some
returns-in-Some c =
    let t : ℕ → Bool = is_at (nat_cmp c.args.number) in
    let es = c.self.inside.gaps.entries in
    let fs = c.self.inside.recent.items in
    record { entries = ap (λ e. e ++ fs) c.remove.ensures.entries ∙ (sym (remove_left t es fs _ (sym c.remove.ensures.value ∙ c.in-Some.is)) ∙ ap (λ (u : Entries). remove_entry t u.entries) c.self.view_is) }

pub returns-in-None : goal.returns-in-None
returns-in-None c =
    let t : ℕ → Bool = is_at (nat_cmp c.args.number) in
    let es = c.self.inside.gaps.entries in
    let fs = c.self.inside.recent.items in
    record {
      entries = ap (λ e. e ++ c.remove_recent.new.recent.items) c.in-None.ensures.unchanged
          ∙ (ap (λ r. es ++ r) c.remove_recent.ensures
          ∙ (sym (remove_right t es fs (sym c.remove.ensures.value ∙ c.in-None.is)) ∙ ap (λ (u : Entries). remove_entry t u.entries) c.self.view_is));
    }
