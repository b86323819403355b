-- Whether packets were sent before another.
use Rattle.std.proofs.Common.{◌≡◌, List, [], ◌∷◌, ◌||◌, true, false, not, inl, inr, refl, sym, ◌∙◌}
use Rattle.std.specs.List.{AllByRecursion, list_all}
use Rattle.std.specs.Prelude.{nat_lt}
use Rattle.std.proofs.lemmas.Bool.{and_from, and_parts, cases_Bool, false≢true, le-leb, leb-true, lt-ltb, ltb-true, or_cases, or_left, or_right, not_from_false, not_from_true}
use Rattle.qa_base.specs.values.Events.{is_space}
use Rattle.qa_sent_packets.specs.Held.{IsBefore, is_before}
use Rattle.qa_sent_packets.specs.declared.packet.SentPacket.{SentPacket}

lower : (p q : SentPacket) → (not (is_space p.space q.space) || nat_lt q.number p.number) ≡ true → is_space p.space q.space ≡ true → nat_lt q.number p.number ≡ true
lower p q is same = elim (or_cases _ _ is) [
  | inl other ↦ absurd (false≢true (sym (not_from_true _ same) ∙ other))
  | inr less ↦ less
]

was_before : (p q : SentPacket) → is_before p q ≡ true → IsBefore p q
was_before p q is =
    let placed = and_parts _ _ is in
    let both = and_parts _ _ placed.1 in
    record {
      place = ltb-true _ _ placed.0;
      time = leb-true _ _ both.0;
      number = λ same. ltb-true _ _ (lower p q both.1 same);
    }

is_before_by : (p q : SentPacket) → IsBefore p q → is_before p q ≡ true
is_before_by p q before = and_from _ _ (lt-ltb _ _ before.place) (and_from _ _ (le-leb _ _ before.time) (elim (cases_Bool (is_space p.space q.space)) [
  | inl same ↦ or_right _ _ (lt-ltb _ _ (before.number same))
  | inr other ↦ or_left _ _ (not_from_false _ other)
]))

-- each was sent before it where the test says so
pub were_before : (p : SentPacket) (qs : List SentPacket) → list_all (is_before p) qs ≡ true → AllByRecursion (λ q. IsBefore p q) qs
were_before p [] is = tt
were_before p (q ∷ qs) is = let both = and_parts _ _ is in (was_before p q both.0, were_before p qs both.1)

all_before : (p : SentPacket) (qs : List SentPacket) → AllByRecursion (λ q. IsBefore p q) qs → list_all (is_before p) qs ≡ true
all_before p [] before = refl
all_before p (q ∷ qs) before = and_from _ _ (is_before_by p q before.0) (all_before p qs before.1)

-- and one was not where it says no
pub one_was_not : (p : SentPacket) (qs : List SentPacket) → list_all (is_before p) qs ≡ false → AllByRecursion (λ q. IsBefore p q) qs → ⊥
one_was_not p qs is before = false≢true (sym is ∙ all_before p qs before)
