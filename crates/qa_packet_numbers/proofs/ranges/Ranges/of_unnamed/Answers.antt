use Rattle.std.proofs.Common.{◌≡◌, ◌∙◌, ◌<◌, ◌+◌, ℕ, List, true, false, length, drop, get_or, drop-cons, add-one, refl, ap, fold, sym}
use Rattle.std.proofs.lemmas.List.{at_drop_all}
use Rattle.qa_base.specs.values.Events.{is_named}
use Rattle.qa_packet_numbers.specs.Missing.{runs_of, unnamed, with_number}
use Rattle.qa_packet_numbers.proofs.Removed.{names_unnamed}
use Rattle.qa_packet_numbers.proofs.ranges.Ranges.of_unnamed.Goals as goal
use Rattle.qa_packet_numbers.proofs.ranges.Ranges.of_unnamed.Goals.{then-not-contains+in_ok-insert_range, else-not-contains}

pub returns-clause-names : goal.returns-clause-names
returns-clause-names c n =
    let spans = c.args.spans.now in
    let numbers = c.args.numbers.now in
    let set = c.loop-number.set in
    let all : set ≡ runs_of (unnamed spans numbers) =
    sym (at_drop_all (λ ns. fold with_number set (unnamed spans ns)) numbers c.loop-number.number-index c.loop-number-test.false) ∙ c.loop-number.invariant in
    ap (λ runs. is_named runs n) all ∙ names_unnamed spans numbers n

-- one more number, which no span names
with_next : (spans : List (ℕ × ℕ)) (numbers : List ℕ) (set : List (ℕ × ℕ)) (i x : ℕ) → i < length numbers → x ≡ get_or numbers i x → is_named spans x ≡ false
    → fold with_number (with_number set x) (unnamed spans (drop (i + 1) numbers)) ≡ fold with_number set (unnamed spans (drop i numbers))
with_next spans numbers set i x within is none = rw (add-one, drop-cons numbers i x within, ← is, none) refl

-- one more, which some span names
without_next : (spans : List (ℕ × ℕ)) (numbers : List ℕ) (set : List (ℕ × ℕ)) (i x : ℕ) → i < length numbers → x ≡ get_or numbers i x → is_named spans x ≡ true
    → fold with_number set (unnamed spans (drop (i + 1) numbers)) ≡ fold with_number set (unnamed spans (drop i numbers))
without_next spans numbers set i x within is named = rw (add-one, drop-cons numbers i x within, ← is, named) refl

pub loop-number-preserved : goal.loop-number-preserved
loop-number-preserved c =
    let spans = c.args.spans.now in
    let numbers = c.args.numbers.now in
    let i = c.loop-number.number-index in
    let x = c.number-item.result in
    let within = c.loop-number-test.true in
    let set = c.loop-number.set in
    let known = sym (c.in_ok-named.ensures x) ∙ sym c.contains.ensures in
    elim c.if-not-contains.branch [
      | then-not-contains+in_ok-insert_range w ↦ rw (w.set-is, w.in_ok-insert_range.ensures.exact, w.alone.ensures) (with_next spans numbers set i x within c.number-item.is (known ∙ w.if-not-contains.true) ∙ c.loop-number.invariant)
      | else-not-contains w ↦ rw w.set-is (without_next spans numbers set i x within c.number-item.is (known ∙ w.if-not-contains.false) ∙ c.loop-number.invariant)
    ]
