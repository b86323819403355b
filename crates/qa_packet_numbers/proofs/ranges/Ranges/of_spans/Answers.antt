use Rattle.std.proofs.Common.{◌≡◌, ◌∙◌, ◌+◌, ℕ, Bool, true, false, ◌&&◌, ◌||◌, List, ◌∷◌, drop, sym, ap}
use Rattle.std.specs.Prelude.{nat_le}
use Rattle.std.proofs.lemmas.List.{at_drop_more, drop_all}
use Rattle.std.proofs.lemmas.List.Sorted.{list_any-IsPermutation}
use Rattle.qa_base.specs.values.Events.{is_named}
use Rattle.qa_packet_numbers.proofs.ranges.Ranges.of_spans.Goals as goal

pub loop-span-init : goal.loop-span-init
loop-span-init c n =
    let named : List (ℕ × ℕ) → Bool = λ spans. is_named spans n in
    let copied : c.in_ok-rising.rising.items ≡ c.args.spans.now = c.in_ok-rising.ensures.items_if_clones_equal (λ x y is. is) in
    let sorted = c.deref-span-items.result.now in
    ap (λ (runs : List (ℕ × ℕ)). named runs || named sorted) c.new-set.ensures
    ∙ (ap named c.deref-span-items.ensures.value
    ∙ (sym (list_any-IsPermutation (λ (range : ℕ × ℕ). nat_le range.0 n && nat_le n range.1) c.in_ok-rising.rising.items c.sort_unstable_by_key.new.self.items c.sort_unstable_by_key.ensures.permutation)
    ∙ ap named copied))

-- a span moves from those that are left to the set
moves : (new span old left whole : Bool) → new ≡ (span || old) → (old || (span || left)) ≡ whole → (new || left) ≡ whole
moves new true true left whole is all = ap (λ b. b || left) is ∙ all
moves new true false left whole is all = ap (λ b. b || left) is ∙ all
moves new false true left whole is all = ap (λ b. b || left) is ∙ all
moves new false false left whole is all = ap (λ b. b || left) is ∙ all

pub loop-span-preserved : goal.loop-span-preserved
loop-span-preserved c n =
    let items = c.deref-span-items.result.now in
    let left = drop (c.loop-span.span-index + 1) items in
    let span = c.span-item.result in
    let first = at_drop_more (λ (spans : List (ℕ × ℕ)). is_named spans n) items c.loop-span.span-index span c.loop-span-test.true in
    let here = sym c.span-item.is in
    moves (is_named c.insert_range.new.self n) (nat_le span.0 n && nat_le n span.1) (is_named c.loop-span.set n) (is_named left n) (is_named c.args.spans.now n)
    (c.in_ok-insert_range.ensures.ok n)
    (ap (λ b. is_named c.loop-span.set n || b) (sym (first ∙ ap (λ (range : ℕ × ℕ). is_named (range ∷ left) n) here)) ∙ c.loop-span.invariant n)

or_none : (named whole : Bool) → (named || false) ≡ whole → named ≡ whole
or_none true whole is = is
or_none false whole is = is

pub returns : goal.returns
returns c n =
    let none = drop_all c.loop-span.span-index c.deref-span-items.result.now c.loop-span-test.false in
    or_none (is_named c.loop-span.set n) (is_named c.args.spans.now n)
    (ap (λ (spans : List (ℕ × ℕ)). is_named c.loop-span.set n || is_named spans n) (sym none) ∙ c.loop-span.invariant n)
