use Rattle.std.proofs.Common.{◌≡◌, ◌∙◌, ◌<◌, ◌+◌, ℕ, List, [], ◌∷◌, ◌++◌, get_or, length, drop, Option, Some, None, refl, sym, ap, rules}
use Rattle.std.proofs.lemmas.List.{append_assoc, append-nil, at_drop_all, at_drop_more}
use Rattle.std.specs.Prelude.{option_and_then, option_map}
use Rattle.serde_json.specs.View.{view, items_view}
use Rattle.serde_json.specs.declared.value.Value.{Value}
use Rattle.qa_format.specs.format.Keys as keys
use Rattle.qa_read.proofs.ranges.pairs_of.Goals as goal

-- the pairs that were found, and then those of the values that are left
abbrev after : List (ℕ × ℕ) → List Value → Option (List (ℕ × ℕ))
after found values = option_map (λ ps. found ++ ps) (keys.pairs_of (items_view values))

abbrev and_then : List (ℕ × ℕ) → Option (ℕ × ℕ) → Option (List (ℕ × ℕ)) → Option (List (ℕ × ℕ))
and_then found next rest = option_map (λ ps. found ++ ps) (option_and_then (λ p. option_map (λ ps. p ∷ ps) rest) next)

-- what is left begins with the value at the index
begins : (found : List (ℕ × ℕ)) (values : List Value) (i : ℕ) (v : Value) (next : Option (ℕ × ℕ))
    → i < length values → v ≡ get_or values i v → next ≡ keys.pair_of (view v)
    → and_then found next (keys.pairs_of (items_view (drop (i + 1) values))) ≡ after found (drop i values)
begins found values i v next inside at is =
    ap (λ o. and_then found o (keys.pairs_of (items_view (drop (i + 1) values)))) is
    ∙ ap (λ x. after found (x ∷ drop (i + 1) values)) at
    ∙ sym (at_drop_more (after found) values i v inside)

-- one pair more was found
found_more : (found : List (ℕ × ℕ)) (p : ℕ × ℕ) (rest : Option (List (ℕ × ℕ)))
    → option_map (λ ps. (found ++ p ∷ []) ++ ps) rest ≡ and_then found (Some p) rest
found_more found p None = refl
found_more found p (Some ps) = ap Some (append_assoc found (p ∷ []) ps)

pub returns-in_default : goal.returns-in_default
returns-in_default c =
    let l = c.loop-value in
    let none = begins l.pairs.items _ l.value-index _ None c.loop-value-test.true c.value-item.is (sym c.in_default.is ∙ c.pair_of.ensures) ∙ l.invariant in
    search (rules, none)

pub returns : goal.returns
returns c =
    let l = c.loop-value in
    ap Some (sym (append-nil l.pairs.items)) ∙ sym (at_drop_all (after l.pairs.items) _ l.value-index c.loop-value-test.false) ∙ l.invariant

pub loop-value-preserved : goal.loop-value-preserved
loop-value-preserved c =
    let l = c.loop-value in
    rw c.in_ok-push.ensures.items (found_more l.pairs.items c.in-Some.pair _
    ∙ begins l.pairs.items _ l.value-index _ (Some c.in-Some.pair) c.loop-value-test.true c.value-item.is (sym c.in-Some.is ∙ c.pair_of.ensures)
    ∙ l.invariant)
