use Rattle.std.proofs.Common.{◌≡◌, ◌<◌, ◌≤◌, List, [], ◌∷◌, length, None, refl, arith}
use Rattle.serde_json.specs.View.{items_view}
use Rattle.serde_json.specs.declared.value.Value.{Value}
use Rattle.qa_format.specs.format.Keys.{two_of}
use Rattle.qa_read.proofs.ranges.pair_of.Goals as goal

fewer : (vs : List Value) → length vs < 2 → None ≡ two_of (items_view vs)
fewer [] h = refl
fewer (a ∷ []) h = refl
fewer (a ∷ b ∷ vs) h = absurd (omega arith)

more : (vs : List Value) → 3 ≤ length vs → None ≡ two_of (items_view vs)
more [] h = absurd (omega arith)
more (a ∷ []) h = absurd (omega arith)
more (a ∷ b ∷ []) h = absurd (omega arith)
more (a ∷ b ∷ d ∷ vs) h = refl

pub returns-in_default : goal.returns-in_default
returns-in_default c = rw (← c.in_ok-as_array.ensures, ← c.as_slice.ensures.value) (fewer _ c.in_default.len_below)

pub returns-in_default-2 : goal.returns-in_default-2
returns-in_default-2 c = rw (← c.in_ok-as_array.ensures, ← c.as_slice.ensures.value) (more _ c.in_default.len_at_least)
