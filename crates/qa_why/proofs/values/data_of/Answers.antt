use Rattle.std.proofs.Common.{◌≡◌, Bool, true, false, refl}
use Rattle.std.specs.Str.{is_utf8}
use Rattle.std.proofs.lemmas.Str.{IsUtf8-from_is_utf8, is_utf8-from_IsUtf8}
use Rattle.qa_why.specs.Values.{data_of}
use Rattle.qa_why.proofs.values.data_of.Goals as goal

false_unless : (b : Bool) → (b ≡ true → ⊥) → b ≡ false
false_unless true never = absurd (never refl)
false_unless false never = refl

pub returns-in_default : goal.returns-in_default
unfolding data_of
returns-in_default c =
    let not_text : is_utf8 c.args.line.now ≡ false =
    false_unless _ (λ h. c.in_default.ensures.cases.0 (IsUtf8-from_is_utf8 _ h))
    in rw not_text refl

pub returns-in-Ok-from_str : goal.returns-in-Ok-from_str
unfolding data_of
returns-in-Ok-from_str c =
    let is_text : is_utf8 c.args.line.now ≡ true = is_utf8-from_IsUtf8 _ c.in-Ok.ensures.cases.1 in
    rw (is_text, ← c.in-Ok.ensures.cases.0, c.in-Ok-from_str.ensures.ok) refl
