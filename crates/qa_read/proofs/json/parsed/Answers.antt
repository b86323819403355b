use Rattle.std.proofs.Common.{◌≡◌, Bool, true, false, refl}
use Rattle.std.specs.Str.{is_utf8}
use Rattle.std.proofs.lemmas.Str.{IsUtf8-from_is_utf8, is_utf8-from_IsUtf8}
use Rattle.qa_format.specs.format.Reading.{json_of}
use Rattle.qa_read.proofs.json.parsed.Goals as goal

false_unless : (b : Bool) → (b ≡ true → ⊥) → b ≡ false
false_unless true never = absurd (never refl)
false_unless false never = refl

pub returns-in_default-clause-read : goal.returns-in_default-clause-read
unfolding json_of
returns-in_default-clause-read c =
    let not_text : is_utf8 c.args.bytes.now ≡ false =
    false_unless _ (λ h. c.in_default.ensures.cases.0 (IsUtf8-from_is_utf8 _ h))
    in rw not_text refl

pub returns-in-Ok-from_str-clause-read : goal.returns-in-Ok-from_str-clause-read
unfolding json_of
returns-in-Ok-from_str-clause-read c =
    let is_text : is_utf8 c.args.bytes.now ≡ true = is_utf8-from_IsUtf8 _ c.in-Ok.ensures.cases.1 in
    rw (is_text, ← c.in-Ok.ensures.cases.0, c.in-Ok-from_str.ensures.ok) refl

pub returns-after-is_memory-clause-memory : goal.returns-after-is_memory-clause-memory
returns-after-is_memory-clause-memory c is = is_utf8-from_IsUtf8 _ c.in-Ok.ensures.cases.1
