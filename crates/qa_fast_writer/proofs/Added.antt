-- Members that are appended one after another.
use Rattle.std.proofs.Common.{◌≡◌, ◌∙◌, ℕ, List, [], ◌∷◌, ◌++◌, Result, Ok, Err, OnOk, refl, sym, ap, append_assoc, append-nil}
use Rattle.serde_json.specs.Data.{Data}
use Rattle.qa_base.specs.declared.key.Key.{Key}
use Rattle.qa_format.specs.format.Written.{Pairs}
use Rattle.qa_fast_writer.specs.Members.{all_led, led}

-- these members were appended
pub record Adds (base : List ℕ) (ps : Pairs) (out : List ℕ) : Type 0 where
  pub is : out ≡ base ++ all_led ps

all_led-append : (ps qs : Pairs) → all_led (ps ++ qs) ≡ all_led ps ++ all_led qs
all_led-append [] qs = refl
all_led-append (p ∷ ps) qs = ap (λ t. led p ++ t) (all_led-append ps qs) ∙ sym (append_assoc (led p) (all_led ps) (all_led qs))

pub none : (base : List ℕ) → Adds base [] base
none base = record { is = sym (append-nil base) }

pub some : {base old : List ℕ} {ps : Pairs} (new : List ℕ) (qs : Pairs) → Adds base ps old → new ≡ old ++ all_led qs → Adds base (ps ++ qs) new
some {base} {old} {ps} new qs adds is =
    record { is = is ∙ ap (λ t. t ++ all_led qs) adds.is ∙ append_assoc base (all_led ps) (all_led qs) ∙ ap (λ t. base ++ t) (sym (all_led-append ps qs)) }

pub one : {base old : List ℕ} {ps : Pairs} (new : List ℕ) (p : Key × Data) → Adds base ps old → new ≡ old ++ led p → Adds base (ps ++ p ∷ []) new
one {base} {old} {ps} new p adds is = some new (p ∷ []) adds (is ∙ ap (λ t. old ++ t) (sym (append-nil (led p))))

-- what follows from a last step that is done
pub last : {A E P Q : Type 0} (r : Result A E) → (P → Q) → OnOk r P → OnOk r Q
last (Ok a) f h = f h
last (Err e) f h = tt
