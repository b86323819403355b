use Rattle.std.proofs.Common.{◌≡◌, ◌∙◌, ◌++◌, [], ◌∷◌, ℕ, List, true, false, ap, map, refl, rules, sym}
use Rattle.std.proofs.lemmas.List.{map-append}
use Rattle.std.specs.List.{list_any}
use Rattle.std.specs.Prelude.{bytes_eq, string_bytes}
use Rattle.qa_why_command.specs.warnings.Found.{MetricsKey, at}
use Rattle.qa_why_command.specs.warnings.Texts.{sentence}
use Rattle.qa_why_command.specs.warnings.Warnings.{told}
use Rattle.qa_why_command.proofs.warnings_lemmas.Telling.{again_stays, full_stays, key_told, one_more, or_none}
use Rattle.qa_why_command.proofs.warnings.told.Told.tell_metrics_key.Goals as goal

pub returns-then-is_full : goal.returns-then-is_full
returns-then-is_full c = λ fs tells.
    full_stays c.args.name.now c.args.self.now fs (at c.args.n (MetricsKey c.args.version (string_bytes c.args.key.now)) ∷ []) (sym c.is_full.ensures ∙ c.if-is_full.true) tells

pub returns-then-has_key : goal.returns-then-has_key
returns-then-has_key c = λ fs tells.
    let k = string_bytes c.args.key.now in
    let looked = rw c.as_str.ensures.value at c.has_key.ensures in
    let known : list_any (λ m. bytes_eq (string_bytes m) k) c.args.self.now.keys.items ≡ true = sym looked ∙ c.if-has_key.true in
    again_stays c.args.name.now c.args.self.now fs (at c.args.n (MetricsKey c.args.version k)) (key_told (told fs) c.args.n c.args.version k c.args.self.now.keys.items true tells.2 known) tells

pub returns : goal.returns
returns c = λ fs tells.
    let k = string_bytes c.args.key.now in
    let concern = MetricsKey c.args.version k in
    let looked = rw c.as_str.ensures.value at c.has_key.ensures in
    let unknown : list_any (λ m. bytes_eq (string_bytes m) k) c.args.self.now.keys.items ≡ false = sym looked ∙ c.if-has_key.false in
    let copied : string_bytes c.in_ok-clone.field-0 ≡ k = search rules in
    let keys = ap (map string_bytes) c.in_ok-push.ensures.items ∙ (map-append string_bytes c.args.self.now.keys.items (c.in_ok-clone.field-0 ∷ []) ∙ ap (λ m. map string_bytes c.args.self.now.keys.items ++ m ∷ []) copied) in
    let pushed = rw c.as_str-2.ensures.value at c.in_ok-push_metrics_key.ensures in
    let text = pushed ∙ ap (λ (t : List ℕ). t ++ sentence concern) c.in_ok-push_head.ensures in
    one_more c.args.name.now _ _ _ _ _ _ _ _ fs (at c.args.n concern) (sym c.is_full.ensures ∙ c.if-is_full.false)
    (key_told (told fs) c.args.n c.args.version k c.args.self.now.keys.items false tells.2 unknown) tells text refl keys (or_none _)
