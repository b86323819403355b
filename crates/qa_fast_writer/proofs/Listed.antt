-- Ranges as the text of a list.
use Rattle.std.proofs.Common.{◌≡◌, ◌∙◌, ℕ, List, [], ◌∷◌, ◌++◌, true, false, refl, sym, ap, append_assoc}
use Rattle.serde_json.specs.Data.{array}
use Rattle.serde_json.specs.Written.{compact_text, items_text}
use Rattle.qa_format.specs.format.Written.{integer_pairs}
use Rattle.qa_fast_writer.specs.Members.{led_pairs, pair_text, pairs_text}

others_text : (ranges : List (ℕ × ℕ)) → items_text true (integer_pairs ranges) ≡ led_pairs ranges ++ 93 ∷ []
others_text [] = refl
others_text (range ∷ ranges) =
    ap (λ t. 44 ∷ (pair_text range ++ t)) (others_text ranges)
    ∙ sym (append_assoc (44 ∷ pair_text range) (led_pairs ranges) (93 ∷ []))

ranges_text : (ranges : List (ℕ × ℕ)) → items_text false (integer_pairs ranges) ≡ pairs_text ranges ++ 93 ∷ []
ranges_text [] = refl
ranges_text (range ∷ ranges) =
    ap (λ t. pair_text range ++ t) (others_text ranges) ∙ sym (append_assoc (pair_text range) (led_pairs ranges) (93 ∷ []))

pub listed : (ranges : List (ℕ × ℕ)) (before key keyed begun put ended : List ℕ) → keyed ≡ before ++ key → begun ≡ keyed ++ 91 ∷ []
    → put ≡ begun ++ pairs_text ranges → ended ≡ put ++ 93 ∷ [] → ended ≡ before ++ (key ++ compact_text (array (integer_pairs ranges)))
listed ranges before key keyed begun put ended is_keyed is_begun is_put is_ended =
    is_ended ∙ ap (λ t. t ++ 93 ∷ []) is_put ∙ append_assoc begun (pairs_text ranges) (93 ∷ [])
    ∙ ap (λ t. begun ++ t) (sym (ranges_text ranges)) ∙ ap (λ t. t ++ items_text false (integer_pairs ranges)) is_begun
    ∙ append_assoc keyed (91 ∷ []) (items_text false (integer_pairs ranges))
    ∙ ap (λ t. t ++ 91 ∷ items_text false (integer_pairs ranges)) is_keyed
    ∙ append_assoc before key (91 ∷ items_text false (integer_pairs ranges))
