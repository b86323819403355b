use Rattle.std.proofs.Common.{◌≡◌, List, [], ◌∷◌, length, true, false, String, Global, refl}
use Rattle.serde_json.specs.View.{members_view}
use Rattle.serde_json.specs.declared.value.Value.{Value}
use Rattle.qa_convert.specs.OwnKeys.{has_member}
use Rattle.qa_convert.proofs.Spliced.{own_text_some}
use Rattle.qa_convert.proofs.noted.own_text_of.Goals as goal

has_entries : (es : List (String Global × Value)) → (length es ≡ 0 → ⊥) → has_member (members_view es) ≡ true
has_entries [] some = absurd (some refl)
has_entries (e ∷ es) some = refl

pub returns : goal.returns
returns c =
    let own = members_view c.args.own.entries in
    let some : has_member own ≡ true = has_entries c.args.own.entries (λ none. let yes = c.is_empty.ensures.1 none in let both : false ≡ true = rw c.if-is_empty.false at yes in cc) in
    rw (own_text_some own some) c.text_of.ensures
