use Rattle.std.proofs.Common.{◌≡◌, false, Result, Ok, Err, String, Global}
use Rattle.std.specs.Prelude.{IfOk, string_bytes}
use Rattle.serde_json.specs.Data.{object}
use Rattle.serde_json.specs.Written.{compact_text, has_float}
use Rattle.serde_json.specs.View.{members_view}
use Rattle.qa_convert.proofs.Spliced.{own_none}
use Rattle.qa_convert.proofs.noted.text_of.Goals as goal

given : {A E : Type 0} (N : Type 0) (P : A → Type 0) (r : Result A E) → N → IfOk r (λ a. N → P a) → IfOk r P
given N P (Ok a) n says = says n
given N P (Err e) n says = tt

pub returns : goal.returns
returns c =
    let P = λ (s : String Global). string_bytes s ≡ compact_text (object (members_view c.args.own.entries)) in
    given (has_float (object (members_view c.args.own.entries)) ≡ false) P c.to_string.result (own_none (members_view c.args.own.entries) c.requires) (rw c.from.ensures at c.to_string.ensures.text)
