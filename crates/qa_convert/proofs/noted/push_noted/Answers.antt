use Rattle.std.proofs.Common.{◌≡◌, ◌∙◌, Result, Ok, Err}
use Rattle.std.specs.Prelude.{IfErr, OnErr, OnOk}
use Rattle.serde_json.specs.View.{members_view}
use Rattle.qa_format.specs.format.Written.{written}
use Rattle.qa_convert.specs.OwnKeys.{own_text}
use Rattle.qa_convert.proofs.Spliced.{noted_with}
use Rattle.qa_convert.proofs.noted.push_noted.Goals as goal

on_ok : {A E P : Type 0} (r : Result A E) → P → OnOk r P
on_ok (Ok a) p = p
on_ok (Err e) p = tt

both : {A E : Type 0} (F : E → Type 0) (P Q : Type 0) (r : Result A E) → OnErr r P → IfErr r (λ e. F e → Q) → IfErr r (λ e. F e → P × Q)
both F P Q (Ok a) p q = tt
both F P Q (Err e) p q = λ f. (p, q f)

pub returns : goal.returns
returns c =
    let x = c.args.line.now in
    let own = members_view c.args.own.entries in
    let text : c.as_slice.result.now ≡ written x = c.as_slice.ensures.value ∙ c.in_ok-text.ensures.text in
    let keys : c.as_bytes.result.now ≡ own_text own = c.as_bytes.ensures.value ∙ c.in_ok-own_text.ensures in
    let after = rw (text, keys) at c.push_with_own.ensures in
    rw (noted_with x own)
    record {
      ok = after.ok;
      short = after.short;
      proper = on_ok c.push_with_own.result c.in_ok-text.ensures.proper;
      too_long = both _ _ _ c.push_with_own.result after.err after.too_long;
    }
