use Rattle.std.proofs.Common.{◌≡◌, ◌∙◌, map, string_bytes, Some, None, refl, sym, ap, arith}
use Rattle.qa_qlog.specs.Heads.{form_named, form_of_fields}
use Rattle.qa_qlog.proofs.Named.{one_left, none_left, form_found, form_passed}
use Rattle.qa_qlog.proofs.fields.Fields.form.Goals as goal

pub loop-name-init : goal.loop-name-init
loop-name-init c = refl

pub returns-in-Some : goal.returns-in-Some
returns-in-Some c =
    let items = c.deref-name-items.result.now in
    let i = c.loop-name.name-index in
    let whole = sym c.self.view_is ∙ ap (map string_bytes) (sym c.deref-name-items.ensures.value) in
    let are = one_left string_bytes items i c.name-item.result c.loop-name-test.true c.name-item.is in
    let is : form_named (string_bytes c.name-item.result) ≡ Some c.in-Some.form = ap form_named (sym c.as_str.ensures.value) ∙ sym c.named.ensures ∙ c.in-Some.is in
    sym (ap form_of_fields whole ∙ c.loop-name.invariant ∙ form_found _ _ _ _ are is)

pub loop-name-preserved : goal.loop-name-preserved
loop-name-preserved c =
    let items = c.deref-name-items.result.now in
    let i = c.loop-name.name-index in
    let are = one_left string_bytes items i c.name-item.result c.loop-name-test.true c.name-item.is in
    let is : form_named (string_bytes c.name-item.result) ≡ None = ap form_named (sym c.as_str.ensures.value) ∙ sym c.named.ensures ∙ c.in_default.is in
    c.loop-name.invariant ∙ form_passed _ _ _ are is

pub returns : goal.returns
returns c =
    let items = c.deref-name-items.result.now in
    let whole = sym c.self.view_is ∙ ap (map string_bytes) (sym c.deref-name-items.ensures.value) in
    sym (ap form_of_fields whole ∙ c.loop-name.invariant ∙ ap form_of_fields (none_left string_bytes items c.loop-name.name-index (omega arith)))
