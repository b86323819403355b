use Rattle.std.proofs.Common.{◌≡◌, ◌∙◌, ◌+◌, drop, map, string_bytes, bytes_eq, true, false, Some, None, refl, sym, ap, subst, arith}
use Rattle.json.specs.Json.{no_items}
use Rattle.json.specs.Find.{Finds, get_member}
use Rattle.qa_qlog.specs.Records.{zipped}
use Rattle.qa_qlog.proofs.Named.{one_left, none_left, zip_begun, zip_named, zip_other, zip_no_items, zip_no_fields}
use Rattle.qa_qlog.proofs.fields.Fields.in_list.Goals.{then-eq, else-eq}
use Rattle.qa_qlog.proofs.fields.Fields.in_list.Goals as goal

pub loop-name-init : goal.loop-name-init
loop-name-init c js inside =
    (js, None, inside, refl, zip_begun c.args.key.now (map string_bytes c.deref-name-items.result.now) js)

pub loop-name-preserved : goal.loop-name-preserved
loop-name-preserved c js inside =
    let key = c.args.key.now in
    let items = c.deref-name-items.result.now in
    let i = c.loop-name.name-index in
    let name = c.name-item.result in
    let fields = map string_bytes (drop i items) in
    let rest = map string_bytes (drop (i + 1) items) in
    let now = c.loop-name.invariant js inside in
    let f = c.in-Some.ensures.value now.0 now.2 in
    let are = one_left string_bytes items i name c.loop-name-test.true c.name-item.is in
    let tested = ap (λ s. bytes_eq s key) (sym c.as_str.ensures.value) ∙ sym c.eq.ensures in
    elim c.if-eq.branch [
      | then-eq w ↦
          let same : bytes_eq (string_bytes name) key ≡ true = tested ∙ w.if-eq.true in (
            f.1,
            Some f.0,
            f.4,
            subst (λ r. Finds r (Some f.0)) (sym w.found-is) (f.0, refl, f.3),
            now.4 ∙ zip_named key (string_bytes name) fields rest now.0 f.1 f.0 now.1 are f.2 same,
          )
      | else-eq w ↦
          let other : bytes_eq (string_bytes name) key ≡ false = tested ∙ w.if-eq.false in (
            f.1,
            now.1,
            f.4,
            subst (λ r. Finds r now.1) (sym w.found-is) now.3,
            now.4 ∙ zip_other key (string_bytes name) fields rest now.0 f.1 f.0 now.1 are f.2 other,
          )
    ]

pub returns-in_default : goal.returns-in_default
returns-in_default c js inside =
    let key = c.args.key.now in
    let now = c.loop-name.invariant js inside in
    let whole = sym c.self.view_is ∙ ap (map string_bytes) (sym c.deref-name-items.ensures.value) in
    let none : now.0 ≡ no_items = c.in_default.ensures.value now.0 now.2 in
    subst (Finds c.loop-name.found) (sym (ap (λ fs. get_member key (zipped fs js)) whole ∙ now.4 ∙ zip_no_items _ _ _ _ none)) now.3

pub returns : goal.returns
returns c js inside =
    let key = c.args.key.now in
    let items = c.deref-name-items.result.now in
    let now = c.loop-name.invariant js inside in
    let whole = sym c.self.view_is ∙ ap (map string_bytes) (sym c.deref-name-items.ensures.value) in
    let none = none_left string_bytes items c.loop-name.name-index (omega arith) in
    subst (Finds c.loop-name.found) (sym (ap (λ fs. get_member key (zipped fs js)) whole ∙ now.4 ∙ zip_no_fields _ _ _ _ none)) now.3
