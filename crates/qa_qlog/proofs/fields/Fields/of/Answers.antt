use Rattle.std.proofs.Common.{◌≡◌, ◌∙◌, ◌++◌, ◌∷◌, [], map, string_bytes, sym, ap, append_assoc, append-nil}
use Rattle.std.proofs.lemmas.List.{map_push}
use Rattle.json.specs.Json.{no_items}
use Rattle.qa_qlog.specs.Heads.{name_of, names}
use Rattle.qa_qlog.proofs.fields.Fields.of.Goals as goal

pub loop-item-init : goal.loop-item-init
loop-item-init c js inside = (js, inside, ap (λ ks. map string_bytes ks ++ names js) c.new-names.ensures.items)

pub loop-item-preserved : goal.loop-item-preserved
loop-item-preserved c js inside =
    let now = c.loop-item.invariant js inside in
    let f = c.in-Some.ensures.value now.0 now.1 in
    let had = map string_bytes c.loop-item.names.items in
    let name : string_bytes c.in_ok-name.name ≡ name_of f.0 = c.in_ok-name.ensures.ok ∙ c.name_of.ensures f.0 f.3 in
    let pushed : map string_bytes c.push.new.self.items ≡ had ++ name_of f.0 ∷ [] =
    ap (map string_bytes) c.in_ok-push.ensures.items ∙ map_push string_bytes c.loop-item.names.items c.in_ok-name.name ∙ ap (λ s. had ++ s ∷ []) name in
    (f.1, f.4, ap (λ ks. ks ++ names f.1) pushed ∙ append_assoc had (name_of f.0 ∷ []) (names f.1) ∙ ap (λ l. had ++ names l) (sym f.2) ∙ now.2)

pub returns : goal.returns
returns c js inside =
    let now = c.loop-item.invariant js inside in
    let had = map string_bytes c.loop-item.names.items in
    let done : now.0 ≡ no_items = c.in_default.ensures.value now.0 now.1 in
    sym (append-nil had) ∙ ap (λ l. had ++ names l) (sym done) ∙ now.2
