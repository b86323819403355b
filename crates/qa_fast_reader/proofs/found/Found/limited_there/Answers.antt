use Rattle.std.proofs.Common.{codes, refl}
use Rattle.std.proofs.lemmas.Option.{IfSome_then}
use Rattle.serde_json.specs.Data as json
use Rattle.qa_fast_reader.proofs.Finding.{no_limited}
use Rattle.qa_fast_reader.proofs.Taking.{null_value, later_if}
use Rattle.qa_fast_reader.proofs.found.Found.limited_there.Goals as goal

pub returns-in-Some-null : goal.returns-in-Some-null
returns-in-Some-null c whole before =
    let value = c.in-Some.value.now in
    let rest = c.in-Some-null.rest.now in
    later_if (codes "limited") c.args.self.now _ whole c.args.bytes.now value rest refl (c.in-Some.ensures (codes "limited") refl)
    (λ _. record { value = json.null; is = null_value value rest c.in-Some-null.ensures; keeps = no_limited c.args.self.now }) before

pub returns : goal.returns
returns c =
    IfSome_then c.open_limited.result c.open_limited.ensures
    (λ rest puts whole before. later_if (codes "limited") _ _ whole c.args.bytes.now c.in-Some.value.now rest.now refl (c.in-Some.ensures (codes "limited") refl) puts before)
