use Rattle.std.proofs.Common.{◌≡◌, drop, map, string_bytes}
use Rattle.qa_qlog.specs.Heads.{form_of_fields}
use Rattle.qa_qlog.proofs.fields.Fields.form.Given as goal

abbrev pub invariant-loop-name : goal.invariant-loop-name
invariant-loop-name l =
    form_of_fields (map string_bytes l.name-items) ≡ form_of_fields (map string_bytes (drop l.name-index l.name-items))
