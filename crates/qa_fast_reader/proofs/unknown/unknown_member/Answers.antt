use Rattle.std.proofs.Common.{sym, ◌∙◌}
use Rattle.std.proofs.lemmas.Option.{IfSome_then}
use Rattle.qa_fast_reader.proofs.Taking.{takes_nothing}
use Rattle.qa_fast_reader.proofs.unknown.unknown_member.Goals as goal

pub returns : goal.returns
returns c =
    IfSome_then c.any_value.result c.any_value.ensures
    (λ rest value. takes_nothing c.in_ok-key.key.now c.args.bytes.now c.in_ok-key.rest.now c.in_ok-colon.field-0.now rest.now
    c.in_ok-key.ensures.0 c.in_ok-key.ensures.1 c.in_ok-colon.ensures (sym c.is_known.ensures ∙ c.if-is_known.false) value)
