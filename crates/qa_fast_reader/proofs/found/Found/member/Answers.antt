use Rattle.std.proofs.lemmas.Option.{IfSome_then}
use Rattle.qa_base.specs.values.Names.{key_name}
use Rattle.qa_fast_reader.proofs.Spelling.{key_is_plain}
use Rattle.qa_fast_reader.proofs.Taking.{takes}
use Rattle.qa_fast_reader.proofs.found.Found.member.Goals as goal

pub returns-in_default : goal.returns-in_default
returns-in_default c = c.in_ok-rest.ensures c.args.self.now

pub returns : goal.returns
returns c =
    IfSome_then c.value_or_null.result c.value_or_null.ensures
    (λ rest puts. takes (key_name c.in-Some.key) c.args.self.now c.value_or_null.new.self c.args.bytes.now c.in-Some.rest.now rest.now
    (key_is_plain c.in-Some.key) c.in-Some.ensures puts)
