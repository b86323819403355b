use Rattle.std.proofs.Common.{rules}
use Rattle.qa_fast_reader.proofs.Making.{member_made}
use Rattle.qa_fast_reader.proofs.objects.member.Goals as goal

pub returns : goal.returns
returns c =
    member_made c.in_ok-key.key.now c.in_ok-name.name c.value.new.into c.args.found.now.entries c.insert.new.self.entries c.args.bytes.now c.in_ok-key.rest.now c.in_ok-colon.field-0.now c.in_ok-rest.rest.now
    c.in_ok-name.ensures c.in_ok-key.ensures.0 c.in_ok-key.ensures.1 c.in_ok-colon.ensures c.in_ok-rest.ensures (search rules)
