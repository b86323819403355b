use Rattle.qa_fast_reader.proofs.Making.{list_made}
use Rattle.qa_fast_reader.proofs.objects.list.Goals as goal

pub returns : goal.returns
returns c whole before = list_made c.items.new.into whole c.in_ok-rest.rest.now (c.in_ok-rest.ensures whole before)
