use Rattle.qa_fast_reader.specs.Found.{kind_data}
use Rattle.qa_base.specs.values.Names.{kind_name}
use Rattle.qa_fast_reader.proofs.Taking.{string_value}
use Rattle.qa_fast_reader.proofs.Finding.{put_kind}
use Rattle.qa_fast_reader.proofs.Spelling.{kind_is_plain}
use Rattle.qa_fast_reader.proofs.found.Found.kind.Goals as goal

pub returns-clause-found : goal.returns-clause-found
returns-clause-found c =
    let found = c.in_ok-found.found in record {
      value = kind_data found;
      is = string_value (kind_name found) c.args.bytes.now c.in_ok-found.rest.now (kind_is_plain found) c.in_ok-found.ensures;
      keeps = put_kind c.args.self.now found;
    }
