use Rattle.qa_fast_reader.specs.Found.{space_data}
use Rattle.qa_base.specs.values.Names.{space_name}
use Rattle.qa_fast_reader.proofs.Taking.{string_value}
use Rattle.qa_fast_reader.proofs.Finding.{put_space}
use Rattle.qa_fast_reader.proofs.Spelling.{space_is_plain}
use Rattle.qa_fast_reader.proofs.found.Found.space.Goals as goal

pub returns-clause-found : goal.returns-clause-found
returns-clause-found c =
    let found = c.in_ok-found.found in record {
      value = space_data found;
      is = string_value (space_name found) c.args.bytes.now c.in_ok-found.rest.now (space_is_plain found) c.in_ok-found.ensures;
      keeps = put_space c.args.self.now found;
    }
