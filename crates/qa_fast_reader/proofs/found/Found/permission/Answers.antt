use Rattle.qa_fast_reader.specs.Found.{permission_data}
use Rattle.qa_base.specs.values.Names.{permission_name}
use Rattle.qa_fast_reader.proofs.Taking.{string_value}
use Rattle.qa_fast_reader.proofs.Finding.{put_permission}
use Rattle.qa_fast_reader.proofs.Spelling.{permission_is_plain}
use Rattle.qa_fast_reader.proofs.found.Found.permission.Goals as goal

pub returns-clause-found : goal.returns-clause-found
returns-clause-found c =
    let found = c.in_ok-found.found in record {
      value = permission_data found;
      is = string_value (permission_name found) c.args.bytes.now c.in_ok-found.rest.now (permission_is_plain found) c.in_ok-found.ensures;
      keeps = put_permission c.args.self.now found;
    }
