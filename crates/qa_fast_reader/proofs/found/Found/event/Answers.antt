use Rattle.qa_fast_reader.specs.Found.{line_kind_data}
use Rattle.qa_base.specs.values.Names.{line_kind_name}
use Rattle.qa_fast_reader.proofs.Taking.{string_value}
use Rattle.qa_fast_reader.proofs.Finding.{put_event}
use Rattle.qa_fast_reader.proofs.Spelling.{line_kind_is_plain}
use Rattle.qa_fast_reader.proofs.found.Found.event.Goals as goal

pub returns-clause-found : goal.returns-clause-found
returns-clause-found c =
    let kind = c.in_ok-kind.kind in record {
      value = line_kind_data kind;
      is = string_value (line_kind_name kind) c.args.bytes.now c.in_ok-kind.rest.now (line_kind_is_plain kind) c.in_ok-kind.ensures;
      keeps = put_event c.args.self.now kind;
    }
