use Rattle.qa_base.specs.values.Names.{key_name}
use Rattle.qa_scan.proofs.Matching.{quoted_in_parts}
use Rattle.qa_fast_reader.proofs.keys.key_if.Goals as goal

pub returns : goal.returns
returns c =
    let middle = c.in_ok-after-2.field-0.now in record {
      middle = middle;
      quoted = quoted_in_parts c.args.begins.now c.args.ends.now (key_name c.args.key) c.args.bytes.now c.in_ok-after.field-0.now middle c.requires c.in_ok-after.ensures c.in_ok-after-2.ensures;
      at_colon = c.in_ok-rest.ensures;
    }
