use Rattle.serde_json.specs.Data.{array}
use Rattle.qa_format.specs.format.Written.{integer_pairs}
use Rattle.qa_format.proofs.format.KeysWritten.{ranges_are_kept}
use Rattle.qa_convert.proofs.PassedOver.{own_after}
use Rattle.qa_convert.proofs.own.put_ranges.Goals as goal

pub returns-clause-own : goal.returns-clause-own
returns-clause-own c =
    let rs = c.args.ranges.now in
    own_after c.put.result c.args.key (array (integer_pairs rs)) c.args.keys.now.entries c.put.new.map.entries (ranges_are_kept rs c.in_ok-list.ensures.are_ranges) c.requires.own
    (rw (c.name.ensures, c.in_ok-list.ensures.list) at c.put.ensures.ok) c.put.ensures.err
