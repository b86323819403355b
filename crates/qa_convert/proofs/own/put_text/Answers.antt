use Rattle.serde_json.specs.Data.{string}
use Rattle.qa_format.proofs.format.KeysWritten.{string_is_kept}
use Rattle.qa_convert.proofs.PassedOver.{own_after}
use Rattle.qa_convert.proofs.own.put_text.Goals as goal

pub returns-clause-own : goal.returns-clause-own
returns-clause-own c =
    let text = c.args.text.now in
    own_after c.put.result c.args.key (string text) c.args.keys.now.entries c.put.new.map.entries (string_is_kept text c.requires.ascii) c.requires.own
    (rw (c.name.ensures, c.in_ok-value.ensures) at c.put.ensures.ok) c.put.ensures.err
