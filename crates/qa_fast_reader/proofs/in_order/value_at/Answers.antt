use Rattle.qa_fast_reader.proofs.Taking.{key_spaced}
use Rattle.qa_fast_reader.proofs.in_order.value_at.Goals as goal

pub returns : goal.returns
returns c key named = key_spaced key c.args.word.now c.args.bytes.now c.in_ok-behind.behind.now _ named c.in_ok-behind.ensures c.skip_space.ensures
