use Rattle.std.proofs.Common.{◌∙◌, ap, map, sym}
use Rattle.std.specs.Prelude.{string_bytes}
use Rattle.qa_why.proofs.suggest_lemmas.KeysOf.{keys_are}
use Rattle.qa_why.specs.suggest.StandsFor.{stands_for}
use Rattle.qa_why.proofs.suggest.missing.stands_for.Goals as goal

pub loop-key-init : goal.loop-key-init
loop-key-init c =
    ap (stands_for c.args.version c.args.kind c.args.missing)
    (ap (map string_bytes) (c.into_iter-key-iterator.ensures.into_iter_gives ∙ c.keys-key-items.ensures.rest) ∙ sym (keys_are c.args.members.now.entries))
