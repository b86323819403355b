use Rattle.std.proofs.Common.{◌∙◌, ap, map, sym}
use Rattle.std.specs.Prelude.{string_bytes}
use Rattle.qa_why.proofs.suggest_lemmas.KeysOf.{keys_are}
use Rattle.qa_why_command.specs.warnings.Strange.{strange}
use Rattle.qa_why_command.proofs.warnings.strange.strange_among.Goals as goal

pub loop-key-init : goal.loop-key-init
loop-key-init c =
    let left = c.into_iter-key-iterator.ensures.into_iter_gives ∙ c.keys-key-items.ensures.rest in
    rw c.new-found.ensures.items (ap (strange c.args.version c.args.kind) (ap (map string_bytes) left ∙ sym (keys_are c.args.members.now.entries)))
