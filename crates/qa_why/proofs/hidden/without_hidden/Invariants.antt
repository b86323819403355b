use Rattle.std.proofs.Common.{◌≡◌, length, take}
use Rattle.std.specs.Prelude.{flat_map}
use Rattle.std.specs.Str.{chars}
use Rattle.qa_why.specs.Hidden.{seen_character}
use Rattle.qa_why.proofs.hidden.without_hidden.Given as goal

abbrev pub invariant-loop-character : goal.invariant-loop-character
invariant-loop-character l = l.seen.items ≡ flat_map seen_character (take (length l.yielded) (chars l.json))
