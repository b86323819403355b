use Rattle.std.proofs.Common.{◌≡◌, length, take}
use Rattle.std.specs.Prelude.{flat_map}
use Rattle.std.specs.Str.{chars}
use Rattle.qa_check.specs.names.Names.{shown_character}
use Rattle.qa_check.proofs.names.shown_name.Given as goal

abbrev pub invariant-loop-character : goal.invariant-loop-character
invariant-loop-character l = l.shown.items ≡ flat_map shown_character (take (length l.yielded) (chars l.name))
