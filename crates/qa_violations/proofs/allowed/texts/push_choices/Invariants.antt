use Rattle.std.proofs.Common.{◌≡◌, ◌++◌, drop, string_bytes}
use Rattle.qa_violations.specs.allowed.Texts.{choices_text}
use Rattle.qa_violations.proofs.allowed.texts.push_choices.Given as goal

abbrev pub invariant-loop-key : goal.invariant-loop-key
invariant-loop-key l = string_bytes l.out ++ choices_text l.options (drop l.key-index l.keys) ≡ string_bytes l.initial.out ++ choices_text l.options l.keys
