use Rattle.std.proofs.Common.{◌≡◌, drop, map}
use Rattle.std.specs.List.{list_any}
use Rattle.qa_why_command.specs.Traces.{is_input}
use Rattle.qa_why_command.proofs.waiting.has_input.Given as goal

-- none that was passed over is standard input
abbrev pub invariant-loop-name : goal.invariant-loop-name
invariant-loop-name l = list_any is_input (map (λ name. name.now) l.names) ≡ list_any is_input (map (λ name. name.now) (drop l.name-index l.names))
