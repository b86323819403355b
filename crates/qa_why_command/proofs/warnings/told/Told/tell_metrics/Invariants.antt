use Rattle.std.proofs.Common.{List, ◌++◌, map, take}
use Rattle.std.specs.Prelude.{string_bytes}
use Rattle.qa_why_command.specs.warnings.Found.{Found, MetricsKey, at}
use Rattle.qa_why_command.specs.warnings.Keeping.{Tells}
use Rattle.qa_why_command.proofs.warnings.told.Told.tell_metrics.Given as goal

abbrev pub invariant-loop-key : goal.invariant-loop-key
invariant-loop-key l = (fs : List Found) → Tells l.name l.fn.self fs
    → Tells l.name l.self (fs ++ map (at l.n) (map (MetricsKey l.version) (map string_bytes (take l.key-index l.key-items))))
