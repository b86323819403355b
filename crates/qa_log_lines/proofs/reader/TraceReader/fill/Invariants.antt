use Rattle.std.proofs.Common.{◌≡◌, ◌≢◌, [], ℕ, List, None}
use Rattle.qa_logs.specs.Tracing.{Traced}
use Rattle.qa_log_lines.specs.Handing.{HasRead, left}
use Rattle.qa_log_lines.proofs.reader.TraceReader.fill.Given as goal

-- as long as something is left nothing changed, and it is the first turn; the bytes that were read
-- stay the same; and it was not stopped before if it is not now
abbrev pub invariant-lines : goal.invariant-lines
invariant-lines g l = record {
  stays : left l.fn.self ≢ [] → (l.self ≡ l.fn.self) × (l._i ≡ 0);
  reads : (start : Traced) (bytes : List ℕ) → HasRead start bytes l.fn.self → l.self.stopped ≡ None → HasRead start bytes l.self;
  fault : l.self.stopped ≡ None → l.fn.self.stopped ≡ None;
}
