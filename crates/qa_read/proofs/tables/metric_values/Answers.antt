use Rattle.std.proofs.Common.{rules, refl}
use Rattle.qa_read.proofs.tables.metric_values.Goals as goal

pub returns-in_err-windows : goal.returns-in_err-windows
returns-in_err-windows c = rw (
  ← c.metric.ensures,
  ← c.metric-2.ensures,
  ← c.metric-3.ensures,
  ← c.metric-4.ensures,
  ← c.metric-5.ensures,
  ← c.metric-6.ensures,
  ← c.metric-7.ensures,
  ← c.both-flight.ensures,
  ← c.both-windows.ensures,
  ← c.both-samples.ensures,
  ← c.both-estimates.ensures,
  ← c.both.ensures,
  ← c.in_err-windows.ensures,
) (search rules)

pub returns : goal.returns
returns c = rw (
  ← c.metric.ensures,
  ← c.metric-2.ensures,
  ← c.metric-3.ensures,
  ← c.metric-4.ensures,
  ← c.metric-5.ensures,
  ← c.metric-6.ensures,
  ← c.metric-7.ensures,
  ← c.both-flight.ensures,
  ← c.both-windows.ensures,
  ← c.both-samples.ensures,
  ← c.both-estimates.ensures,
  ← c.both.ensures,
  ← c.in_ok-windows.ensures,
) refl
