use Rattle.std.proofs.Common.{arith}
use Rattle.qa_qlog.proofs.Runs.{run_ends, run_goes_on, run_within}
use Rattle.qa_qlog.proofs.structural.plain_end.Goals as goal

pub returns-then-found-ne0-clause-value : goal.returns-then-found-ne0-clause-value
returns-then-found-ne0-clause-value c =
    let found = c.structural-found in
    let ends = run_ends c.args.bytes.now c.loop-place.place 16 found.result (omega arith) found.ensures (omega arith) (omega arith) in
    omega (arith, ends, c.loop-place.invariant.0)

pub returns-then-found-ne0-clause-within : goal.returns-then-found-ne0-clause-within
returns-then-found-ne0-clause-within c =
    let found = c.structural-found in
    let ends = run_ends c.args.bytes.now c.loop-place.place 16 found.result (omega arith) found.ensures (omega arith) (omega arith) in
    omega (arith, ends, run_within c.args.bytes.now c.loop-place.place c.loop-place.invariant.1)

pub loop-place-preserved : goal.loop-place-preserved
loop-place-preserved c =
    let found = c.structural-found in
    let goes_on = run_goes_on c.args.bytes.now c.loop-place.place 16 found.result (omega arith) found.ensures (omega arith) in
    (omega (arith, goes_on, c.loop-place.invariant.0), omega arith)

pub returns-clause-within : goal.returns-clause-within
returns-clause-within c = omega (arith, c.last_plain_end.ensures, run_within c.args.bytes.now c.loop-place.place c.loop-place.invariant.1)
