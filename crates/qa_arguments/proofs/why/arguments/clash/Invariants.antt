use Rattle.std.proofs.Common.{◌≡◌, drop, map}
use Rattle.std.specs.Prelude.{find}
use Rattle.clap.specs.Matches.{found_of}
use Rattle.clap.specs.Walk.{rows_of}
use Rattle.qa_arguments.specs.why.Asked.{are_given, clash_in, exclusive}
use Rattle.qa_arguments.proofs.why_lemmas.Matches.{names_of_pair}
use Rattle.qa_arguments.proofs.why.arguments.clash.Given as goal

abbrev pub invariant-loop-one : goal.invariant-loop-one
invariant-loop-one l = record {
  all : map names_of_pair l.one-items ≡ exclusive;
  left : find (are_given (rows_of (found_of l.matches))) (drop l.one-index exclusive) ≡ clash_in (rows_of (found_of l.matches));
}
