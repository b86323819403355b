use Rattle.std.proofs.Common.{map, string_bytes}
use Rattle.clap.specs.Simple.{app_of}
use Rattle.qa_arguments.proofs.Asking.{fails_by}
use Rattle.qa_arguments.proofs.parsing.matches_of.Goals as goal

pub returns : goal.returns
returns c = record {
  matches = rw c.in_ok-parser.ensures at c.try_get_matches_from.ensures.matches;
  kinds = fails_by (app_of c.in_ok-parser.field-0) (map string_bytes c.args.arguments.now) c.try_get_matches_from.result c.in_ok-parser.ensures c.try_get_matches_from.ensures.kinds;
}
