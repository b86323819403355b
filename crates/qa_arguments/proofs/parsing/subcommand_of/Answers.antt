use Rattle.std.proofs.Common.{inr, refl}
use Rattle.clap.specs.Matches.{found_of}
use Rattle.clap.specs.Walk.{rows_of}
use Rattle.qa_arguments.proofs.Asking.{check_of, explain_of, file_found, no_command_of, none_found}
use Rattle.qa_arguments.proofs.parsing.subcommand_of.Goals as goal

pub returns-in_ok-files-in-check : goal.returns-in_ok-files-in-check
returns-in_ok-files-in-check c = record {
  ok = check_of c.args.matches.now _ (rows_of (found_of c.in-Some.found.now)) _ c.in-Some.ensures.name c.in-Some.ensures.rows c.in-check.is c.in_ok-files-in-check.ensures;
  err = tt;
}

pub returns-in-explain : goal.returns-in-explain
returns-in-explain c = record {
  ok = explain_of c.args.matches.now _ (rows_of (found_of c.in-Some.found.now)) _ c.in-Some.ensures.name c.in-Some.ensures.rows c.in-explain.is
      (file_found (found_of c.in-Some.found.now) _ c.get_str.ensures);
  err = tt;
}

pub returns-in_default : goal.returns-in_default
returns-in_default c = record {
  ok = tt;
  err = inr (refl, none_found c.args.matches.now c.in_default.ensures.rows);
}

pub returns-in_default-name : goal.returns-in_default-name
returns-in_default-name c = record {
  ok = tt;
  err = inr (refl, no_command_of c.args.matches.now _ c.in-Some.ensures.name c.in_default-name.not-check c.in_default-name.not-explain);
}
