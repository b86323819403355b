use Rattle.std.proofs.Common.{map, string_bytes}
use Rattle.std.proofs.lemmas.Result.{IfOk-weaker, IfErr-weaker}
use Rattle.clap.specs.Values.{kind_of}
use Rattle.qa_arguments.proofs.Asking.{found, not_a_command, refusal, request_of, takes}
use Rattle.qa_arguments.proofs.parsing.parse.Goals as goal

pub returns-in-Err : goal.returns-in-Err
returns-in-Err c = record {
  ok = tt;
  err = refusal (map string_bytes c.args.arguments.now) (kind_of c.in-Err.error) c.fault_of_error.result c.fault_of_error.ensures c.in-Err.ensures.kinds;
}

pub returns-in-Ok : goal.returns-in-Ok
returns-in-Ok c =
    let arguments = map string_bytes c.args.arguments.now in
    let t = takes arguments c.in-Ok.ensures.kinds in
    let met = found arguments c.in-Ok.matches t c.in-Ok.ensures.matches in
    record {
      ok = IfOk-weaker c.subcommand_of.result _ _ (request_of arguments t c.in-Ok.matches met) c.subcommand_of.ensures.ok;
      err = IfErr-weaker c.subcommand_of.result _ _ (not_a_command arguments t c.in-Ok.matches met) c.subcommand_of.ensures.err;
    }
