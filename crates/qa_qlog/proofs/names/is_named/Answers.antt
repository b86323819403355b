use Rattle.std.proofs.lemmas.Bool.Decides.{same_from_decides}
use Rattle.std.proofs.lemmas.Slice.Eq.{bytes_eq-Decides}
use Rattle.std.specs.Str.{str_to_ascii_lowercase}
use Rattle.qa_qlog.proofs.names.is_named.Goals as goal

pub returns : goal.returns
returns c =
    same_from_decides c.eq_ignore_ascii_case.result _ c.eq_ignore_ascii_case.ensures.test (bytes_eq-Decides (str_to_ascii_lowercase c.args.text.now) (str_to_ascii_lowercase c.args.name.now))
