use Rattle.std.proofs.Common.{◌++◌, true, codes, refl}
use Rattle.std.specs.Prelude.{is_err}
use Rattle.qa_commands.proofs.Writes.{wrote_less, wrote_more}
use Rattle.qa_check.specs.names.Names.{shown_name}
use Rattle.qa_commands.proofs.naming.write_line.Goals as goal

pub returns-in_err-write_bytes : goal.returns-in_err-write_bytes
returns-in_err-write_bytes g c =
    rw c.from_residual.ensures.0
    (wrote_less _ _ _ _ c.args.beginning.now _ (shown_name c.args.name.now ++ codes "\n") refl (rw c.as_bytes.ensures.value at c.in_err-write_bytes.ensures))

pub returns-in_err-write_name : goal.returns-in_err-write_name
returns-in_err-write_name g c =
    rw c.from_residual-in_err-write_name.ensures.0
    (wrote_more true _ _ _ _ _ _ c.args.beginning.now (shown_name c.args.name.now ++ codes "\n") (rw c.as_bytes.ensures.value at c.in_ok-write_bytes.ensures)
    (wrote_less _ _ _ _ (shown_name c.args.name.now) _ (codes "\n") refl c.in_err-write_name.ensures))

pub returns : goal.returns
returns g c =
    wrote_more (is_err c.write_bytes-2.result) _ _ _ _ _ _ c.args.beginning.now (shown_name c.args.name.now ++ codes "\n")
    (rw c.as_bytes.ensures.value at c.in_ok-write_bytes.ensures)
    (wrote_more (is_err c.write_bytes-2.result) _ _ _ _ _ _ (shown_name c.args.name.now) (codes "\n") c.in_ok-write_name.ensures c.write_bytes-2.ensures)
