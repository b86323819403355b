use Rattle.std.proofs.Common.{◌+◌, ◌%◌, refl}
use Rattle.std.proofs.lemmas.Bool.{eqb-true}
use Rattle.qa_scan.proofs.Tops.{digits_are}
use Rattle.qa_scan.proofs.digits.are_eight_digits.Goals as goal

pub returns : goal.returns
returns c is bs word =
    let v = c.args.codes in
    digits_are bs v ((v + 5063812098665367110) % 18446744073709551616) ((v + 5787213827046133840) % 18446744073709551616) word c.if-codes-ne0.false refl c.if-low-ne0.false refl (eqb-true _ _ is)
