use Rattle.std.proofs.Common.{◌≡◌, ◌-◌, ℕ, List, true, length, drop, is_some, arith, subst}
use Rattle.std.proofs.lemmas.List.{take_all, length-drop}
use Rattle.fast_float.specs.Text.{scan}
use Rattle.serde_json.specs.Read.{number_from}
use Rattle.qa_scan.proofs.Finite.{with_minus, without_minus}
use Rattle.qa_scan.proofs.numbers.has_room.Goals as goal

pub returns-then-first-eq45 : goal.returns-then-first-eq45
returns-then-first-eq45 c is =
    let text = c.args.text.now in
    let P : List ℕ → Type 0 = λ digits. is_some (number_from true (scan digits)) ≡ true in
    with_minus text c.if-first-eq45.true (subst P (take_all (length text - 1) (drop 1 text) (omega (arith, length-drop 1 text))) (c.is_finite.ensures is))

pub returns-else-first-eq45 : goal.returns-else-first-eq45
returns-else-first-eq45 c is = without_minus c.args.text.now c.if-first-eq45.false (c.is_finite-else-first-eq45.ensures is)
