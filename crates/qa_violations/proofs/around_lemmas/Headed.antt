-- Rows with their heading.
use Rattle.std.proofs.Common.{◌≡◌, ◌==◌, List, [], ◌∷◌, ◌++◌, length, false, codes, refl}
use Rattle.qa_violations.specs.around.Texts.{each_text, rows_text}
use Rattle.qa_violations.specs.declared.around.row.Row.{Row}

pub headed : (rs : List Row) → (length rs == 0) ≡ false → rows_text rs ≡ codes "  before it:\n" ++ each_text rs
headed [] some = absurd cc
headed (r ∷ rs) some = refl
