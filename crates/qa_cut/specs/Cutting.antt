-- What a cutter holds once the piece that it lent is no longer borrowed.
use Rattle.std.specs.Prelude.{◌≡◌, ℕ, List, drop, Option, Some, Result, Err, IfSome, IfNone, IfOk}
use Rattle.std.specs.Prelude.{IfErr}
use Rattle.std.specs.Borrow.{Fml, Bor, MutBor}
use Rattle.std.specs.Io.BufRead.{Rests}
use Rattle.qa_cut.specs.declared.cutter.SplitFault.{SplitFault}
use Rattle.qa_cut.specs.contracts.cutter.Cutter.{the_row}
use Rattle.qa_cut.specs.Cuts.{Uncut, TakesPiece, HasNoPiece}

-- a call that was asked for the next piece returned this, and left the new bytes of the old
pub record Moves (old : Uncut) (result : Result (Option (Bor (List ℕ))) SplitFault) (new : Uncut)
    : Type 0 where
  pub refused : IfSome old.refused (λ fault. (result ≡ Err fault) × (new ≡ old))
  pub piece : IfOk result (λ found. IfSome found (λ piece. TakesPiece old new piece.now))
  pub none : IfOk result (λ found. IfNone found (HasNoPiece old × (new ≡ old)))
  pub err : IfErr result (λ fault. new ≡ record old { refused = Some fault })

abbrev pub EndsAs : MutBor Uncut → Result (Option (Bor (List ℕ))) SplitFault → Fml
EndsAs cutter result = Rests the_row cutter (Moves cutter.now result)

-- the cutter ends without its first n bytes
abbrev pub PassesAs : MutBor Uncut → ℕ → Fml
PassesAs cutter n =
    Rests the_row cutter (λ new. new ≡ record cutter.now { bytes = drop n cutter.now.bytes })
