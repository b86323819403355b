-- What a splitter holds once the line that it lent is no longer borrowed.
use Rattle.std.specs.Prelude.{◌≡◌, ℕ, List, Option, Some, Result, Err, IfSome, IfNone, IfOk, IfErr}
use Rattle.std.specs.Borrow.{Fml, Bor, MutBor}
use Rattle.std.specs.Io.BufRead.{Rests}
use Rattle.qa_cut.specs.declared.cutter.SplitFault.{SplitFault}
use Rattle.qa_cut.specs.contracts.splitter.Splitter.{the_row}
use Rattle.qa_cut.specs.Stream.{Stream, TakesLine, HasNoLine}

-- a call that was asked for the next line returned this, and left the new stream of the old
pub record Moves (old : Stream) (result : Result (Option (Bor (List ℕ))) SplitFault)
    (new : Stream) : Type 0 where
  pub refused : IfSome old.refused (λ fault. (result ≡ Err fault) × (new ≡ old))
  pub line : IfOk result (λ found. IfSome found (λ line. TakesLine old new line.now))
  pub none : IfOk result (λ found. IfNone found (HasNoLine old × (new ≡ old)))
  pub err : IfErr result (λ fault. new ≡ record old { refused = Some fault })

abbrev pub EndsAs : MutBor Stream → Result (Option (Bor (List ℕ))) SplitFault → Fml
EndsAs splitter result = Rests the_row splitter (Moves splitter.now result)
