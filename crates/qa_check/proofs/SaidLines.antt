-- What a line that is taken by what it says makes of an audit.
use Rattle.std.proofs.Common.{◌≡◌, inl, ℕ, List, [], ◌∷◌, ◌++◌, length, false, true, Result, Ok, Err, IfErr, refl, arith}
use Rattle.std.proofs.lemmas.Bool.{eqb-true}
use Rattle.std.specs.Prelude.{◌==◌}
use Rattle.qa_format.specs.format.Lines.{with_lf, IsShortLine}
use Rattle.qa_format.specs.verdicts.Verdict.{IsFixed}
use Rattle.qa_cut.specs.Stream.{Stream}
use Rattle.qa_check.specs.declared.auditing.AuditFault.{AuditFault}
use Rattle.qa_check.specs.declared.auditing.AuditFault.TheVariants as faults
use Rattle.qa_check.specs.declared.auditor.Progress.{Progress}
use Rattle.qa_check.specs.declared.auditor.Progress.TheVariants.{Open, Fixed}
use Rattle.qa_check.specs.declared.checker.Stop.{Stop}
use Rattle.qa_check.specs.declared.checker.Stop.TheVariants.{Decided, OutOfMemory}
use Rattle.qa_check.specs.Auditor.{BringsTo, Settles}
use Rattle.qa_check.specs.Following.{AnswersBy, Follows}
use Rattle.qa_check.specs.Standing.{by, Held, Judges, StandsFor, AddsGood, AddsBad}
use Rattle.qa_check.proofs.Fed.{open_from}
use Rattle.qa_check.proofs.Following.{follow_line, follow_piece, decide_line}

-- no bytes, by their number
pub none_of : (bytes : List ℕ) → (length bytes == 0) ≡ true → bytes ≡ []
none_of [] is = refl
none_of (b ∷ bs) is = let zero : length (b ∷ bs) ≡ 0 = eqb-true _ _ is in absurd (omega (arith, zero))

-- the line stands ready behind the others
line_ready : {L : Type 0} (judges : Judges L) (old : Held L) (bytes l : List ℕ) → Follows judges [] old bytes → Follows judges (with_lf l) old (bytes ++ with_lf l)
line_ready judges old bytes l f = follow_piece (by judges) (StandsFor judges old) [] (with_lf l) bytes f

-- a good line
pub pushed_good : {L : Type 0} (judges : Judges L) (old new : Held L) (stream : Stream) (bytes l : List ℕ)
    → stream.bytes ≡ [] → IsShortLine l → AddsGood judges old new l → Follows judges [] old bytes → BringsTo judges (Ok Open) stream new (bytes ++ with_lf l)
pushed_good judges old new stream bytes l empty short adds f =
    let next : Follows judges [] new (bytes ++ with_lf l) =
    follow_line (by judges) (StandsFor judges old) (StandsFor judges new) (with_lf l) [] l false short (inl refl) refl adds.1 (bytes ++ with_lf l) (line_ready judges old bytes l f) in
    open_from judges stream new (bytes ++ with_lf l) (rw empty (refl, omega arith)) (rw empty next)

-- a line that is not good
pub pushed_bad : {L : Type 0} (judges : Judges L) (old new : Held L) (bytes l : List ℕ)
    → IsShortLine l → AddsBad judges old new l → Follows judges [] old bytes → IsFixed (by judges) (bytes ++ with_lf l) × AnswersBy (by judges) (StandsFor judges new) (bytes ++ with_lf l)
pushed_bad judges old new bytes l short adds f =
    decide_line (by judges) (StandsFor judges old) (StandsFor judges new) (with_lf l) [] l false short (inl refl) refl adds.1 (bytes ++ with_lf l) (line_ready judges old bytes l f)

-- ---- a checker that stopped

-- the line that stopped it brings the audit so far
pub pushed_settled : {L : Type 0} (judges : Judges L) (old new : Held L) (stream : Stream) (bytes l : List ℕ) (stop : Stop) (progress : Result Progress AuditFault)
    → Settles judges new stop progress → (stop ≡ Decided → (new.failed ≡ false) × AddsBad judges old new l) → IsShortLine l
    → Follows judges [] old bytes → BringsTo judges progress stream new (bytes ++ with_lf l)
pushed_settled judges old new stream bytes l Decided (Ok Open) settled bad short f = absurd settled
pushed_settled judges old new stream bytes l Decided (Ok (Fixed v)) settled bad short f =
    let adds = bad refl in
    let d = pushed_bad judges old new bytes l short adds.1 f in
    (d.0, settled (bytes ++ with_lf l) (adds.0, d.1))
pushed_settled judges old new stream bytes l Decided (Err fault) settled bad short f = tt
pushed_settled judges old new stream bytes l OutOfMemory (Ok progress) settled bad short f = cc
pushed_settled judges old new stream bytes l OutOfMemory (Err fault) settled bad short f = tt

-- the audit is not open any more
pub settled_is_over : {L : Type 0} (judges : Judges L) (held : Held L) (stop : Stop) (progress : Result Progress AuditFault)
    → Settles judges held stop progress → progress ≡ Ok Open → ⊥
settled_is_over judges held Decided (Ok Open) settled is = settled
settled_is_over judges held Decided (Ok (Fixed v)) settled is = cc
settled_is_over judges held Decided (Err fault) settled is = cc
settled_is_over judges held OutOfMemory progress settled is = cc

-- it fails by memory alone
pub settled_fails : {L : Type 0} (judges : Judges L) (held : Held L) (stop : Stop) (progress : Result Progress AuditFault)
    → Settles judges held stop progress → IfErr progress (λ fault. fault ≡ faults.OutOfMemory)
settled_fails judges held Decided (Ok Open) settled = absurd settled
settled_fails judges held Decided (Ok (Fixed v)) settled = tt
settled_fails judges held Decided (Err fault) settled = settled
settled_fails judges held OutOfMemory (Ok progress) settled = tt
settled_fails judges held OutOfMemory (Err fault) settled = cc
