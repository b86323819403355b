-- What a log that is one object has beside its records.
use Rattle.std.proofs.Common.{◌≡◌, ◌∙◌, Option, None, Some, subst, sym}
use Rattle.std.specs.Prelude.{IfSome}
use Rattle.qa_qlog.specs.declared.cutter.Skeleton.{Skeleton}
use Rattle.qa_logs.specs.Opening.{EndsBy, EndsFound, HasSkeleton, IsSkeleton}
use Rattle.qa_logs.specs.declared.cutting.Form.TheVariants.{Document}
use Rattle.qa_logs.specs.declared.log.Log.{Log}
use Rattle.qa_logs.specs.declared.opening.Found.{Found}

pub ends_document : (found : Found) (skeleton : Option Skeleton) (log : Log) → found.form ≡ Document → IfSome skeleton (HasSkeleton found.parts) → log.form ≡ Document → IsSkeleton skeleton log → EndsFound found log
ends_document found None log is has form beside = absurd beside
ends_document found (Some skeleton) log is has form beside =
    (form ∙ sym is, subst (λ f. EndsBy f found log) (sym is) (skeleton, has, beside))
