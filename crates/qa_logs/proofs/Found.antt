-- What a search found, and that a text is there.
use Rattle.std.proofs.Common.{◌≡◌, ◌≢◌, ◌∙◌, ℕ, Bool, List, Ok, Err, Option, None, Some, ap, arith, refl, sym}
use Rattle.std.specs.Prelude.{Decides, is_some}
use Rattle.std.proofs.lemmas.Bool.{false≢true}
use Rattle.memchr.specs.Find.{FindsNeedle, OccursAt}
use Rattle.qa_logs.specs.Files.{Has, HasKeyOfLogs, IsLog}
use Rattle.qa_qlog.specs.Kinds.{kind_of}
use Rattle.qa_qlog.specs.declared.kinds.Kind.{Kind}
use Rattle.qa_qlog.specs.declared.kinds.Kind.TheVariants.{Document}
use Rattle.qa_qlog.specs.declared.kinds.NoLog.TheVariants.{OutOfMemory}

pub found : (bytes text : List ℕ) (r : Option ℕ) → FindsNeedle bytes text 0 r → Decides (is_some r) (Has bytes text)
found bytes text (Some k) finds = (λ is. (k, finds.1), λ has. refl)
found bytes text None nowhere = (
  λ is. absurd (false≢true is),
  λ has.
      let occurs : OccursAt bytes text has.0 = has.1 in
      let fits = occurs.fits in
      absurd (nowhere has.0 (omega arith) (omega (arith, fits)) has.1),
)

pub log_by : (bytes : List ℕ) (kind : Kind) (log : Bool) → (Ok kind ≢ Err OutOfMemory → Ok kind ≡ kind_of bytes) → kind ≡ Document → Decides log (HasKeyOfLogs bytes) → Decides log (IsLog bytes)
log_by bytes kind log value is decides =
    let found : kind_of bytes ≡ Ok Document = sym (value (λ same. cc)) ∙ ap Ok is in
    rw found decides
