use Rattle.std.proofs.Common.{Some, subst, codes, refl}
use Rattle.qa_format.specs.format.Written.{boolean}
use Rattle.qa_fast_reader.specs.declared.found.Found.{Found}
use Rattle.qa_fast_reader.specs.Found.{Puts}
use Rattle.qa_fast_reader.proofs.Finding.{put_eliciting}
use Rattle.qa_fast_reader.proofs.Taking.{boolean_value, first_if}
use Rattle.qa_fast_reader.proofs.found.Found.eliciting_first.Goals as goal

pub returns : goal.returns
returns c =
    let b = c.in_ok-value.value in
    let behind = c.in_ok-after.field-0.now in
    let rest = c.in_ok-value.rest.now in
    let new : Found = record c.args.self.now { eliciting = Some b } in
    first_if (codes "eliciting") new c.args.bytes.now behind rest refl c.in_ok-after.ensures
    (λ ended. subst (λ (f : Found). Puts (codes "eliciting") f new behind rest) c.requires (record { value = boolean b; is = boolean_value b behind rest (c.in_ok-value.ensures ended); keeps = put_eliciting c.args.self.now b }))
