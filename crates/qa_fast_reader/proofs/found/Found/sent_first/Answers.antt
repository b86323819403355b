use Rattle.std.proofs.Common.{◌++◌, ◌∷◌, Some, subst, codes, refl}
use Rattle.qa_base.specs.declared.line_kind.LineKind.TheVariants.{Sent}
use Rattle.qa_fast_reader.specs.declared.found.Found.{Found}
use Rattle.qa_fast_reader.specs.Found.{line_kind_data, Puts}
use Rattle.qa_fast_reader.proofs.Finding.{put_event}
use Rattle.qa_fast_reader.proofs.Taking.{first_if, string_value}
use Rattle.qa_fast_reader.proofs.found.Found.sent_first.Goals as goal

pub returns : goal.returns
returns c =
    let rest = c.in_ok-rest.rest.now in
    let behind = 34 ∷ (codes "sent" ++ 34 ∷ rest) in
    let new : Found = record c.args.self.now { event = Some Sent } in
    first_if (codes "event") new c.args.bytes.now behind rest refl c.in_ok-rest.ensures
    (λ _. subst (λ (f : Found). Puts (codes "event") f new behind rest) c.requires (record { value = line_kind_data Sent; is = string_value (codes "sent") behind rest refl refl; keeps = put_event c.args.self.now Sent }))
