use Rattle.std.proofs.Common.{◌++◌, ◌∷◌, ap, codes, refl}
use Rattle.json.specs.Word.{ends_word}
use Rattle.qa_base.specs.declared.line_kind.LineKind.TheVariants.{Metrics}
use Rattle.qa_fast_reader.specs.Found.{line_kind_data}
use Rattle.qa_fast_reader.proofs.Finding.{put_event}
use Rattle.qa_fast_reader.proofs.Taking.{next_member, string_value}
use Rattle.qa_fast_reader.proofs.found.Found.metrics_next.Goals as goal

pub returns : goal.returns
returns c whole before ended =
    let rest = c.in_ok-rest.rest.now in
    let behind = 34 ∷ (codes "metrics" ++ 34 ∷ rest) in
    next_member (codes "event") c.args.self.now _ whole c.args.bytes.now behind rest refl c.in_ok-rest.ensures
    (record { value = line_kind_data Metrics; is = string_value (codes "metrics") behind rest refl refl; keeps = put_event c.args.self.now Metrics })
    (before (ap ends_word c.in_ok-rest.ensures))
