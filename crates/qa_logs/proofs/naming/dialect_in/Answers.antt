use Rattle.std.proofs.Common.{◌∙◌, [], ◌∷◌, codes, ap, refl}
use Rattle.qa_convert.specs.Dialects.{kind_of}
use Rattle.qa_qlog.specs.Heads.{said}
use Rattle.qa_logs.specs.Heads.{name_of}
use Rattle.qa_logs.proofs.naming.dialect_in.Goals as goal

pub returns : goal.returns
returns c h t begins finds =
    let texts = c.text_of.result ∷ c.text_of-2.result ∷ c.text_of-3.result ∷ c.text_of-4.result ∷ [] in
    let title = c.text_of.ensures (said (codes "title") h t) (c.said.ensures h t begins finds) in
    let description = c.text_of-2.ensures (said (codes "description") h t) (c.said-2.ensures h t begins finds) in
    let vantage = c.name_of.ensures (said (codes "vantage_point") h t) (c.said-3.ensures h t begins finds) in
    let name = c.text_of-3.ensures (name_of (said (codes "vantage_point") h t)) vantage in
    let version = c.text_of-4.ensures (said (codes "code_version") h t) (c.said-4.ensures h t begins finds) in (
      texts,
      rw title (rw description (rw name (rw version refl))),
      c.dialect_of.ensures ∙ ap (kind_of texts) (c.schema_in.ensures h t begins finds),
    )
