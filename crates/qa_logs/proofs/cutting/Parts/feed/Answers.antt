use Rattle.std.proofs.Common.{◌∙◌, Some, sym, ap}
use Rattle.qa_logs.specs.declared.cutting.Cutter.TheVariants as cutters
use Rattle.qa_logs.proofs.cutting.Parts.feed.Goals as goal

pub feed_texts-requires : goal.feed_texts-requires
feed_texts-requires g c =
    let it = c.in-Some-Texts in
    c.self.invariant (cutters.Texts it.texts it.mark) (sym c.take.ensures.value ∙ it.is ∙ ap Some it.field-0-is)

pub feed_document-requires : goal.feed_document-requires
feed_document-requires g c =
    let it = c.in-Some-Document in
    c.self.invariant (cutters.Document it.document) (sym c.take.ensures.value ∙ it.is ∙ ap Some it.field-0-is)
