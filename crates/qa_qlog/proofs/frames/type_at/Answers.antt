use Rattle.std.proofs.Common.{◌∙◌, codes, sym}
use Rattle.json.specs.Find.{get}
use Rattle.qa_qlog.proofs.Values.{first_says}
use Rattle.qa_qlog.proofs.frames.type_at.Goals as goal

pub returns-then-says_at : goal.returns-then-says_at
returns-then-says_at c j begins =
    let found = c.get-found.ensures j begins in
    first_says c.get-found.result (get (codes "frame_type") j) (get (codes "type") j) found (sym (c.says_at.ensures (get (codes "frame_type") j) found) ∙ c.if-says_at.true)
