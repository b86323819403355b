use Rattle.std.proofs.Common.{◌≡◌, ◌∙◌, ◌&&◌, true, false, codes, not, sym, ap}
use Rattle.json.specs.Find.{get}
use Rattle.qa_qlog.specs.Lengths.{is_false}
use Rattle.qa_qlog.specs.Says.{says_at}
use Rattle.qa_qlog.proofs.lengths.is_open.Goals as goal

pub returns-then-is_false : goal.returns-then-is_false
returns-then-is_false c j begins =
    let explicit = get (codes "explicit_length") j in
    let size = get (codes "payload_length") j in
    let is : is_false explicit ≡ true = sym (c.is_false.ensures explicit (c.get.ensures j begins)) ∙ c.if-is_false.true in
    ap not (c.says_at.ensures size (c.get-then-is_false.ensures j begins)) ∙ sym (ap (λ b. b && not (says_at size)) is)

pub returns-else-is_false : goal.returns-else-is_false
returns-else-is_false c j begins =
    let explicit = get (codes "explicit_length") j in
    let size = get (codes "payload_length") j in
    let closed : is_false explicit ≡ false = sym (c.is_false.ensures explicit (c.get.ensures j begins)) ∙ c.if-is_false.false in
    c.if-is_false.false ∙ sym (ap (λ b. b && not (says_at size)) closed)
