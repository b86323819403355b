use Rattle.std.proofs.Common.{◌≡◌, ◌∙◌, ◌+◌, ◌-◌, length, take, drop, ap, arith, length-drop, take_all}
use lib.Seq.{paste}
use Rattle.std.proofs.lemmas.List.Edits.{take-paste}
use Rattle.qa_cut.proofs.cutter.remove_front.Goals as goal

pub returns : goal.returns
returns c =
    let all = c.args.bytes.now.items in
    let rest = drop c.args.n all in
    let left = c.len-len.result - c.args.n in
    let long : length rest ≡ left = omega (arith, length-drop c.args.n all) in
    let same : left ≡ 0 + left = omega arith in
    c.truncate.ensures.items ∙ ap (take left) c.copy_within.ensures.items ∙ ap (λ k. take k (paste all 0 rest left)) same
    ∙ take-paste all 0 rest left (omega arith) (omega arith) ∙ take_all left rest (omega arith)
