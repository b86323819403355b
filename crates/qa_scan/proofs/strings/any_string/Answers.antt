use Rattle.std.proofs.Common.{◌-◌, ◌∙◌, length, drop, sym, arith}
use Rattle.std.proofs.lemmas.List.{take_all, length-drop}
use Rattle.std.proofs.lemmas.Option.{IfSome_then}
use Rattle.qa_scan.proofs.Passing.{part_then, is_string}
use Rattle.qa_scan.proofs.Runs.{plain_part}
use Rattle.qa_scan.proofs.strings.any_string.Goals as goal

pub loop-i-init : goal.loop-i-init
loop-i-init c = plain_part _ _ _ c.plain_end-i.ensures

pub loop-i-preserved : goal.loop-i-preserved
loop-i-preserved c = part_then c.loop-i.invariant (part_then c.in_ok-end.ensures.0 (plain_part _ _ _ c.plain_end-i-in-loop-i.ensures))

pub returns : goal.returns
returns c =
    let inside = c.in_ok-inside.inside.now in
    let i = c.loop-i.i in
    let end = sym (take_all (length inside - i) (drop i inside) (omega (arith, length-drop i inside))) in
    IfSome_then c.after_byte-2.result c.after_byte-2.ensures (λ rest is. is_string c.args.bytes.now inside rest.now i c.in_ok-inside.ensures c.loop-i.invariant (end ∙ is))
