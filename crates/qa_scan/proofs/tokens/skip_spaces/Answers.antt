use Rattle.std.proofs.Common.{◌-◌, ◌∙◌, List, ℕ, [], length, drop, arith, sym, subst}
use Rattle.std.proofs.lemmas.List.{take_all, length-drop}
use Rattle.qa_scan.specs.Lexes.{Lexes}
use Rattle.qa_scan.proofs.Lexing.{lexes_nothing, space_more}
use Rattle.qa_scan.proofs.tokens.skip_spaces.Goals as goal

pub loop-i-init : goal.loop-i-init
loop-i-init c = record { within = omega arith; skipped = lexes_nothing c.args.bytes.now }

pub loop-i-preserved : goal.loop-i-preserved
loop-i-preserved c = record {
  within = omega arith;
  skipped = space_more c.args.bytes.now c.loop-i.i c.loop-i.invariant.skipped (omega arith) (sym c.is_space.ensures ∙ c.if-not-is_space.false);
}

pub returns : goal.returns
returns c =
    let bytes = c.args.bytes.now in
    let P : List ℕ → Type 0 = λ rest. Lexes bytes rest [] in
    subst P (sym (take_all (length bytes - c.loop-i.i) (drop c.loop-i.i bytes) (omega (arith, length-drop c.loop-i.i bytes)))) c.loop-i.invariant.skipped
