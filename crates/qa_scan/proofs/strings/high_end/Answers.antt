use Rattle.std.proofs.Common.{◌≡◌, ◌∙◌, ◌+◌, ◌≤◌, ℕ, List, true, length, take, drop, IsUtf8, arith, sym, ap, subst}
use Rattle.std.proofs.lemmas.Bool.{eqb-false}
use Rattle.std.specs.List.{list_all}
use Rattle.qa_scan.specs.Strings.{IsPart, is_high}
use Rattle.qa_scan.proofs.Passing.{part_high}
use Rattle.qa_scan.proofs.strings.high_end.Goals as goal

pub returns : goal.returns
returns c =
    let bytes : List ℕ = c.args.bytes.now in
    let place : ℕ = c.args.place in
    let n : ℕ = c.high_ahead.result in
    let back : c.split_at.result.1.now ≡ drop place bytes = c.split_at.ensures.back in
    let behind : length c.split_at.result.1.now + place ≡ length bytes = c.split_at.ensures.back_len in
    let few : n ≤ length c.split_at.result.1.now = c.high_ahead.ensures.within in
    let long : length c.split_at-2.result.0.now ≡ n = c.split_at-2.ensures.front_len in
    let front : c.split_at-2.result.0.now ≡ take n (drop place bytes) = c.split_at-2.ensures.front ∙ ap (take n) back in
    let some = eqb-false (length c.split_at-2.result.0.now) 0 (sym c.is_empty.ensures ∙ c.if-is_empty.false) in
    let P : ℕ → Type 0 = λ k. IsPart bytes place (place + k) in
    let All : List ℕ → Type 0 = λ l. list_all is_high (take n l) ≡ true in
    (subst P (sym long) (part_high bytes place n (omega (arith, behind, few)) (subst All back c.high_ahead.ensures.high) (subst IsUtf8 front c.in-Ok.ensures.cases.1)), omega (arith, some))
