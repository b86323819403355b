use Rattle.std.proofs.Common.{◌≡◌, ◌∙◌, ◌++◌, ◌∷◌, ℕ, List, take, sym, subst, arith, rules}
use Rattle.std.specs.List.{AllByRecursion}
use Rattle.qa_sent_packets.specs.Naming.{EndsBelow, turned}
use Rattle.qa_sent_packets.proofs.Passing.{IsWalked, ends_on, none_end, part_from, passed_none, walk_begins, walk_goes_on}
use Rattle.qa_sent_packets.proofs.unacknowledged.passed_by.Goals as goal

pub loop-number-init : goal.loop-number-init
loop-number-init c =
    let gaps = c.args.gaps.now.entries in
    let recent = c.args.recent.now.items in
    let ranges = turned c.args.falling c.args.spans.now in
    let is : c.into_iter-number-iterator.result ≡ part_from c.get-lowest.result gaps = search rules in
    record {
      within = omega arith;
      ends = none_end c.into_iter-number-iterator.result;
      none = tt;
      walk = subst (λ (rest : List (ℕ × ℕ)). IsWalked (gaps ++ recent) rest recent ranges 0) (sym is)
          (walk_begins gaps recent ranges c.get-lowest.result c.nth.result c.requires.rising c.nth.ensures (c.get-lowest.ensures.value ∙ c.lo.ensures.value));
      steps = omega arith;
    }

pub returns-then-steps-spans-clause-none : goal.returns-then-steps-spans-clause-none
returns-then-steps-spans-clause-none c =
    let gaps = c.args.gaps.now.entries in
    let recent = c.args.recent.now.items in
    let ranges = turned c.args.falling c.args.spans.now in
    let gap : ℕ × ℕ = (c.in-Some.number.now, c.in-Some.field-0-1.now) in
    let rest = c.next.new.self in
    let is : c.loop-number.number-iterator ≡ gap ∷ rest = c.in-Some.ensures.steps in
    let walk = subst (λ (it : List (ℕ × ℕ)). IsWalked (gaps ++ recent) it recent ranges c.loop-number.passed) is c.loop-number.invariant.walk in
    let ends = subst (λ (it : List (ℕ × ℕ)). AllByRecursion (λ e. AllByRecursion (EndsBelow e.0) (take c.loop-number.passed ranges)) it) is c.loop-number.invariant.ends in
    passed_none (gaps ++ recent) rest recent ranges c.loop-number.passed c.first_left-passed.result gap c.requires.rising c.requires.apart walk c.loop-number.invariant.none (c.first_left-passed.ensures.below ends.0)

pub loop-number-preserved : goal.loop-number-preserved
loop-number-preserved c =
    let gaps = c.args.gaps.now.entries in
    let recent = c.args.recent.now.items in
    let ranges = turned c.args.falling c.args.spans.now in
    let gap : ℕ × ℕ = (c.in-Some.number.now, c.in-Some.field-0-1.now) in
    let rest = c.next.new.self in
    let is : c.loop-number.number-iterator ≡ gap ∷ rest = c.in-Some.ensures.steps in
    let walk = subst (λ (it : List (ℕ × ℕ)). IsWalked (gaps ++ recent) it recent ranges c.loop-number.passed) is c.loop-number.invariant.walk in
    let ends = subst (λ (it : List (ℕ × ℕ)). AllByRecursion (λ e. AllByRecursion (EndsBelow e.0) (take c.loop-number.passed ranges)) it) is c.loop-number.invariant.ends in
    let below = c.first_left-passed.ensures.below ends.0 in
    record {
      within = c.first_left-passed.ensures.within;
      ends = ends_on rest (take c.first_left-passed.result ranges) gap walk.rise.0 below;
      none = passed_none (gaps ++ recent) rest recent ranges c.loop-number.passed c.first_left-passed.result gap c.requires.rising c.requires.apart walk c.loop-number.invariant.none below;
      walk = walk_goes_on (gaps ++ recent) rest recent ranges c.loop-number.passed c.first_left-passed.result gap walk (c.begins_by.ensures c.if-begins_by.false).1;
      steps = (let few = c.loop-number.invariant.steps in let other = c.if-steps-spans.false in omega (arith, few, other));
    }
