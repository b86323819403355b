use Rattle.std.proofs.Common.{◌≡◌, ◌∙◌, ◌+◌, ℕ, [], ◌∷◌, Option, Some, false, sym, ap, subst, arith, nat_le}
use Rattle.std.proofs.lemmas.Bool.{false_from_ne_true, leb-true}
use Rattle.qa_base.specs.values.Events.{is_named}
use Rattle.qa_base.specs.values.Limits.{in_range, max_packet_number}
use Rattle.qa_packet_numbers.specs.Missing.{IsFirstMissing}
use Rattle.qa_packet_numbers.proofs.Lacking.{IsFound, found, in_range_is, missing_behind, missing_first, none_missing}
use Rattle.qa_packet_numbers.proofs.Sets.{begins_by, named_is_found}
use Rattle.qa_packet_numbers.proofs.ranges.Ranges.missing_of.Goals as goal

pub returns-in_default : goal.returns-in_default
returns-in_default c =
    let runs = c.args.self.now in
    let span = c.args.span in
    let lacks : is_named runs span.0 ≡ false =
    subst (λ n. is_named runs n ≡ false) c.lo.ensures.value
    (named_is_found c.lo.result runs c.run_from.ensures.apart ∙ ap (begins_by c.lo.result) (sym c.run_from.ensures.run ∙ c.in_default.is)) in
    subst (λ (n : ℕ). IsFirstMissing runs (span ∷ []) (Some n)) (sym c.lo-in_default.ensures.value) (missing_first runs span c.lo.ensures.order lacks)

pub returns-then-get : goal.returns-then-get
returns-then-get c =
    let runs = c.args.self.now in
    let span = c.args.span in
    let later = c.if-get.true in
    let lacks : is_named runs span.0 ≡ false =
    subst (λ n. is_named runs n ≡ false) c.lo.ensures.value
    (named_is_found c.lo.result runs c.run_from.ensures.apart ∙ (ap (begins_by c.lo.result) (sym c.run_from.ensures.run ∙ c.in-Some.is)
    ∙ false_from_ne_true (nat_le c.in-Some.run'.0 c.lo.result) (λ b. (let low = leb-true c.in-Some.run'.0 c.lo.result b in omega (arith, later, c.lo.ensures.value, c.lo-2.ensures.value, c.lo-3.ensures.value, c.get.ensures.value, c.get-2.ensures.value))))) in
    subst (λ (n : ℕ). IsFirstMissing runs (span ∷ []) (Some n)) (sym c.lo-then-get.ensures.value) (missing_first runs span c.lo.ensures.order lacks)

pub returns-then-get-2 : goal.returns-then-get-2
returns-then-get-2 c =
    let runs = c.args.self.now in
    let span = c.args.span in
    let run = c.in-Some.run' in
    let is : IsFound runs c.lo.result run = found runs c.lo.result run c.run_from.ensures.apart (sym c.run_from.ensures.run ∙ c.in-Some.is) in
    let at : IsFound runs span.0 run = subst (λ n. IsFound runs n run) c.lo.ensures.value is in
    let next : c.new.result ≡ Some (run.1 + 1) =
    c.new.ensures
    ∙ (ap (λ n. in_range 0 max_packet_number (n + 1)) (c.get-then-get-2.ensures.value ∙ c.hi-then-get-2.ensures.value)
    ∙ in_range_is max_packet_number (run.1 + 1) (omega (arith, c.if-get-2.true, c.hi.ensures.value, c.get-3.ensures.value, c.get-4.ensures))) in
    subst (λ (o : Option ℕ). IsFirstMissing runs (span ∷ []) o) (sym next)
    (missing_behind runs span run at
    (omega (arith, c.if-get.false, c.lo-2.ensures.value, c.lo-3.ensures.value, c.get.ensures.value, c.get-2.ensures.value))
    (omega (arith, c.if-get-2.true, c.hi.ensures.value, c.hi-2.ensures.value, c.get-3.ensures.value, c.get-4.ensures.value)))

pub returns-else-get-2 : goal.returns-else-get-2
returns-else-get-2 c =
    let runs = c.args.self.now in
    let span = c.args.span in
    let run = c.in-Some.run' in
    let is : IsFound runs c.lo.result run = found runs c.lo.result run c.run_from.ensures.apart (sym c.run_from.ensures.run ∙ c.in-Some.is) in
    let at : IsFound runs span.0 run = subst (λ n. IsFound runs n run) c.lo.ensures.value is in
    none_missing runs span run at
    (omega (arith, c.if-get.false, c.lo-2.ensures.value, c.lo-3.ensures.value, c.get.ensures.value, c.get-2.ensures.value))
    (omega (arith, c.if-get-2.false, c.hi.ensures.value, c.hi-2.ensures.value, c.get-3.ensures.value, c.get-4.ensures.value))
