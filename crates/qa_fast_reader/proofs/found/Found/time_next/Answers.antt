use Rattle.std.proofs.Common.{◌∷◌, [], List, ℕ, ap, arith, codes, decimal, drop, length, refl, subst}
use Rattle.json.specs.Lex.{token}
use Rattle.json.specs.Token as tokens
use Rattle.qa_format.specs.format.Written.{integer}
use Rattle.qa_fast_reader.proofs.Finding.{put_time}
use Rattle.qa_fast_reader.proofs.Taking.{integer_value, next_if}
use Rattle.qa_scan.specs.Lexes.{Lexes}
use Rattle.qa_fast_reader.proofs.found.Found.time_next.Goals as goal

pub open_integer_at-requires : goal.open_integer_at-requires
open_integer_at-requires c = omega (arith, ap length c.in_ok-after.ensures)

pub returns : goal.returns
returns c whole =
    let n = c.in_ok-value.value in
    let behind = c.in_ok-after.field-0.now in
    let rest = c.in_ok-value.rest.now in
    next_if (codes "time") c.args.self.now _ whole c.args.bytes.now behind rest refl c.in_ok-after.ensures
    (λ ended. record { value = integer n; is = integer_value n behind rest c.in_ok-value.ensures.integer.0 (subst (λ (l : List ℕ). Lexes l rest (token (tokens.number (decimal n)) ∷ [])) (ap (drop 8) c.in_ok-after.ensures) (c.in_ok-value.ensures.integer.1 ended)); keeps = put_time c.args.self.now n })
