use Rattle.std.proofs.Common.{◌≡◌, ℕ, Option, Some, codes, sym, subst, rules}
use Rattle.qa_format.specs.format.Written.{integer}
use Rattle.qa_fast_reader.proofs.Finding.{put_time}
use Rattle.qa_fast_reader.proofs.Taking.{integer_value}
use Rattle.qa_fast_reader.specs.Found.{Keeps}
use Rattle.qa_fast_reader.specs.declared.found.Found.{Found}
use Rattle.qa_fast_reader.proofs.found.Found.time.Goals as goal

-- what is kept of the time is what was found, however it is put there
put_so : (f : Found) (t : Option ℕ) (x : ℕ) → t ≡ Some x → Keeps (codes "time") (integer x) f (record f { time = t })
put_so f t x is = subst (λ (u : Option ℕ). Keeps (codes "time") (integer x) f (record f { time = u })) (sym is) (put_time f x)

-- The search is written out, so that a wrong body is refused at it.
pub returns-clause-found : goal.returns-clause-found
returns-clause-found c = let n = c.in_ok-value.value in record { value = integer n; is = integer_value n c.args.bytes.now c.in_ok-value.rest.now c.in_ok-value.ensures.0 c.in_ok-value.ensures.1; keeps = put_so _ _ n (search rules) }
