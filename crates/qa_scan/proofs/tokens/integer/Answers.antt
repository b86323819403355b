use Rattle.std.proofs.Common.{◌≡◌, ◌<◌, ◌^◌, ℕ, List, [], ◌∷◌, decimal, sym, subst, rules}
use Rattle.json.specs.Lex.{token}
use Rattle.json.specs.Token as tokens
use Rattle.qa_scan.specs.Lexes.{Lexes}
use Rattle.qa_scan.proofs.Lexing.{lexes_integer}
use Rattle.qa_scan.proofs.tokens.integer.Goals as goal

-- the integer that is given is the one that was read, however it is named
read_so : (v n : ℕ) (bytes rest : List ℕ) → v ≡ n → n < 2 ^ 64 → Lexes bytes rest (token (tokens.number (decimal n)) ∷ [])
    → (v < 2 ^ 64) × Lexes bytes rest (token (tokens.number (decimal v)) ∷ [])
read_so v n bytes rest is small lexes =
    subst (λ (m : ℕ). (m < 2 ^ 64) × Lexes bytes rest (token (tokens.number (decimal m)) ∷ [])) (sym is) (small, lexes)

-- The search is written out, so that a wrong body is refused at it.
pub returns-then-ends_word : goal.returns-then-ends_word
returns-then-ends_word c =
    read_so _ c.in_ok-n.n _ _ (search rules) c.in_ok-n.ensures.1
    (lexes_integer c.in_ok-n.n c.args.bytes.now c.in_ok-n.rest.now c.in_ok-n.ensures.1 (c.ends_word.ensures c.if-ends_word.true) c.in_ok-n.ensures.0)
