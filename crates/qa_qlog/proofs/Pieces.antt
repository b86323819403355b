-- How a log's first piece is taken.
use Rattle.std.proofs.Common.{◌≡◌, ◌∙◌, inl, inr, ◌+◌, ◌<◌, ◌≤◌, ◌++◌, ◌∷◌, ◌||◌, ℕ, suc, List, [], Bool, true, false, Some, length, refl, sym, ap, append_assoc, arith, eq-eqb, lt-ltb, le-ltb}
use Rattle.std.proofs.lemmas.List.{append-nil}
use Rattle.std.specs.Prelude.{nat_lt}
use Rattle.qa_cut.specs.Cuts.{is_mark, has_mark, Uncut, TakesPiece, BeginsTooLong}
use Rattle.qa_qlog.specs.Texts.{text_limit, is_blank, put_front, pieces, put_text, line_after, texts_from}

neither : (a b : Bool) → (a || b) ≡ false → (a ≡ false) × (b ≡ false)
neither true b h = cc
neither false b h = (refl, h)

-- bytes without a mark, the mark, and others
pub front_of_pieces : (m : ℕ) (p rest : List ℕ) → has_mark m p ≡ false → pieces m (p ++ m ∷ rest) ≡ p ∷ pieces m rest
front_of_pieces m [] rest h =
    let is : is_mark m m ≡ true = eq-eqb m m refl in
    rw is refl
front_of_pieces m (b ∷ bs) rest h =
    let parts = neither (is_mark m b) (has_mark m bs) h in
    rw parts.0 (ap (put_front b) (front_of_pieces m bs rest parts.1))

-- bytes without a mark are one piece
pub whole_piece : (m : ℕ) (p : List ℕ) → has_mark m p ≡ false → 0 < length p → pieces m p ≡ p ∷ []
whole_piece m [] h some = absurd (omega arith)
whole_piece m (b ∷ []) h some =
    let parts = neither (is_mark m b) false h in
    rw parts.0 refl
whole_piece m (b ∷ c ∷ cs) h some =
    let parts = neither (is_mark m b) (has_mark m (c ∷ cs)) h in
    rw parts.0 (ap (put_front b) (whole_piece m (c ∷ cs) parts.1 (omega arith)))

-- the first piece of bytes that begin without a mark has them
pub record Long (n : ℕ) (ps : List (List ℕ)) : Type 0 where
  pub first : List ℕ
  pub others : List (List ℕ)
  pub are : ps ≡ first ∷ others
  pub long : n ≤ length first

long_front : (b n : ℕ) (ps : List (List ℕ)) → Long n ps → Long (suc n) (put_front b ps)
long_front b n ps h = record {
  first = b ∷ h.first;
  others = h.others;
  are = ap (put_front b) h.are;
  long = let l = h.long in omega arith;
}

any_front : (b : ℕ) (ps : List (List ℕ)) → Long 1 (put_front b ps)
any_front b [] = record { first = b ∷ []; others = []; are = refl; long = omega arith }
any_front b (p ∷ ps) = record { first = b ∷ p; others = ps; are = refl; long = omega arith }

pub long_piece : (m : ℕ) (f rest : List ℕ) → has_mark m f ≡ false → 0 < length f → Long (length f) (pieces m (f ++ rest))
long_piece m [] rest h some = absurd (omega arith)
long_piece m (b ∷ []) rest h some =
    let parts = neither (is_mark m b) false h in
    rw parts.0 (any_front b (pieces m rest))
long_piece m (b ∷ c ∷ cs) rest h some =
    let parts = neither (is_mark m b) (has_mark m (c ∷ cs)) h in
    rw parts.0 (long_front b (length (c ∷ cs)) (pieces m ((c ∷ cs) ++ rest)) (long_piece m (c ∷ cs) rest parts.1 (omega arith)))

-- ---- a cutter's first piece

pub taken_first : (c : Uncut) (p rest : List ℕ) → TakesPiece c (record c { bytes = rest }) p → (more : List ℕ) → (c.closed ≡ true → more ≡ [])
    → pieces c.mark (c.bytes ++ more) ≡ p ∷ pieces c.mark (rest ++ more)
taken_first c p rest takes more follows = elim takes.taken [
  | inl e ↦
      ap (λ k. pieces c.mark (k ++ more)) e
      ∙ ap (pieces c.mark) (append_assoc p (c.mark ∷ rest) more)
      ∙ front_of_pieces c.mark p (rest ++ more) takes.is_piece.0
  | inr e ↦
      let none : more ≡ [] = follows e.0 in
      let all : c.bytes ++ more ≡ p = ap (λ k. c.bytes ++ k) none ∙ append-nil c.bytes ∙ e.1.1 in
      let nothing : rest ++ more ≡ [] = ap (λ k. rest ++ k) none ∙ append-nil rest ∙ e.1.2 in
      ap (pieces c.mark) all ∙ whole_piece c.mark p takes.is_piece.0 e.1.0 ∙ sym (ap (λ k. p ∷ pieces c.mark k) nothing)
]

pub too_long_first : (c : Uncut) → BeginsTooLong c → (more : List ℕ) → Long (c.limit + 1) (pieces c.mark (c.bytes ++ more))
too_long_first c b more =
    let some : 0 < length b.0 = let l = b.3 in omega arith in
    let l = long_piece c.mark b.0 (b.1 ++ more) b.2 some in
    record {
      first = l.first;
      others = l.others;
      are = ap (λ k. pieces c.mark (k ++ more)) b.4 ∙ ap (pieces c.mark) (append_assoc b.0 b.1 more) ∙ l.are;
      long = let front = b.3 in let whole = l.long in omega arith;
    }

-- ---- texts

pub short_test : (p : List ℕ) → length p ≤ text_limit → nat_lt text_limit (length p) ≡ false
short_test p h = le-ltb text_limit (length p) h

pub at_long : (m n : ℕ) (ps : List (List ℕ)) → Long (text_limit + 1) ps → texts_from m n ps ≡ ([], Some n)
at_long m n ps h =
    let long : nat_lt text_limit (length h.first) ≡ true = lt-ltb text_limit (length h.first) (let l = h.long in omega arith) in
    ap (texts_from m n) h.are ∙ rw long refl

pub at_blank : (m n : ℕ) (p : List ℕ) (ps : List (List ℕ)) → length p ≤ text_limit → is_blank p ≡ true
    → texts_from m n (p ∷ ps) ≡ texts_from m (line_after m n p) ps
at_blank m n p ps short blank =
    let no_longer = short_test p short in
    rw (no_longer, blank) refl

pub at_text : (m n : ℕ) (p : List ℕ) (ps : List (List ℕ)) → length p ≤ text_limit → is_blank p ≡ false
    → texts_from m n (p ∷ ps) ≡ put_text (record { line = n; bytes = p }) (texts_from m (line_after m n p) ps)
at_text m n p ps short blank =
    let no_longer = short_test p short in
    rw (no_longer, blank) refl
