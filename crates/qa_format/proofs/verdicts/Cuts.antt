-- How bytes are cut into lines.
use Rattle.std.proofs.Common.{◌≡◌, ◌∙◌, ◌+◌, ◌*◌, ◌<◌, ◌≤◌, ℕ, List, [], ◌∷◌, ◌++◌, length, Bool, true, false, cond, ◌||◌, refl, sym, ap, arith, append_assoc, length-append}
use Rattle.std.proofs.lemmas.List.{append-nil}
use Rattle.std.specs.List.{AllByRecursion}
use Rattle.qa_format.specs.format.Lines.{is_lf, has_lf, line_limit, put_front, cut, ended_lines, unended, last_line, lines, with_lf, ended, IsShortLine}

-- lines, and a rest of bytes behind them
abbrev pub Cut : Type 0
Cut = List (List ℕ) × List ℕ

-- ---- bytes without LF, and then others

-- bytes without LF before what was cut
abbrev pub prepend : List ℕ → Cut → Cut
prepend l ([], rest) = ([], l ++ rest)
prepend l (m ∷ ms, rest) = ((l ++ m) ∷ ms, rest)

pub prepend-nil : (p : Cut) → p ≡ prepend [] p
prepend-nil ([], rest) = refl
prepend-nil (m ∷ ms, rest) = refl

pub put_front-prepend : (b : ℕ) (bs : List ℕ) (p : Cut) → put_front b (prepend bs p) ≡ prepend (b ∷ bs) p
put_front-prepend b bs ([], rest) = refl
put_front-prepend b bs (m ∷ ms, rest) = refl

either_false : (a b : Bool) → (a || b) ≡ false → (a ≡ false) × (b ≡ false)
either_false true b h = cc
either_false false b h = (refl, h)

pub cut_front : (l rest : List ℕ) → has_lf l ≡ false → cut (l ++ rest) ≡ prepend l (cut rest)
cut_front [] rest h = prepend-nil (cut rest)
cut_front (b ∷ bs) rest h =
    let parts = either_false (is_lf b) (has_lf bs) h in
    rw parts.0 (ap (put_front b) (cut_front bs rest parts.1) ∙ put_front-prepend b bs (cut rest))

pub cut_without_lf : (l : List ℕ) → has_lf l ≡ false → cut l ≡ ([], l)
cut_without_lf l h =
    let whole : l ++ [] ≡ l = append-nil l in
    ap cut (sym whole) ∙ (cut_front l [] h ∙ ap (λ (k : List ℕ). ([], k)) whole)

-- ---- a line and its LF, and then others

pub cut_line : (l rest : List ℕ) → has_lf l ≡ false → cut (l ++ 10 ∷ rest) ≡ (l ∷ (cut rest).0, (cut rest).1)
cut_line l rest h = cut_front l (10 ∷ rest) h ∙ ap (λ (m : List ℕ). (m ∷ (cut rest).0, (cut rest).1)) (append-nil l)

regroup : (l more rest : List ℕ) → (with_lf l ++ more) ++ rest ≡ l ++ 10 ∷ (more ++ rest)
regroup l more rest = append_assoc (with_lf l) more rest ∙ append_assoc l (10 ∷ []) (more ++ rest)

pub cut_ended : (ls : List (List ℕ)) (rest : List ℕ) → AllByRecursion IsShortLine ls → cut (ended ls ++ rest) ≡ (ls ++ (cut rest).0, (cut rest).1)
cut_ended [] rest h = refl
cut_ended (l ∷ ls) rest h =
    ap cut (regroup l (ended ls) rest)
    ∙ (cut_line l (ended ls ++ rest) h.0.0 ∙ ap (λ (p : Cut). (l ∷ p.0, p.1)) (cut_ended ls rest h.1))

pub lines_ended : (ls : List (List ℕ)) (rest : List ℕ) → AllByRecursion IsShortLine ls → lines (ended ls ++ rest) ≡ ls ++ lines rest
lines_ended ls rest h =
    ap (λ (p : Cut). p.0 ++ last_line p.1) (cut_ended ls rest h) ∙ append_assoc ls (cut rest).0 (last_line (cut rest).1)

-- ---- one more line

pub short_snoc : (ls : List (List ℕ)) (l : List ℕ) → AllByRecursion IsShortLine ls → IsShortLine l → AllByRecursion IsShortLine (ls ++ l ∷ [])
short_snoc [] l h s = (s, tt)
short_snoc (m ∷ ls) l h s = (h.0, short_snoc ls l h.1 s)

pub ended_snoc : (ls : List (List ℕ)) (l rest bytes : List ℕ) → bytes ≡ ended ls ++ (l ++ 10 ∷ rest) → bytes ≡ ended (ls ++ l ∷ []) ++ rest
ended_snoc [] l rest bytes e = e ∙ sym (regroup l [] rest)
ended_snoc (m ∷ ls) l rest bytes e =
    e ∙ (append_assoc (with_lf m) (ended ls) (l ++ 10 ∷ rest)
    ∙ (ap (λ k. with_lf m ++ k) (ended_snoc ls l rest _ refl) ∙ sym (append_assoc (with_lf m) (ended (ls ++ l ∷ [])) rest)))

-- ---- the end of the bytes

pub last_line_at : (l : List ℕ) → 0 < length l → last_line l ≡ l ∷ []
last_line_at [] h = absurd (omega arith)
last_line_at (b ∷ bs) h = refl

-- the lines of bytes whose last line no LF ends
pub lines_at_end : (ls : List (List ℕ)) (l bytes : List ℕ) → AllByRecursion IsShortLine ls → bytes ≡ ended ls ++ l → has_lf l ≡ false → 0 < length l
    → lines bytes ≡ ls ++ l ∷ []
lines_at_end ls l bytes short e one some =
    ap lines e ∙ (lines_ended ls l short
    ∙ ap (λ k. ls ++ k) (ap (λ (p : Cut). p.0 ++ last_line p.1) (cut_without_lf l one) ∙ last_line_at l some))

pub lines_at_lf : (ls : List (List ℕ)) (rest bytes : List ℕ) → AllByRecursion IsShortLine ls → bytes ≡ ended ls ++ rest → rest ≡ [] → lines bytes ≡ ls
lines_at_lf ls rest bytes short e none = ap lines (e ∙ ap (λ k. ended ls ++ k) none) ∙ (lines_ended ls [] short ∙ append-nil ls)

-- an LF does not stand in one line
pub lf_inside : (front rest : List ℕ) → has_lf (front ++ 10 ∷ rest) ≡ false → ⊥
lf_inside [] rest h = cc
lf_inside (b ∷ bs) rest h = lf_inside bs rest (either_false (is_lf b) (has_lf (bs ++ 10 ∷ rest)) h).1

-- ---- bytes behind bytes

-- lines before what was cut
abbrev pub join : List (List ℕ) → Cut → Cut
join ls p = (ls ++ p.0, p.1)

cut_step : (b : ℕ) (c g : Cut) → put_front b (join c.0 (prepend c.1 g)) ≡ join (put_front b c).0 (prepend (put_front b c).1 g)
cut_step b ([], rest) g = put_front-prepend b rest g
cut_step b (l ∷ ls, rest) g = refl

cut_test : (lf : Bool) (b : ℕ) (x c g : Cut) → x ≡ join c.0 (prepend c.1 g)
    → cond lf ([] ∷ x.0, x.1) (put_front b x)
    ≡ join (cond lf ([] ∷ c.0, c.1) (put_front b c)).0 (prepend (cond lf ([] ∷ c.0, c.1) (put_front b c)).1 g)
cut_test true b x c g e = ap (λ (p : Cut). ([] ∷ p.0, p.1)) e
cut_test false b x c g e = ap (put_front b) e ∙ cut_step b c g

pub cut_append : (f g : List ℕ) → cut (f ++ g) ≡ join (cut f).0 (prepend (cut f).1 (cut g))
cut_append [] g = prepend-nil (cut g)
cut_append (b ∷ bs) g = cut_test (is_lf b) b (cut (bs ++ g)) (cut bs) (cut g) (cut_append bs g)

-- the lines of bytes behind bytes: those that an LF ends in the first, and then those of its rest with the second
pub lines_append : (f g : List ℕ)
    → lines (f ++ g) ≡ ended_lines f ++ ((prepend (unended f) (cut g)).0 ++ last_line (prepend (unended f) (cut g)).1)
lines_append f g = ap (λ (p : Cut). p.0 ++ last_line p.1) (cut_append f g) ∙ append_assoc (ended_lines f) _ _

-- ---- a line that is too long

-- the first line of bytes without LF before what was cut
unfoldable pub first_line : List ℕ → Cut → List ℕ
first_line front ([], rest) = front ++ rest
first_line front (m ∷ ms, rest) = front ++ m

pub first_line_is_long : (front : List ℕ) (p : Cut) → line_limit < length front → line_limit < length (first_line front p)
unfolding first_line
first_line_is_long front ([], rest) h = simp length-append (omega arith)
first_line_is_long front (m ∷ ms, rest) h = simp length-append (omega arith)

pub first_line_stands : (front : List ℕ) (p : Cut) → line_limit < length front
    → (ms : List (List ℕ)) × ((prepend front p).0 ++ last_line (prepend front p).1 ≡ first_line front p ∷ ms)
unfolding first_line
first_line_stands front ([], rest) h = ([], last_line_at (front ++ rest) (simp length-append (omega arith)))
first_line_stands front (m ∷ ms, rest) h = (ms ++ last_line rest, refl)

-- ---- how many bytes lines have

pub length-ended : (ls : List (List ℕ)) → AllByRecursion IsShortLine ls → length (ended ls) ≤ 65537 * length ls
length-ended [] h = omega arith
length-ended (l ∷ ls) h =
    let rest = length-ended ls h.1 in
    let short : length l ≤ 65536 = h.0.1 in
    let e : length (ended (l ∷ ls)) ≡ (length l + 1) + length (ended ls) = simp length-append refl in
    omega arith
