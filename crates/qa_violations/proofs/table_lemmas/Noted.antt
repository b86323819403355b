-- The rows of a table that was told of one more finding.
use Rattle.std.proofs.Common.{◌≡◌, ◌∙◌, refl, sym, ℕ, suc, Bool, true, false, List, [], ◌∷◌, ◌++◌, ap, length, filter, map, Option, Some, None, arith}
use Rattle.std.proofs.lemmas.Bool.{ne_eqb}
use Rattle.std.proofs.lemmas.List.{append-nil, length-append, reverse-append}
use Rattle.std.proofs.lemmas.List.Elements.{filter-append}
use Rattle.std.specs.Prelude.{◌==◌, if◌then◌else◌}
use Rattle.qa_base.specs.declared.rule.Rule.{Rule}
use Rattle.qa_violations.specs.declared.table.finding.Finding.{Finding}
use Rattle.qa_violations.specs.table.Steps.{after, all_after, grown, one_more}
use Rattle.qa_violations.specs.table.Table.{counted, first_line, greater, greatest, is_found, kinds, last_line, row_of, row_with, rows_of}

-- ---- one more finding of a rule

not_none : (n : ℕ) → (counted (suc n) == 0) ≡ false
not_none n = ne_eqb (counted (suc n)) 0 (λ is. omega arith)

first_noted : (fs : List Finding) (f : Finding) → first_line (fs ++ f ∷ []) ≡ (if counted (length fs) == 0 then f.line else first_line fs)
first_noted [] f = refl
first_noted (g ∷ fs) f = rw (not_none (length fs)) refl

last_noted : (fs : List Finding) (f : Finding) → last_line (fs ++ f ∷ []) ≡ f.line
last_noted fs f = ap first_line (reverse-append fs (f ∷ []))

greater_none : (a : Option ℕ) → greater a None ≡ a
greater_none None = refl
greater_none (Some a) = refl

greater_joins : (a b c : Option ℕ) → greater a (greater b c) ≡ greater (greater a b) c
greater_joins None b c = refl
greater_joins (Some a) None c = refl
greater_joins (Some a) (Some b) None = refl
greater_joins (Some a) (Some b) (Some c) = ap Some (omega arith)

greatest_noted : (fs : List Finding) (f : Finding) → greatest (fs ++ f ∷ []) ≡ greater (greatest fs) f.amount
greatest_noted [] f = greater_none f.amount
greatest_noted (g ∷ fs) f = ap (greater g.amount) (greatest_noted fs f) ∙ greater_joins g.amount (greatest fs) f.amount

pub count_noted : (fs : List Finding) (f : Finding) → counted (length (fs ++ f ∷ [])) ≡ one_more (counted (length fs))
count_noted fs f = ap counted (length-append fs (f ∷ [])) ∙ (omega arith)

row_grown : (r : Rule) (fs : List Finding) (f : Finding) → grown (row_with r fs) f ≡ row_with r (fs ++ f ∷ [])
row_grown r fs f = rw (count_noted fs f, first_noted fs f, last_noted fs f, greatest_noted fs f) refl

-- ---- one more finding

-- a row of these findings, behind one more that is of its kind or not
either_noted : (r : Rule) (f : Finding) (fs : List Finding) (found : Bool)
    → (if found then grown (row_with r fs) f else row_with r fs) ≡ row_with r (fs ++ (if found then f ∷ [] else []))
either_noted r f fs true = row_grown r fs f
either_noted r f fs false = rw append-nil refl

row_noted : (f : Finding) (fs : List Finding) (r : Rule) → after f (row_of r fs) ≡ row_of r (fs ++ f ∷ [])
row_noted f fs r =
    either_noted r f (filter (is_found r) fs) (is_found r f)
    ∙ ap (row_with r) (sym (filter-append (is_found r) fs (f ∷ [])))

-- ---- the table

noted_in : (f : Finding) (fs : List Finding) (rs : List Rule)
    → all_after f (map (λ r. row_of r fs) rs) ≡ map (λ r. row_of r (fs ++ f ∷ [])) rs
noted_in f fs [] = refl
noted_in f fs (r ∷ rs) = rw (row_noted f fs r) (ap (λ rows. row_of r (fs ++ f ∷ []) ∷ rows) (noted_in f fs rs))

pub rows_noted : (f : Finding) (fs : List Finding) → all_after f (rows_of fs) ≡ rows_of (fs ++ f ∷ [])
unfolding rows_of
rows_noted f fs = noted_in f fs kinds
