-- What a table was told of, in parts; and the timer that was the most late of two lists.
use Rattle.std.proofs.Common.{◌≡◌, ◌∙◌, ◌+◌, ◌<◌, ℕ, false, List, [], ◌∷◌, ◌++◌, Option, None, Some, append_assoc, get_or, length, take, refl, subst, sym, ap}
use Rattle.std.proofs.lemmas.List.{append-nil, map-append, take_more}
use Rattle.std.specs.Prelude.{nat_lt}
use Rattle.qa_base.specs.machine.Timer.{Due}
use Rattle.qa_base.specs.declared.event.MetricValues.{MetricValues}
use Rattle.qa_base.specs.declared.rule.Field.{Field}
use Rattle.qa_base.specs.declared.rule.Rule.{Rule}
use Rattle.qa_base.specs.declared.rule.Rule.TheVariants as rule
use Rattle.qa_base.specs.declared.totals.Totals.{Totals}
use Rattle.qa_base.specs.values.Settings.{Settings}
use Rattle.qa_violations.specs.allowed.Allowed.{beyond, metric_off, metrics_beyond}
use Rattle.qa_violations.specs.allowed.Lines.{finding_of, findings_of, late_if, later, latest_from}
use Rattle.qa_violations.specs.declared.allowed.late.Late.{Late}
use Rattle.qa_violations.specs.declared.table.finding.Finding.{Finding}
use Rattle.qa_violations.specs.declared.table.table.Table.{Table}
use Rattle.qa_violations.specs.table.Table.{Holds}

-- two parts of findings of a line, one after another
pub holds_both : (t : Table) (fs : List Finding) (n : ℕ) (xs ys : List (Rule × ℕ)) → Holds t ((fs ++ findings_of n xs) ++ findings_of n ys) → Holds t (fs ++ findings_of n (xs ++ ys))
holds_both t fs n xs ys holds =
    subst (Holds t) (append_assoc fs (findings_of n xs) (findings_of n ys) ∙ ap (λ gs. fs ++ gs) (sym (map-append (finding_of n) xs ys))) holds

metrics_of_both : (c : Settings) (values : MetricValues) (held : Totals) (xs ys : List Field) → metrics_beyond c values held (xs ++ ys) ≡ metrics_beyond c values held xs ++ metrics_beyond c values held ys
metrics_of_both c values held [] ys = refl
metrics_of_both c values held (x ∷ xs) ys =
    let here = beyond (rule.Metric x) (metric_off c values held x) in
    ap (λ more. here ++ more) (metrics_of_both c values held xs ys) ∙ sym (append_assoc here (metrics_beyond c values held xs) (metrics_beyond c values held ys))

-- the findings of one more value of a report
pub holds_field : (t : Table) (fs : List Finding) (n : ℕ) (c : Settings) (values : MetricValues) (held : Totals) (xs : List Field) (i : ℕ) (x y : Field) → i < length xs → x ≡ get_or xs i y
    → Holds t ((fs ++ findings_of n (metrics_beyond c values held (take i xs))) ++ findings_of n (beyond (rule.Metric x) (metric_off c values held x)))
    → Holds t (fs ++ findings_of n (metrics_beyond c values held (take (i + 1) xs)))
holds_field t fs n c values held xs i x y within is holds =
    let here = beyond (rule.Metric x) (metric_off c values held x) in
    let more : take (i + 1) xs ≡ take i xs ++ x ∷ [] = take_more xs i y within ∙ ap (λ z. take i xs ++ z ∷ []) (sym is) in
    let all : metrics_beyond c values held (take (i + 1) xs) ≡ metrics_beyond c values held (take i xs) ++ here =
    ap (metrics_beyond c values held) more ∙ (metrics_of_both c values held (take i xs) (x ∷ []) ∙ ap (λ ys. metrics_beyond c values held (take i xs) ++ ys) (append-nil here)) in
    subst (λ ys. Holds t (fs ++ findings_of n ys)) (sym all) (holds_both t fs n (metrics_beyond c values held (take i xs)) here holds)

-- a timer that was not late changes nothing
pub not_late : (found : Option Late) (n : ℕ) (due : Option Due) (amount : ℕ) → nat_lt 0 amount ≡ false → found ≡ latest_from found (late_if n due amount)
not_late found n None amount is = refl
not_late found n (Some due) amount is = rw is refl

-- the most late of one list and then another
pub latest_of_both : (found : Option Late) (xs ys : List Late) → latest_from found (xs ++ ys) ≡ latest_from (latest_from found xs) ys
latest_of_both found [] ys = refl
latest_of_both found (x ∷ xs) ys = latest_of_both (Some (later found x)) xs ys
