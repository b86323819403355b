-- The numbers that ranges name beside others.
use Rattle.std.proofs.Common.{◌≡◌, ◌∙◌, ◌≤◌, ℕ, Bool, true, false, ◌&&◌, ◌||◌, not, nat_le, List, [], ◌∷◌, fold, refl, ap, arith}
use Rattle.std.specs.List.{AllByRecursion}
use Rattle.std.specs.Prelude.{◌==◌}
use Rattle.std.proofs.lemmas.Bool.Decides.{nat_tests}
use Rattle.qa_base.specs.machine.Numbers.{is_in}
use Rattle.qa_base.specs.values.Events.{is_named}
use Rattle.qa_packet_numbers.specs.Missing.{others, runs_of, with_number, with_range, without_number}
use Rattle.qa_packet_numbers.specs.Runs.{AreApart, inserted, removed}
use Rattle.qa_packet_numbers.proofs.Removed.{all_stay, apart_removed, names_removed}
use Rattle.qa_packet_numbers.proofs.Sets.{apart_inserted, names_inserted}

-- ---- runs

apart_numbers : (ns : List ℕ) (runs : List (ℕ × ℕ)) → AreApart runs → AreApart (fold with_number runs ns)
apart_numbers [] runs apart = apart
apart_numbers (n ∷ ns) runs apart = apart_numbers ns (inserted (n, n) runs) (apart_inserted (n, n) runs (omega arith) apart)

pub apart_runs : (ns : List ℕ) → AreApart (runs_of ns)
apart_runs ns = apart_numbers ns [] tt

-- ---- ranges

moved : (a b c : Bool) → (b || (a || c)) ≡ ((a || b) || c)
moved true true c = refl
moved true false c = refl
moved false b c = refl

named_ranges : (rs runs : List (ℕ × ℕ)) (n : ℕ) → AllByRecursion (λ range. range.0 ≤ range.1) rs → AreApart runs
    → is_named (fold with_range runs rs) n ≡ (is_named rs n || is_named runs n)
named_ranges [] runs n proper apart = refl
named_ranges (r ∷ rs) runs n proper apart =
    named_ranges rs (inserted r runs) n proper.1 (apart_inserted r runs proper.0 apart)
    ∙ (ap (λ b. is_named rs n || b) (names_inserted r runs n proper.0 apart) ∙ moved (nat_le r.0 n && nat_le n r.1) (is_named rs n) (is_named runs n))

apart_ranges : (rs runs : List (ℕ × ℕ)) → AllByRecursion (λ range. range.0 ≤ range.1) rs → AreApart runs → AreApart (fold with_range runs rs)
apart_ranges [] runs proper apart = apart
apart_ranges (r ∷ rs) runs proper apart = apart_ranges rs (inserted r runs) proper.1 (apart_inserted r runs proper.0 apart)

-- ---- others

less : (named here : Bool) (m n : ℕ) → ((named && not (n == m)) && not here) ≡ (named && not ((m == n) || here))
less true true m n = grind (arith, nat_tests)
less true false m n = grind (arith, nat_tests)
less false here m n = refl

named_less : (ns : List ℕ) (runs : List (ℕ × ℕ)) (n : ℕ) → AreApart runs → is_named (fold without_number runs ns) n ≡ (is_named runs n && not (is_in ns n))
named_less [] runs n apart = all_stay (is_named runs n)
named_less (m ∷ ns) runs n apart =
    named_less ns (removed m runs) n (apart_removed m runs apart)
    ∙ (ap (λ b. b && not (is_in ns n)) (names_removed m runs n apart) ∙ less (is_named runs n) (is_in ns n) m n)

apart_less : (ns : List ℕ) (runs : List (ℕ × ℕ)) → AreApart runs → AreApart (fold without_number runs ns)
apart_less [] runs apart = apart
apart_less (m ∷ ns) runs apart = apart_less ns (removed m runs) (apart_removed m runs apart)

or_nothing : (b : Bool) → (b || false) ≡ b
or_nothing true = refl
or_nothing false = refl

pub named_others : (rs : List (ℕ × ℕ)) (ns : List ℕ) (n : ℕ) → AllByRecursion (λ range. range.0 ≤ range.1) rs
    → is_named (others rs ns) n ≡ (is_named rs n && not (is_in ns n))
named_others rs ns n proper =
    named_less ns (fold with_range [] rs) n (apart_ranges rs [] proper tt)
    ∙ ap (λ b. b && not (is_in ns n)) (named_ranges rs [] n proper tt ∙ or_nothing (is_named rs n))

pub apart_others : (rs : List (ℕ × ℕ)) (ns : List ℕ) → AllByRecursion (λ range. range.0 ≤ range.1) rs → AreApart (others rs ns)
apart_others rs ns proper = apart_less ns (fold with_range [] rs) (apart_ranges rs [] proper tt)
