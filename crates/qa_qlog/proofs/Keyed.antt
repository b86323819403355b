-- The keys of a report, taken one at a time, and a part of a name.
use Rattle.std.proofs.Common.{◌≡◌, ◌∙◌, ◌+◌, ◌<◌, ◌∷◌, ℕ, zero, suc, List, [], true, false, bytes_eq, length, drop, nat_eq, refl, ap, arith}
use Rattle.std.specs.List.{starts_with}
use Rattle.json.specs.Json.{Json, Members, no_members, member}
use Rattle.qa_qlog.specs.Metrics.{are_all, are_only}
use Rattle.qa_qlog.specs.Secrets.{occurs}

-- ---- keys

pub all_end : (key : List ℕ) (ms : Members) → ms ≡ no_members → are_all key ms ≡ true
all_end key ms is = ap (are_all key) is

pub all_more : (key k : List ℕ) (ms rest : Members) (j : Json) → ms ≡ member k j rest → bytes_eq k key ≡ true → are_all key ms ≡ are_all key rest
all_more key k ms rest j is same = ap (are_all key) is ∙ rw same refl

pub all_other : (key k : List ℕ) (ms rest : Members) (j : Json) → ms ≡ member k j rest → bytes_eq k key ≡ false → are_all key ms ≡ false
all_other key k ms rest j is other = ap (are_all key) is ∙ rw other refl

pub only_end : (key : List ℕ) (ms : Members) → ms ≡ no_members → are_only key ms ≡ false
only_end key ms is = ap (are_only key) is

pub only_more : (key k : List ℕ) (ms rest : Members) (j : Json) → ms ≡ member k j rest → bytes_eq k key ≡ true → are_only key ms ≡ are_all key rest
only_more key k ms rest j is same = ap (are_only key) is ∙ rw same refl

pub only_other : (key k : List ℕ) (ms rest : Members) (j : Json) → ms ≡ member k j rest → bytes_eq k key ≡ false → are_only key ms ≡ false
only_other key k ms rest j is other = ap (are_only key) is ∙ rw other refl

-- ---- parts

passed_here : (part name : List ℕ) (i : ℕ) → i < length name → starts_with nat_eq (drop i name) part ≡ false → occurs part (drop (suc i) name) ≡ occurs part (drop i name)
passed_here part [] i within not_here = absurd (omega arith)
passed_here part (b ∷ bs) zero within not_here = rw not_here refl
passed_here part (b ∷ bs) (suc i) within not_here = passed_here part bs i (omega arith) not_here

-- a part that does not begin here is in the rest, or nowhere from here on
pub passed : (part name : List ℕ) (i : ℕ) → i < length name → starts_with nat_eq (drop i name) part ≡ false → occurs part (drop (i + 1) name) ≡ occurs part (drop i name)
passed part name i within not_here =
    let next : i + 1 ≡ suc i = omega arith in
    rw next (passed_here part name i within not_here)
