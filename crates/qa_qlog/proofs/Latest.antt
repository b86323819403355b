-- The last member of a name, found as members are passed one at a time.
use Rattle.std.proofs.Common.{◌≡◌, ◌∙◌, ℕ, List, Bool, true, false, cond, Option, Some, None, refl, sym, ap, subst}
use Rattle.std.proofs.lemmas.Slice.Eq.{bytes_eq-Decides}
use Rattle.std.specs.Str.{bytes_eq}
use Rattle.json.specs.Token.{Token}
use Rattle.json.specs.Json.{Json, Members, no_members, member}
use Rattle.json.specs.Find.{BeginsWith, Finds, later_or, get_member}

pub or_none : (o : Option Json) → o ≡ later_or o None
or_none None = refl
or_none (Some j) = refl

pub newer : (o : Option Json) (j : Json) (p : Option Json) → later_or (later_or o (Some j)) p ≡ later_or o (Some j)
newer None j p = refl
newer (Some k) j p = refl

-- while these members are left, what is to be found is there or is what was found
abbrev pub Latest : List ℕ → Option Json → Members → Option (List Token) → Type 0
Latest name whole rest found = (earlier : Option Json) × Finds found earlier × (whole ≡ later_or (get_member name rest) earlier)

pub begun : (name : List ℕ) (ms : Members) → Latest name (get_member name ms) ms None
begun name ms = (None, refl, or_none (get_member name ms))

turn : (name key : List ℕ) (rest more : Members) (j : Json) (earlier whole : Option Json) (b : Bool)
    → whole ≡ later_or (get_member name rest) earlier → rest ≡ member key j more → bytes_eq key name ≡ b
    → whole ≡ later_or (later_or (get_member name more) (cond b (Some j) None)) earlier
turn name key rest more j earlier whole b is are test =
    is ∙ ap (λ ms. later_or (get_member name ms) earlier) are
    ∙ ap (λ x. later_or (later_or (get_member name more) (cond x (Some j) None)) earlier) test

pub named : (name key : List ℕ) (whole : Option Json) (rest more : Members) (j : Json) (found : Option (List Token)) (ts : List Token)
    → Latest name whole rest found → rest ≡ member key j more → BeginsWith ts j → bytes_eq key name ≡ true → Latest name whole more (Some ts)
named name key whole rest more j found ts now are begins same =
    (Some j, (j, refl, begins), turn name key rest more j now.0 whole true now.2 are same ∙ newer (get_member name more) j now.0)

pub other : (name key : List ℕ) (whole : Option Json) (rest more : Members) (j : Json) (found : Option (List Token))
    → Latest name whole rest found → rest ≡ member key j more → bytes_eq key name ≡ false → Latest name whole more found
other name key whole rest more j found now are differs =
    (now.0, now.1, turn name key rest more j now.0 whole false now.2 are differs ∙ ap (λ o. later_or o now.0) (sym (or_none (get_member name more))))

pub ended : (name : List ℕ) (whole : Option Json) (rest : Members) (found : Option (List Token)) → Latest name whole rest found → rest ≡ no_members → Finds found whole
ended name whole rest found now done =
    subst (Finds found) (sym (now.2 ∙ ap (λ ms. later_or (get_member name ms) now.0) done)) now.1

pub unlike : (key a b : List ℕ) → bytes_eq key a ≡ true → bytes_eq a b ≡ false → bytes_eq key b ≡ false
unlike key a b same differs =
    let is : key ≡ a = (bytes_eq-Decides key a).0 same in
    ap (λ k. bytes_eq k b) is ∙ differs
