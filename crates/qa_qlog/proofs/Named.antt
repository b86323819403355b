-- Fields, taken one at a time.
use Rattle.std.proofs.Common.{◌≡◌, ◌∙◌, ◌+◌, ◌<◌, ◌≤◌, ◌∷◌, ℕ, suc, List, [], Bool, true, false, cond, Option, Some, None, bytes_eq, length, drop, get_or, map, refl, sym, ap, arith, drop-cons, drop_of_length-le}
use Rattle.json.specs.Json.{Json, null, boolean, number, string, array, object, Items, no_items, item, no_members}
use Rattle.json.specs.Find.{as_object, get, get_member, later_or}
use Rattle.qa_qlog.specs.declared.heads.TimeForm.{TimeForm}
use Rattle.qa_qlog.specs.Heads.{form_named, form_of_fields}
use Rattle.qa_qlog.specs.Records.{zipped}
use Rattle.qa_qlog.proofs.Latest.{or_none, newer}

-- ---- one at a time

pub one_left : {X : Type 0} (f : X → List ℕ) (xs : List X) (i : ℕ) (d : X) → i < length xs → d ≡ get_or xs i d → map f (drop i xs) ≡ f d ∷ map f (drop (i + 1) xs)
one_left f xs i d within is =
    let next : i + 1 ≡ suc i = omega arith in
    rw next (ap (map f) (drop-cons xs i d within) ∙ ap (λ x. f x ∷ map f (drop (suc i) xs)) (sym is))

pub none_left : {X : Type 0} (f : X → List ℕ) (xs : List X) (i : ℕ) → length xs ≤ i → map f (drop i xs) ≡ []
none_left f xs i over = ap (map f) (drop_of_length-le xs over)

-- ---- forms of time

pub form_found : (fields rest : List (List ℕ)) (text : List ℕ) (form : TimeForm) → fields ≡ text ∷ rest → form_named text ≡ Some form → form_of_fields fields ≡ form
form_found fields rest text form are is = ap form_of_fields are ∙ rw is refl

pub form_passed : (fields rest : List (List ℕ)) (text : List ℕ) → fields ≡ text ∷ rest → form_named text ≡ None → form_of_fields fields ≡ form_of_fields rest
form_passed fields rest text are is = ap form_of_fields are ∙ rw is refl

-- ---- values of fields

pub zip_begun : (key : List ℕ) (fields : List (List ℕ)) (js : Items) → get_member key (zipped fields js) ≡ later_or (get_member key (zipped fields js)) None
zip_begun key fields js = or_none (get_member key (zipped fields js))

turn : (key text : List ℕ) (fields rest : List (List ℕ)) (js more : Items) (j : Json) → fields ≡ text ∷ rest → js ≡ item j more
    → get_member key (zipped fields js) ≡ later_or (get_member key (zipped rest more)) (cond (bytes_eq text key) (Some j) None)
turn key text fields rest js more j are is =
    ap (λ fs. get_member key (zipped fs js)) are ∙ ap (λ l. get_member key (zipped (text ∷ rest) l)) is

pub zip_named : (key text : List ℕ) (fields rest : List (List ℕ)) (js more : Items) (j : Json) (earlier : Option Json) → fields ≡ text ∷ rest → js ≡ item j more → bytes_eq text key ≡ true
    → later_or (get_member key (zipped fields js)) earlier ≡ later_or (get_member key (zipped rest more)) (Some j)
zip_named key text fields rest js more j earlier are is same =
    let pick : Bool → Option Json = λ b. later_or (later_or (get_member key (zipped rest more)) (cond b (Some j) None)) earlier in
    ap (λ o. later_or o earlier) (turn key text fields rest js more j are is) ∙ ap pick same ∙ newer (get_member key (zipped rest more)) j earlier

pub zip_other : (key text : List ℕ) (fields rest : List (List ℕ)) (js more : Items) (j : Json) (earlier : Option Json) → fields ≡ text ∷ rest → js ≡ item j more → bytes_eq text key ≡ false
    → later_or (get_member key (zipped fields js)) earlier ≡ later_or (get_member key (zipped rest more)) earlier
zip_other key text fields rest js more j earlier are is other =
    let pick : Bool → Option Json = λ b. later_or (later_or (get_member key (zipped rest more)) (cond b (Some j) None)) earlier in
    ap (λ o. later_or o earlier) (turn key text fields rest js more j are is) ∙ ap pick other
    ∙ ap (λ o. later_or o earlier) (sym (or_none (get_member key (zipped rest more))))

nothing : (fields : List (List ℕ)) → zipped fields no_items ≡ no_members
nothing [] = refl
nothing (f ∷ fs) = refl

pub zip_no_items : (key : List ℕ) (fields : List (List ℕ)) (js : Items) (earlier : Option Json) → js ≡ no_items → later_or (get_member key (zipped fields js)) earlier ≡ earlier
zip_no_items key fields js earlier none =
    ap (λ l. later_or (get_member key (zipped fields l)) earlier) none ∙ ap (λ ms. later_or (get_member key ms) earlier) (nothing fields)

pub zip_no_fields : (key : List ℕ) (fields : List (List ℕ)) (js : Items) (earlier : Option Json) → fields ≡ [] → later_or (get_member key (zipped fields js)) earlier ≡ earlier
zip_no_fields key fields js earlier none = ap (λ fs. later_or (get_member key (zipped fs js)) earlier) none

-- ---- values at keys

pub get_nothing : (name : List ℕ) (j : Json) → as_object j ≡ None → get name j ≡ None
get_nothing name null e = refl
get_nothing name (boolean b) e = refl
get_nothing name (number s) e = refl
get_nothing name (string s) e = refl
get_nothing name (array js) e = refl
get_nothing name (object ms) e = cc
