-- What is read of a text that is JSON: the roles of its traces, and the schema of its events.
use Rattle.std.proofs.Common.{◌≡◌, ◌∙◌, ℕ, true, false, List, Option, None, Some, Ok, Err, Result, refl, sym, ap}
use Rattle.std.specs.Prelude.{◌++◌, ◌∷◌, ◌==◌, [], IfOk, IsUtf8, is_some, length, map}
use Rattle.std.specs.Str.{is_utf8}
use Rattle.std.proofs.Math.Dec.{eqb-suc-zero}
use Rattle.std.proofs.lemmas.Bool.{false≢true}
use Rattle.std.proofs.lemmas.List.{append_assoc}
use Rattle.std.proofs.lemmas.Str.{is_utf8-from_IsUtf8}
use Rattle.json.specs.Find.{BeginsWith}
use Rattle.json.specs.Json.{Items, Json, document, item}
use Rattle.json.specs.Token.{Token}
use Rattle.qa_base.specs.declared.space.Role.{Role}
use Rattle.qa_qlog.specs.Frames.{listed}
use Rattle.qa_qlog.specs.Kinds.{json_of}
use Rattle.qa_logs.specs.Choosing.{role_of}
use Rattle.qa_logs.specs.Heads.{or_version}

found_at : (o : Option Json) → is_some o ≡ true → (j : Json) × (o ≡ Some j)
found_at None is = absurd (false≢true is)
found_at (Some j) is = (j, refl)

pub parsed_at : (text line : List ℕ) (tape : List Token) → line ≡ text → IsUtf8 text → is_some (document line) ≡ true → ((j : Json) → document line ≡ Some j → BeginsWith tape j) → (j : Json) × (json_of text ≡ Some j) × BeginsWith tape j
parsed_at text line tape same utf8 some value =
    let found = found_at (document line) some in
    let is : is_utf8 text ≡ true = is_utf8-from_IsUtf8 text utf8 in
    let at : document text ≡ Some found.0 = ap document (sym same) ∙ found.1 in
    (found.0, rw is at, value found.0 found.1)

pub if_ok : {A E : Type 0} {P Q : A → Type 0} (r : Result A E) → ((a : A) → P a → Q a) → IfOk r P → IfOk r Q
if_ok (Ok a) f is = f a is
if_ok (Err e) f is = tt

pub err_same : {A E : Type 0} (d e : E) → ◌≡◌ {A = Result A E} (Err d) (Err e) → d ≡ e
err_same d e is = cc

pub added_role : (d : Json) (all done added : List (Option Role)) (role : Option Role) (js : Items) (j : Json) (rest : Items) → js ≡ item j rest → role ≡ role_of d j → added ≡ done ++ role ∷ [] → done ++ map (role_of d) (listed js) ≡ all → added ++ map (role_of d) (listed rest) ≡ all
added_role d all done added role js j rest here said more is =
    let others = map (role_of d) (listed rest) in
    ap (λ us. us ++ others) more
    ∙ append_assoc done (role ∷ []) others
    ∙ ap (λ r. done ++ r ∷ others) said
    ∙ ap (λ items. done ++ map (role_of d) (listed items)) (sym here)
    ∙ is

pub no_schema : (read schema version result : List ℕ) → read ≡ schema → (length read == 0) ≡ true → result ≡ version → result ≡ or_version schema version
no_schema [] schema version result is empty other = other ∙ ap (λ s. or_version s version) is
no_schema (b ∷ bs) schema version result is empty other = absurd (false≢true (sym (eqb-suc-zero (length bs)) ∙ empty))

pub has_schema : (read schema version : List ℕ) → read ≡ schema → (length read == 0) ≡ false → read ≡ or_version schema version
has_schema [] schema version is full = absurd (false≢true (sym full))
has_schema (b ∷ bs) schema version is full = ap (λ s. or_version s version) is
