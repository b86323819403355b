-- What was found in a value, and what it says.
use Rattle.std.proofs.Common.{◌≡◌, ◌==◌, ℕ, List, Bool, true, false, not, Option, Some, None, length, is_some, option_map, Ok, Err, refl, sym, ap, subst}
use Rattle.std.specs.Option.{option_or}
use Rattle.json.specs.Token.{Token}
use Rattle.json.specs.Json.{Json, boolean, number, string, array, object, Items, Members}
use Rattle.json.specs.Find.{InItems, InMembers, NextItem, NextMember, Finds, as_str, as_number, as_bool, as_array, as_object, is_null}
use Rattle.qa_qlog.specs.Times.{is_nothing}
use Rattle.qa_qlog.specs.Records.{or_else}
use Rattle.qa_qlog.specs.Says.{has_item, has_member, has_any, says, says_at, is_object}
use Rattle.qa_qlog.specs.declared.heads.NoHead.{NoHead}
use Rattle.qa_qlog.specs.declared.heads.NoHead.TheVariants as no
use Rattle.std.proofs.lemmas.Str.{is_utf8-from_IsUtf8, IsUtf8-from_is_utf8}
use Rattle.std.specs.Str.{IsUtf8, is_utf8}
use Rattle.json.specs.Json.{document}
use Rattle.qa_qlog.specs.Heads.{object_at, by_json, head_of}
use Rattle.qa_qlog.proofs.Beginning.{false_unless}

-- ---- what was found

pub or_found : (ts : List Token) (o p : Option Json) → Finds (Some ts) o → Finds (Some ts) (option_or o p)
or_found ts o p h = (h.0, ap (λ x. option_or x p) h.1, h.2)

pub or_second : (ts : List Token) (o p q : Option Json) → o ≡ None → Finds (Some ts) p → Finds (Some ts) (option_or o (option_or p q))
or_second ts o p q none h = subst (λ x. Finds (Some ts) (option_or x (option_or p q))) (sym none) (or_found ts p q h)

pub first_says : (r : Option (List Token)) (o p : Option Json) → Finds r o → says_at o ≡ true → Finds r (or_else o p)
first_says r o p finds says = rw says finds

-- ---- kinds of values

pub says_text : (j : Json) (s : List ℕ) → as_str j ≡ Some s → says j ≡ not (length s == 0)
says_text (string t) s h = let e : t ≡ s = cc in ap (λ x. not (length x == 0)) e
says_text j s h = cc

pub says_number : (j : Json) (s : List ℕ) → as_number j ≡ Some s → says j ≡ not (is_nothing s)
says_number (number t) s h = let e : t ≡ s = cc in ap (λ x. not (is_nothing x)) e
says_number j s h = cc

pub says_bool : (j : Json) (b : Bool) → as_bool j ≡ Some b → says j ≡ b
says_bool (boolean t) b h = cc
says_bool j b h = cc

pub says_any : (j : Json) → as_str j ≡ None → as_number j ≡ None → as_bool j ≡ None → says j ≡ has_any j
says_any (string s) a b c = cc
says_any (number s) a b c = cc
says_any (boolean t) a b c = cc
says_any j a b c = refl

pub any_none : (j : Json) → as_array j ≡ None → as_object j ≡ None → has_any j ≡ false
any_none (array js) a b = cc
any_none (object ms) a b = cc
any_none j a b = refl

-- ---- the first of many

pub some_item : (old new : List Token) (r : Option (List Token)) (js : Items) → NextItem old r new → InItems old js → is_some r ≡ has_item js
some_item old new None js next inside = ap has_item (sym (next js inside))
some_item old new (Some ts) js next inside = let f = next js inside in ap has_item (sym f.2)

pub some_member : (old new : List Token) (r : Option (List ℕ × List Token)) (ms : Members) → NextMember old r new → InMembers old ms → is_some r ≡ has_member ms
some_member old new None ms next inside = ap has_member (sym (next ms inside))
some_member old new (Some m) ms next inside = let f = next ms inside in ap has_member (sym f.2)

pub mapped_some : {A B : Type 0} (f : A → B) (o : Option A) → is_some (option_map f o) ≡ is_some o
mapped_some f None = refl
mapped_some f (Some x) = refl

-- ---- objects

pub object_here : (fault : NoHead) (j : Json) → is_null j ≡ false → is_object j ≡ true → object_at fault (Some j) ≡ Ok (Some j)
object_here fault j full is = rw (full, is) refl

-- ---- texts

pub head_text : (text line : List ℕ) → line ≡ text → IsUtf8 text → by_json (document line) ≡ head_of text
head_text text line is utf8 =
    let t : is_utf8 text ≡ true = is_utf8-from_IsUtf8 text utf8 in
    rw (t, is) refl

pub no_head_text : (text : List ℕ) → (IsUtf8 text → ⊥) → Err no.NotJson ≡ head_of text
no_head_text text never =
    let t : is_utf8 text ≡ false = false_unless (is_utf8 text) (λ h. never (IsUtf8-from_is_utf8 text h)) in
    rw t refl
