-- The keys of an object as its members are kept.
use Rattle.std.proofs.Common.{◌≡◌, List, [], ◌∷◌, map, ap, refl}
use Rattle.std.specs.Prelude.{String, string_bytes}
use Rattle.std.specs.declared.alloc.Global.{Global}
use Rattle.serde_json.specs.View.{members_view}
use Rattle.serde_json.specs.declared.value.Value.{Value}
use Rattle.qa_why.specs.suggest.StandsFor.{keys}

pub keys_are : (es : List (String Global × Value)) → keys (members_view es) ≡ map string_bytes (map (λ e. e.0) es)
keys_are [] = refl
keys_are (e ∷ es) = ap (λ ks. string_bytes e.0 ∷ ks) (keys_are es)
