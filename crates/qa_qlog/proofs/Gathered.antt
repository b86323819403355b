-- The frames of a packet, taken one at a time.
use Rattle.std.proofs.Common.{◌≡◌, ◌∙◌, ◌||◌, ◌∷◌, List, [], Bool, true, false, map, refl, ap}
use Rattle.std.specs.List.{list_all}
use Rattle.json.specs.Json.{Json, Items, no_items, item}
use Rattle.qa_qlog.specs.declared.frames.Content.{Content}
use Rattle.qa_qlog.specs.declared.frames.FrameType.{FrameType}
use Rattle.qa_qlog.specs.Frames.{content, joined, listed, type_of}

or_step : (a b c : Bool) → ((a || (b || false)) || c) ≡ (a || (b || c))
or_step true b c = refl
or_step false true c = refl
or_step false false c = refl

or_none : (a : Bool) → (a || false) ≡ a
or_none true = refl
or_none false = refl

pub joined_none : (a : Content) → joined a (content []) ≡ a
joined_none a = simp or_none refl

pub joined_step : (a : Content) (kind : FrameType) (kinds : List FrameType) → joined (joined a (content (kind ∷ []))) (content kinds) ≡ joined a (content (kind ∷ kinds))
joined_step a kind kinds = simp or_step refl

pub kinds_step : (js rest : Items) (j : Json) → js ≡ item j rest → map type_of (listed js) ≡ type_of j ∷ map type_of (listed rest)
kinds_step js rest j is = ap (λ l. map type_of (listed l)) is

pub kinds_end : (js : Items) → js ≡ no_items → map type_of (listed js) ≡ []
kinds_end js is = ap (λ l. map type_of (listed l)) is

-- ---- tests of each

pub passes : (test : Json → Bool) (js rest : Items) (j : Json) → js ≡ item j rest → test j ≡ true → list_all test (listed js) ≡ list_all test (listed rest)
passes test js rest j is good = ap (λ l. list_all test (listed l)) is ∙ rw good refl

pub fails : (test : Json → Bool) (js rest : Items) (j : Json) → js ≡ item j rest → test j ≡ false → list_all test (listed js) ≡ false
fails test js rest j is bad = ap (λ l. list_all test (listed l)) is ∙ rw bad refl
