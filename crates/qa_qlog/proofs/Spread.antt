-- The ranges of an ACK frame, taken one at a time.
use Rattle.std.proofs.Common.{◌≡◌, ◌∙◌, ◌++◌, ◌∷◌, ℕ, List, [], Ok, Err, refl, sym, ap, append_assoc, append-nil}
use Rattle.std.specs.Prelude.{Result, OnOk, is_err, false}
use Rattle.json.specs.Json.{Json, array, Items, no_items, item}
use Rattle.qa_qlog.specs.declared.keys.NoValue.{NoValue}
use Rattle.qa_qlog.specs.declared.keys.Key.TheVariants.{AckedRanges}
use Rattle.qa_qlog.specs.declared.keys.NoValue.TheVariants.{OtherKind}
use Rattle.qa_qlog.specs.Acks.{single, span, in_list, range_of, ranges_of}
use Rattle.qa_qlog.specs.Frames.{listed}

-- ---- one range

pub range_empty : (j : Json) (js : Items) → j ≡ array js → js ≡ no_items → Err (OtherKind AckedRanges) ≡ range_of j
range_empty j js is none = sym (ap range_of is ∙ ap in_list none)

pub range_one : (j a : Json) (js rest : Items) → j ≡ array js → js ≡ item a rest → rest ≡ no_items → single a ≡ range_of j
range_one j a js rest is first none = sym (ap range_of is ∙ ap in_list first ∙ ap (λ l. in_list (item a l)) none)

pub range_two : (j a b : Json) (js rest more : Items) → j ≡ array js → js ≡ item a rest → rest ≡ item b more → more ≡ no_items → span a b ≡ range_of j
range_two j a b js rest more is first second none =
    sym (ap range_of is ∙ ap in_list first ∙ ap (λ l. in_list (item a l)) second ∙ ap (λ l. in_list (item a (item b l))) none)

pub range_three : (j a b d : Json) (js rest more others : Items) → j ≡ array js → js ≡ item a rest → rest ≡ item b more → more ≡ item d others
    → Err (OtherKind AckedRanges) ≡ range_of j
range_three j a b d js rest more others is first second third =
    sym (ap range_of is ∙ ap in_list first ∙ ap (λ l. in_list (item a l)) second ∙ ap (λ l. in_list (item a (item b l))) third)

-- ---- many

pub pushed : {A E : Type 0} (r : Result A E) (P : Type 0) → false ≡ is_err r → OnOk r P → P
pushed (Ok x) P good h = h
pushed (Err x) P good h = cc

-- ranges in front of others
abbrev pub before : List (ℕ × ℕ) → Result (List (ℕ × ℕ)) NoValue → Result (List (ℕ × ℕ)) NoValue
before had (Ok ranges) = Ok (had ++ ranges)
before had (Err fault) = Err fault

pub nothing_before : (r : Result (List (ℕ × ℕ)) NoValue) → before [] r ≡ r
nothing_before (Ok ranges) = refl
nothing_before (Err fault) = refl

more : (had : List (ℕ × ℕ)) (range : ℕ × ℕ) (j : Json) (js : List Json) (r : Result (List (ℕ × ℕ)) NoValue) → ranges_of js ≡ r → range_of j ≡ Ok range
    → before (had ++ range ∷ []) r ≡ before had (ranges_of (j ∷ js))
more had range j js (Ok ranges) rest is = rw (is, rest) (ap Ok (append_assoc had (range ∷ []) ranges))
more had range j js (Err fault) rest is = rw (is, rest) refl

pub range_more : (had : List (ℕ × ℕ)) (range : ℕ × ℕ) (js rest : Items) (j : Json) → js ≡ item j rest → range_of j ≡ Ok range
    → before (had ++ range ∷ []) (ranges_of (listed rest)) ≡ before had (ranges_of (listed js))
range_more had range js rest j is good =
    more had range j (listed rest) (ranges_of (listed rest)) refl good ∙ sym (ap (λ l. before had (ranges_of (listed l))) is)

pub range_bad : (had : List (ℕ × ℕ)) (fault : NoValue) (js rest : Items) (j : Json) → js ≡ item j rest → range_of j ≡ Err fault
    → before had (ranges_of (listed js)) ≡ Err fault
range_bad had fault js rest j is bad = ap (λ l. before had (ranges_of (listed l))) is ∙ rw bad refl

pub ranges_end : (had : List (ℕ × ℕ)) (js : Items) → js ≡ no_items → before had (ranges_of (listed js)) ≡ Ok had
ranges_end had js is = ap (λ l. before had (ranges_of (listed l))) is ∙ ap Ok (append-nil had)
